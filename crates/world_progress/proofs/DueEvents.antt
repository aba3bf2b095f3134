-- A node or a message whose last allowed time has come has an event within the bounds.
use Rattle.std.proofs.Common.{◌≡◌, ◌⊎◌, inl, inr, ℕ, ◌+◌, ◌-◌, ◌<◌, ◌≤◌, Bool, true, false, length, Option, Some}
use Rattle.std.proofs.Common.{None}
use Rattle.std.proofs.Common.{refl, sym, ap, subst, arith}
use Rattle.std.specs.Prelude.{min, max, is_some, if◌then◌else◌}
use Rattle.std.specs.Option.{unwrap_or}
use Rattle.std.proofs.lemmas.Bool.{cases_lt}
use Rattle.std.proofs.lemmas.Option.{none-some, same_Some}
use Rattle.pals_base.specs.declared.basic_types.NodeNo.{NodeNo}
use Rattle.pals_runs.specs.declared.events_and_faults.Event.TheVariants as event
use Rattle.pals_runs.specs.declared.phase.Phase.{Phase}
use Rattle.pals_runs.specs.declared.phase.Phase.TheVariants.{Waiting, Running, Between, Holding, Done}
use Rattle.bus_machine.specs.Plans.{plan_of}
use Rattle.bus_machine.specs.NodeEvents.{is_waiting, next_step, running_step, may_send}
use Rattle.bus_machine.specs.LinkEvents.{is_in_flight}
use Rattle.bus_machine.specs.AlarmsAndReleases.{start_alarm, step_alarm, release_reading}
use Rattle.bus_machine.specs.BusStates.{node_at, flight_at}
use Rattle.bus_machine.specs.RunParameters.{Run}
use Rattle.bus_machine.specs.proof.AgreementLaws.{IsRunOf}
use Rattle.run_laws.specs.Worlds.{World, reading_at, ready_at}
use Rattle.run_laws.specs.Deadlines.{phase_deadline, send_deadline, lesser, node_deadline, message_deadline}
use Rattle.run_laws.specs.proof.WorldInvariant.{KeepsTime}
use Rattle.world_gen.proofs.FaultlessEvents.{start_is_fine, step_is_fine, finish_is_fine, send_is_fine, arrival_is_fine}
use Rattle.world_progress.specs.proof.WorldProgress.{CanGoOn, event_occurs}

-- a last allowed time that has come
pub record HasCome (time : ℕ) (o : Option ℕ) : Type 0 where
  pub last : ℕ
  pub is : o ≡ Some last
  pub come : last ≤ time

-- of two, the lesser one is one of them
one_of_two : (time : ℕ) (a b : Option ℕ) → HasCome time (lesser a b) → HasCome time a ⊎ HasCome time b
one_of_two time None b come = inr come
one_of_two time (Some a) None come = inl come
one_of_two time (Some a) (Some b) come =
    let same : min a b ≡ come.last = same_Some _ _ come.is in
    let below = come.come in
    elim (cases_lt time a) [
      | inr first ↦ inl (record { last = a; is = refl; come = first })
      | inl later ↦ inr (record { last = b; is = refl; come = omega arith })
    ]

module _ (run : Run) (w : World) (rules : IsRunOf run) (keeps : KeepsTime run w) where
  module _ (node : ℕ) (within : node < length run.design.components) where
    abbrev no : NodeNo
    no = record { 0 = node }

    -- a clock reads an alarm by the last time that the skew allows
    reads : (alarm : ℕ) → alarm + run.design.gamma.eps - 1 ≤ w.time → alarm ≤ reading_at w node
    reads alarm come = let near = keeps.clocks node within in let slow = near.slow in omega arith

    by_phase : (p : Phase) → (node_at w.bus node).phase ≡ p → HasCome w.time (phase_deadline run w node p)
        → CanGoOn run w
    by_phase Waiting is come =
        let last = same_Some _ _ come.is in
        let at = come.come in
        let alarm = start_alarm (plan_of run.design node) (node_at w.bus node) in
        event_occurs (event.Start no) (λ none. none-some _ (sym none))
        (start_is_fine run w no within (ap is_waiting is) (reads alarm (omega arith)))
    by_phase (Running step) is come =
        let last = same_Some _ _ come.is in
        let at = come.come in
        let least = rules.design.gamma.execution.0 in
        event_occurs (event.Finish no) (λ none. none-some _ (sym none))
        (finish_is_fine run w no within (ap (λ p. is_some (running_step p)) is) (omega arith))
    by_phase (Between steps) is come =
        let last = same_Some _ _ come.is in
        let at = come.come in
        let n = node_at w.bus node in
        let alarm = step_alarm (plan_of run.design node) n steps in
        let due : alarm ≤ reading_at w node = reads alarm (omega arith) in
        let next : steps ≡ unwrap_or (next_step n.phase) 0 = ap (λ p. unwrap_or (next_step p) 0) (sym is) in
        event_occurs (event.Step no) (λ none. none-some _ (sym none))
        (step_is_fine run w no within (ap (λ p. is_some (next_step p)) is)
        (subst (λ (k : ℕ). step_alarm (plan_of run.design node) n k ≤ reading_at w node) next due))
    by_phase Holding is come = absurd (none-some _ come.is)
    by_phase Done is come = absurd (none-some _ come.is)

    by_send : (may : Bool) → may_send (plan_of run.design node) (node_at w.bus node) ≡ may
        → HasCome w.time (if may then Some (max (ready_at w node)
        (release_reading (plan_of run.design node) (node_at w.bus node) + run.design.gamma.eps - 1)) else None)
        → CanGoOn run w
    by_send true is come =
        let release = release_reading (plan_of run.design node) (node_at w.bus node) in
        let last : max (ready_at w node) (release + run.design.gamma.eps - 1) ≡ come.last = same_Some _ _ come.is in
        let at = come.come in
        event_occurs (event.Send no) (λ none. none-some _ (sym none))
        (send_is_fine run w no within is (reads release (omega arith)))
    by_send false is come = absurd (none-some _ come.is)

    pub node_event : HasCome w.time (node_deadline run w node) → CanGoOn run w
    node_event come =
        let n = node_at w.bus node in
        elim (one_of_two w.time (phase_deadline run w node n.phase) (send_deadline run w node) come) [
          | inl phase ↦ by_phase n.phase refl phase
          | inr send ↦ by_send (may_send (plan_of run.design node) n) refl send
        ]

  pub message_event : (number round : ℕ) → number < length run.design.links
      → is_in_flight round (flight_at w.bus number) ≡ true → message_deadline run w number round ≤ w.time
      → CanGoOn run w
  message_event number round within flies come =
      let least = rules.design.gamma.network.0 in
      event_occurs (event.Arrive (record { 0 = number }) round) (λ none. none-some _ (sym none))
      (arrival_is_fine run w (record { 0 = number }) round within flies (omega arith))
