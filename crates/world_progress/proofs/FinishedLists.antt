-- Each list of events within the bounds is the first part of one after which all nodes are done: while a node is not
-- done its last allowed time is fixed, so only finitely many nanoseconds pass between two events, and each event
-- lowers the remaining work.
use Rattle.std.proofs.Common.{◌≡◌, ◌⊎◌, inl, inr, ℕ, zero, suc, ◌+◌, ◌≤◌, ◌<◌, nat_le, Bool, true, false, List, [], ◌∷◌}
use Rattle.std.proofs.Common.{◌++◌, length, Option, Some, None, refl, sym, ap, ◌∙◌, subst, arith}
use Rattle.std.specs.Prelude.{min, max, not, ◌&&◌, if◌then◌else◌}
use Rattle.std.specs.Option.{option_map_or}
use Rattle.std.proofs.lemmas.Bool.{le-leb}
use Rattle.pals_runs.specs.declared.events_and_faults.Event.{Event}
use Rattle.pals_runs.specs.declared.events_and_faults.Event.TheVariants as event
use Rattle.pals_runs.specs.declared.phase.Phase.{Phase}
use Rattle.pals_runs.specs.declared.phase.Phase.TheVariants.{Waiting, Running, Between, Holding, Done}
use Rattle.bus_machine.specs.declared.plan.Plan.{Plan}
use Rattle.bus_machine.specs.Plans.{plan_of, component_at}
use Rattle.bus_machine.specs.Nodes.{NodeState, finished_steps}
use Rattle.bus_machine.specs.NodeEvents.{may_send}
use Rattle.bus_machine.specs.AlarmsAndReleases.{release_reading}
use Rattle.bus_machine.specs.BusStates.{node_at}
use Rattle.bus_machine.specs.RunParameters.{Run}
use Rattle.bus_machine.specs.proof.AgreementLaws.{IsRunOf}
use Rattle.run_laws.specs.Meetings.{AllDone}
use Rattle.run_laws.specs.Worlds.{World, opening_world, world_after, ready_at}
use Rattle.run_laws.specs.Deadlines.{last_before, phase_deadline, send_deadline, lesser, node_deadline}
use Rattle.run_laws.specs.EventFaults.{fault_of}
use Rattle.run_laws.specs.EventLists.{IsWithin, world_left}
use Rattle.run_laws.specs.proof.WorldInvariant.{KeepsDeadline, KeepsTime}
use Rattle.run_laws.proofs.BoundedSearch.{first_or_none}
use Rattle.run_laws.proofs.KeptWorldInvariant.{event_keeps_time}
use Rattle.run_laws.proofs.NodePicksAndRunReplay.{node_agrees, plan_rules, held_of}
use Rattle.run_laws.proofs.OpeningWorlds.{opening_keeps_time}
use Rattle.run_laws.proofs.RemainingWork.{work_left}
use Rattle.world_progress.specs.proof.WorldProgress.{CanGoOn, time_passes, event_occurs, CanFinish}
use Rattle.world_progress.proofs.WorldProgress.{can_go_on, left_keeps}
use Rattle.world_progress.proofs.WorkLessens.{event_is_less}

-- ---- a node that is not done has a last allowed time
record HasLast (o : Option ℕ) : Type 0 where
  last : ℕ
  is : o ≡ Some last

has_lesser : (a : ℕ) (b : Option ℕ) → HasLast (lesser (Some a) b)
has_lesser a None = record { last = a; is = refl }
has_lesser a (Some b) = record { last = min a b; is = refl }

has_same : (o : Option ℕ) (a : ℕ) → o ≡ Some a → HasLast o
has_same o a is = record { last = a; is = is }

module _ (run : Run) (w : World) (rules : IsRunOf run) (keeps : KeepsTime run w) (node : ℕ)
    (within : node < length run.design.components) where
  abbrev n : NodeState
  n = node_at w.bus node

  abbrev plan : Plan
  plan = plan_of run.design node

  -- a node that holds a round may send it
  held_may_send : n.phase ≡ Holding → may_send plan n ≡ true
  held_may_send is =
      let unsent = held_of run node (component_at run.design node) n (node_agrees run w.bus node keeps.agrees within)
      is in
      let few = (plan_rules run node rules within).few in
      ap (λ p. not n.sent && option_map_or (nat_le plan.sent_steps) (finished_steps plan.rate p) false) is
      ∙ ap (λ b. not b && nat_le plan.sent_steps plan.rate) unsent ∙ le-leb plan.sent_steps plan.rate few

  abbrev last_send : ℕ
  last_send = max (ready_at w node) (last_before (release_reading plan n) run.design.gamma.eps)

  abbrev by_phase : Phase → Option ℕ
  by_phase p = lesser (phase_deadline run w node p) (send_deadline run w node)

  last_in : (p : Phase) → n.phase ≡ p → (p ≡ Done) ⊎ HasLast (by_phase p)
  last_in Waiting is = inr (has_lesser _ (send_deadline run w node))
  last_in (Running step) is = inr (has_lesser _ (send_deadline run w node))
  last_in (Between steps) is = inr (has_lesser _ (send_deadline run w node))
  last_in Holding is =
      inr (has_same (send_deadline run w node) last_send
      (ap (λ (b : Bool). if b then Some last_send else None) (held_may_send is)))
  last_in Done is = inl refl

  done_or_last : (n.phase ≡ Done) ⊎ HasLast (node_deadline run w node)
  done_or_last = last_in n.phase refl

-- ---- lists from a world
record Finishes (run : Run) (w : World) : Type 0 where
  events : List Event
  within : IsWithin run w events
  done : AllDone run (world_left run w events).bus

one_more : (run : Run) (w : World) (e : Event) → fault_of run w e ≡ None → Finishes run (world_after run w e)
    → Finishes run w
one_more run w e none rest = record { events = e ∷ rest.events; within = (none, rest.within); done = rest.done }

module _ (run : Run) (rules : IsRunOf run) where
  -- worlds with less work finish
  abbrev Below : ℕ → Type 0
  Below work = (v : World) → KeepsTime run v → work_left run v.bus < work → Finishes run v

  -- a node is not done until `last`, at most `left` nanoseconds later
  until : (work : ℕ) → Below work → (left : ℕ) (w : World) → KeepsTime run w → work_left run w.bus ≤ work
      → (node last : ℕ) → node < length run.design.components → node_deadline run w node ≡ Some last
      → last ≤ w.time + left
      → CanGoOn run w
      → Finishes run w
  until work below left w keeps most node last within is near (event_occurs e occurs none) =
      let less = event_is_less run w rules keeps e occurs none in
      one_more run w e none
      (below (world_after run w e) (event_keeps_time run w e rules keeps none) (omega arith))
  until work below zero w keeps most node last within is near (time_passes readings none) =
      let e = event.Pass (suc w.time) readings in
      let after = (event_keeps_time run w e rules keeps none).in_time node within in
      let early : suc w.time ≤ last = subst (KeepsDeadline (suc w.time)) is after in
      absurd (omega arith)
  until work below (suc left) w keeps most node last within is near (time_passes readings none) =
      let e = event.Pass (suc w.time) readings in
      let v = world_after run w e in
      let later = event_keeps_time run w e rules keeps none in
      one_more run w e none
      (until work below left v later most node last within is (omega arith) (can_go_on run v rules later))

  from : (work : ℕ) → Below work → (w : World) → KeepsTime run w → work_left run w.bus ≤ work → Finishes run w
  from work below w keeps most =
      elim (first_or_none (λ node. HasLast (node_deadline run w node)) (λ node. (node_at w.bus node).phase ≡ Done)
      (length run.design.components)
      (λ node within. elim (done_or_last run w rules keeps node within) [ inl done ↦ inr done | inr last ↦ inl last ])) [
        | inr done ↦ record { events = []; within = tt; done = done }
        | inl first ↦
            until work below first.found.last w keeps most first.place first.found.last first.within first.found.is
            (omega arith) (can_go_on run w rules keeps)
      ]

  finishes : (work : ℕ) (w : World) → KeepsTime run w → work_left run w.bus ≤ work → Finishes run w
  finishes zero w keeps most = from zero (λ v later less. absurd (omega arith)) w keeps most
  finishes (suc work) w keeps most = from (suc work) (λ v later less. finishes work v later (omega arith)) w keeps most

-- ---- lists from the opening
within_both : (run : Run) (w : World) (before later : List Event) → IsWithin run w before
    → IsWithin run (world_left run w before) later
    → IsWithin run w (before ++ later)
within_both run w [] later one two = two
within_both run w (e ∷ before) later one two = (one.0, within_both run (world_after run w e) before later one.1 two)

left_by_both : (run : Run) (w : World) (before later : List Event)
    → world_left run w (before ++ later) ≡ world_left run (world_left run w before) later
left_by_both run w [] later = refl
left_by_both run w (e ∷ before) later = left_by_both run (world_after run w e) before later

pub each_list_can_finish : (run : Run) (events : List Event) → IsRunOf run → IsWithin run (opening_world run) events
    → CanFinish run events
each_list_can_finish run events rules within =
    let w = world_left run (opening_world run) events in
    let keeps = left_keeps run (opening_world run) events rules (opening_keeps_time run rules) within in
    let rest = finishes run rules (work_left run w.bus) w keeps (omega arith) in
    record {
      later = rest.events;
      within = within_both run (opening_world run) events rest.events within rest.within;
      done =
          subst (λ (v : World). AllDone run v.bus) (sym (left_by_both run (opening_world run) events rest.events))
          rest.done;
    }
