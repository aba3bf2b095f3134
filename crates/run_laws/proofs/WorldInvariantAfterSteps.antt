-- The start of a step without a fault maintains the timing invariant of a world.
use Rattle.std.proofs.Common.{◌≡◌, ℕ, suc, ◌+◌, ◌-◌, ◌<◌, ◌≤◌, true, length, Option, Some, refl, ap, ◌∙◌, subst, arith}
use Rattle.std.specs.Prelude.{is_some, slice_set}
use Rattle.std.specs.Option.{unwrap_or}
use Rattle.std.proofs.lemmas.Bool.{false≢true}
use Rattle.std.proofs.lemmas.Grind.{get_or-set_at}
use Rattle.std.proofs.lemmas.List.{length-set, get_or-set_other}
use Rattle.pals_base.specs.declared.basic_types.NodeNo.{NodeNo}
use Rattle.pals_runs.specs.declared.events_and_faults.Event.TheVariants as event
use Rattle.pals_runs.specs.declared.phase.Phase.{Phase}
use Rattle.pals_runs.specs.declared.phase.Phase.TheVariants.{Waiting, Running, Between, Holding, Done}
use Rattle.bus_machine.specs.Plans.{plan_of}
use Rattle.bus_machine.specs.Nodes.{NodeState, finished_steps}
use Rattle.bus_machine.specs.NodeEvents.{next_step, stepped, may_send}
use Rattle.bus_machine.specs.AlarmsAndReleases.{step_alarm}
use Rattle.bus_machine.specs.BusStates.{node_at, with_node}
use Rattle.bus_machine.specs.RunParameters.{Run}
use Rattle.bus_machine.specs.Machine.{on_step}
use Rattle.bus_machine.specs.proof.AgreementLaws.{IsRunOf}
use Rattle.bus_machine.specs.Agreement.{Agrees}
use Rattle.run_laws.specs.Deadlines.{last_before, lesser}
use Rattle.run_laws.specs.Worlds.{World, reading_at, since_at, ready_at, sendings, world_after}
use Rattle.bus_machine.proofs.StateChangeAgreement.{node_set, node_stays}
use Rattle.bus_machine.proofs.NodeEventBusAgreement.{step_keeps}
use Rattle.run_laws.specs.proof.WorldInvariant.{KeepsDeadline, RunsSince, KeepsTime}
use Rattle.run_laws.proofs.WorldNodeTiming.{fits_at, may_be, may_is, Stands, stands_at, left_in_time, both_in_time}
use Rattle.run_laws.proofs.WorldNodeTiming.{send_in_time, sends_in_time, phase_last, send_last}
use Rattle.run_laws.proofs.LocalWorldChanges.{changed, same_links, stands_put, keeps_again}
use Rattle.run_laws.proofs.FaultlessEventConditions.{FaultlessStep}

module _ (run : Run) (w : World) (rules : IsRunOf run) (keeps : KeepsTime run w) (node : NodeNo)
    (fine : FaultlessStep run w node) where
  abbrev pub here : NodeState
  here = node_at w.bus node.0

  pub in_bus : node.0 < length w.bus.nodes
  in_bus = let count = keeps.agrees.node_count in let within = fine.within in omega arith

  abbrev lesser_last : Phase → Option ℕ
  lesser_last p =
      lesser (phase_last run.design.gamma (plan_of run.design node.0) here (since_at w node.0) p)
      (send_last run.design.gamma (plan_of run.design node.0) here (ready_at w node.0))

  -- ---- between two steps
  module _ (step : ℕ) (between : here.phase ≡ Between step) where
    abbrev pub next : NodeState
    next = stepped step here

    same_step : (other : ℕ) → Running step ≡ Running other → step ≡ other
    same_step other is = cc

    same_finished : (other : ℕ) → Some step ≡ Some other
        → finished_steps (plan_of run.design node.0).rate here.phase ≡ Some other
    same_finished other is = ap (finished_steps (plan_of run.design node.0).rate) between ∙ is

    pub may_before : may_send (plan_of run.design node.0) next ≡ true → may_send (plan_of run.design node.0) here ≡ true
    may_before may =
        let m = may_is (plan_of run.design node.0) next may in
        may_be (plan_of run.design node.0) here m.steps m.unsent (same_finished m.steps m.finished) m.enough

    next_stands : Stands run.design.gamma (plan_of run.design node.0) next (reading_at w node.0) w.time w.time
        (ready_at w node.0) (sendings w node.0)
    next_stands =
        let g = run.design.gamma in
        let plan = plan_of run.design node.0 in
        let skew = (fits_at run node.0 rules fine.within).skew in
        let before = stands_at run w node.0 keeps fine.within in
        let clock = before.clock in
        let in_time : KeepsDeadline w.time (lesser_last (Between step)) =
        subst (λ p. KeepsDeadline w.time (lesser_last p)) between before.in_time in
        let last : w.time ≤ step_alarm plan here step + g.eps - 1 =
        left_in_time w.time (last_before (step_alarm plan here step) g.eps)
        (send_last g plan here (ready_at w node.0)) in_time in
        let due : step_alarm plan here step ≤ reading_at w node.0 =
        subst (λ p. step_alarm plan here (unwrap_or (next_step p) 0) ≤ reading_at w node.0) between fine.due in
        let long : w.time ≤ w.time + g.alpha_max = omega arith in
        record {
          clock = before.clock;
          in_time = both_in_time w.time (Some (w.time + g.alpha_max)) (send_last g plan next (ready_at w node.0)) long
              (sends_in_time w.time _ (may_send plan next)
              (λ may. send_in_time w.time _ (phase_last g plan here (since_at w node.0) here.phase) (may_send plan here)
              (may_before may) before.in_time));
          keeps = record {
            started = before.keeps.started;
            finished = λ k is. before.keeps.finished k (same_finished (suc k) is);
            running =
                λ k is. subst (λ j. RunsSince g (step_alarm plan next j) w.time w.time) (same_step k is)
                (record { due = omega arith; prompt = omega arith; past = omega arith });
            unsent = λ may. before.keeps.unsent (may_before may);
          };
          sends = record { each = before.sends.each; sent = before.sends.sent };
        }

    pub step_between : KeepsTime run
        (changed w (with_node w.bus node.0 next) (slice_set w.since node.0 w.time) w.ready w.sent_at)
    step_between =
        let bus = with_node w.bus node.0 next in
        let sizes = keeps.moments in
        let within = fine.within in
        let long : node.0 < length w.since = let size = sizes.since in omega arith in
        keeps_again run w bus (slice_set w.since node.0 w.time) w.ready w.sent_at keeps node.0
        keeps.going
        (subst (λ p. Agrees run (on_step (next_step p) w.bus (λ k. with_node w.bus node.0 (stepped k here)))) between
        (step_keeps run w.bus node here.phase keeps.agrees refl))
        (record {
          readings = sizes.readings;
          since = length-set w.since node.0 w.time ∙ sizes.since;
          ready = sizes.ready;
          sent_at = sizes.sent_at;
        })
        (record {
          nodes = λ k other. node_stays w.bus node.0 k next other;
          since_stays = λ k other. get_or-set_other w.since node.0 k w.time 0 other;
          ready_stays = λ k other. refl;
          sent_stays = λ k other. refl;
        })
        (stands_put run w bus (slice_set w.since node.0 w.time) w.ready w.sent_at keeps node.0 next w.time
        (ready_at w node.0) (sendings w node.0) next_stands
        (node_set w.bus node.0 next in_bus) (get_or-set_at w.since node.0 node.0 w.time 0 refl long) refl refl)
        (same_links run w node.0 next (slice_set w.since node.0 w.time) w.ready keeps
        (record { count = refl; slots = refl; sent = refl }))

  -- ---- by its phase
  abbrev world_stepped : Phase → World
  world_stepped p =
      changed w (on_step (next_step p) w.bus (λ k. with_node w.bus node.0 (stepped k here)))
      (slice_set w.since node.0 w.time) w.ready w.sent_at

  step_by : (p : Phase) → here.phase ≡ p → is_some (next_step p) ≡ true → KeepsTime run (world_stepped p)
  step_by Waiting is some = absurd (false≢true some)
  step_by (Running step) is some = absurd (false≢true some)
  step_by (Between step) is some = step_between step is
  step_by Holding is some = absurd (false≢true some)
  step_by Done is some = absurd (false≢true some)

  pub step_keeps_time : KeepsTime run (world_after run w (event.Step node))
  step_keeps_time = step_by here.phase refl fine.waits

  pub step_on_is : (step : ℕ) (between : here.phase ≡ Between step)
      → world_after run w (event.Step node)
      ≡ changed w (with_node w.bus node.0 (stepped step here)) (slice_set w.since node.0 w.time) w.ready w.sent_at
  step_on_is step between = ap world_stepped between
