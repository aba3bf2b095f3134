-- Starts and steps at their times are within the bounds, and maintain the invariant of timed worlds.
use Rattle.std.proofs.Common.{◌≡◌, ◌≢◌, ℕ, ◌-◌, ◌<◌, ◌≤◌, true, List, length, None, refl, sym, ap, ◌∙◌, subst, arith}
use Rattle.std.specs.Prelude.{is_some, slice_index_or, slice_set}
use Rattle.std.specs.Option.{unwrap_or}
use Rattle.std.proofs.lemmas.Grind.{get_or-set_at}
use Rattle.std.proofs.lemmas.List.{get_or-set_other}
use Rattle.pals_base.specs.declared.basic_types.NodeNo.{NodeNo}
use Rattle.pals_runs.specs.declared.events_and_faults.Event.{Event}
use Rattle.pals_runs.specs.declared.events_and_faults.Event.TheVariants as event
use Rattle.pals_runs.specs.declared.phase.Phase.TheVariants.{Running, Between}
use Rattle.bus_machine.specs.Plans.{plan_of}
use Rattle.bus_machine.specs.Nodes.{NodeState}
use Rattle.bus_machine.specs.NodeEvents.{is_waiting, next_step, stepped}
use Rattle.bus_machine.specs.AlarmsAndReleases.{step_alarm}
use Rattle.bus_machine.specs.BusStates.{node_at, with_node}
use Rattle.bus_machine.specs.RunParameters.{Run}
use Rattle.bus_machine.specs.proof.AgreementLaws.{IsRunOf}
use Rattle.bus_machine.proofs.StateChangeAgreement.{node_set, node_stays}
use Rattle.run_laws.specs.Worlds.{World, reading_at, since_at, ready_at, sendings, world_after}
use Rattle.run_laws.specs.EventFaults.{fault_of}
use Rattle.run_laws.proofs.FaultlessEventConditions.{FaultlessStart, starts_in_time, FaultlessStep, steps_in_time}
use Rattle.run_laws.proofs.WorldInvariantAfterStarts as start
use Rattle.run_laws.proofs.WorldInvariantAfterSteps as on
use Rattle.run_laws.proofs.WorldNodeTiming.{fits_at}
use Rattle.world_gen.proofs.FaultlessEvents.{start_is_fine, step_is_fine}
use Rattle.timely_worlds.specs.proof.EventTimes.{EventTimes}
use Rattle.timely_worlds.specs.proof.ListsOnTime.{StartsOnTime, StepsOnTime}
use Rattle.timely_worlds.proofs.TimedNodes.{NodeIsTimed, IsTimed, timed_put, nodes_again}

-- an event has no fault, and the world after it is timed
abbrev pub GoesRight : Run → EventTimes → World → Event → Type 0
GoesRight run times w e = (fault_of run w e ≡ None) × IsTimed run times (world_after run w e)

same_step : (a b : ℕ) → Running a ≡ Running b → a ≡ b
same_step a b is = cc

module _ (run : Run) (rules : IsRunOf run) (times : EventTimes) (w : World) (timed : IsTimed run times w)
    (node : NodeNo) where
  abbrev j : ℕ
  j = node.0

  abbrev here : NodeState
  here = node_at w.bus j

  long_since : j < length run.design.components → j < length w.since
  long_since within = let size = timed.keeps.moments.since in omega arith

  -- ---- a start
  module _ (on_time : StartsOnTime run times w j) where
    fine_start : fault_of run w (event.Start node) ≡ None
    fine_start = start_is_fine run w node on_time.within (ap is_waiting on_time.waits) on_time.due

    starts : FaultlessStart run w node
    starts = starts_in_time run w node fine_start

    abbrev begun : NodeState
    begun = start.begun run w rules timed.keeps node starts

    begun_timed : NodeIsTimed (plan_of run.design j) times j begun w.time (ready_at w j) (sendings w j)
    begun_timed =
        let before = timed.nodes j on_time.within in
        let sent_is = start.sent_as_before run w rules timed.keeps node starts in
        let round_is : here.count ≡ begun.count - 1 = omega arith in
        record {
          since_is = λ step running.
              let zero : 0 ≡ step = same_step 0 step running in
              on_time.now ∙ ap (λ s. times.starts j here.count s) zero
              ∙ ap (λ r. times.starts j r step) round_is;
          ready_is = λ may.
              absurd (start.no_step_is_sent run w rules timed.keeps node starts
              (fits_at run j rules on_time.within) may);
          moments_are = λ round below. before.moments_are round (subst (λ m. round < m) sent_is below);
        }

    pub start_goes_right : GoesRight run times w (event.Start node)
    start_goes_right =
        let bus = with_node w.bus j begun in
        let since = slice_set w.since j w.time in
        let in_bus = start.in_bus run w rules timed.keeps node starts in (
          fine_start,
          subst (IsTimed run times) (sym (start.start_is run w rules timed.keeps node starts)) (record {
            keeps = start.start_begun run w rules timed.keeps node starts;
            nodes = nodes_again run times w bus since w.ready w.sent_at j timed
                (record {
                  nodes = λ i other. node_stays w.bus j i begun other;
                  since_stays = λ i other. get_or-set_other w.since j i w.time 0 other;
                  ready_stays = λ i other. refl;
                  sent_stays = λ i other. refl;
                })
                (timed_put (plan_of run.design j) times j (node_at bus j) begun (slice_index_or since j 0) w.time
                (ready_at w j) (ready_at w j) (sendings w j) (sendings w j) begun_timed
                (node_set w.bus j begun in_bus)
                (get_or-set_at w.since j j w.time 0 refl (long_since on_time.within)) refl refl);
          }),
        )

  -- ---- a step
  module _ (on_time : StepsOnTime run times w j) where
    abbrev step : ℕ
    step = on_time.step

    fine_step : fault_of run w (event.Step node) ≡ None
    fine_step =
        let next : step ≡ unwrap_or (next_step here.phase) 0 =
        ap (λ q. unwrap_or (next_step q) 0) (sym on_time.waits) in
        step_is_fine run w node on_time.within (ap (λ q. is_some (next_step q)) on_time.waits)
        (subst (λ (s : ℕ). step_alarm (plan_of run.design j) here s ≤ reading_at w j) next on_time.due)

    steps : FaultlessStep run w node
    steps = steps_in_time run w node fine_step

    abbrev next : NodeState
    next = stepped step here

    next_timed : NodeIsTimed (plan_of run.design j) times j next w.time (ready_at w j) (sendings w j)
    next_timed =
        let before = timed.nodes j on_time.within in
        record {
          since_is = λ other running.
              on_time.now ∙ ap (λ s. times.starts j (here.count - 1) s) (same_step step other running);
          ready_is =
              λ may. before.ready_is (on.may_before run w rules timed.keeps node steps step on_time.waits may);
          moments_are = before.moments_are;
        }

    pub step_goes_right : GoesRight run times w (event.Step node)
    step_goes_right =
        let bus = with_node w.bus j next in
        let since = slice_set w.since j w.time in
        let in_bus = on.in_bus run w rules timed.keeps node steps in (
          fine_step,
          subst (IsTimed run times) (sym (on.step_on_is run w rules timed.keeps node steps step on_time.waits))
              (record {
                keeps = on.step_between run w rules timed.keeps node steps step on_time.waits;
                nodes = nodes_again run times w bus since w.ready w.sent_at j timed
                    (record {
                      nodes = λ i other. node_stays w.bus j i next other;
                      since_stays = λ i other. get_or-set_other w.since j i w.time 0 other;
                      ready_stays = λ i other. refl;
                      sent_stays = λ i other. refl;
                    })
                    (timed_put (plan_of run.design j) times j (node_at bus j) next (slice_index_or since j 0) w.time
                    (ready_at w j) (ready_at w j) (sendings w j) (sendings w j) next_timed
                    (node_set w.bus j next in_bus)
                    (get_or-set_at w.since j j w.time 0 refl (long_since on_time.within)) refl refl);
              }),
        )
