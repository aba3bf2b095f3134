-- Finishes and sends at their times are within the bounds, and maintain the invariant of timed worlds.
use Rattle.std.proofs.Common.{◌≡◌, ◌≢◌, inl, inr, ℕ, ◌+◌, ◌-◌, ◌<◌, ◌≤◌, Bool, true, false, List, [], ◌∷◌, ◌++◌, length}
use Rattle.std.proofs.Common.{None, refl, sym, ap, ◌∙◌, subst, arith}
use Rattle.std.specs.Prelude.{if◌then◌else◌, is_some, slice_index_or, slice_set}
use Rattle.std.proofs.lemmas.Bool.{eqb-true, cases_lt, false≢true}
use Rattle.std.proofs.lemmas.Grind.{get_or-set_at}
use Rattle.std.proofs.lemmas.List.{get_or-set_other, get_or_append_left}
use Rattle.std.proofs.Math.Seq.{get_or-append_seam}
use Rattle.pals_base.specs.declared.basic_types.NodeNo.{NodeNo}
use Rattle.pals_runs.specs.declared.events_and_faults.Event.TheVariants as event
use Rattle.pals_runs.specs.declared.phase.Phase.TheVariants.{Running}
use Rattle.bus_machine.specs.declared.plan.Plan.{Plan}
use Rattle.bus_machine.specs.Plans.{plan_of}
use Rattle.bus_machine.specs.Nodes.{NodeState, round_of, sent_rounds}
use Rattle.bus_machine.specs.NodeEvents.{running_step, may_send}
use Rattle.bus_machine.specs.BusStates.{node_at, with_node}
use Rattle.bus_machine.specs.RunParameters.{Run}
use Rattle.bus_machine.specs.proof.AgreementLaws.{IsRunOf}
use Rattle.bus_machine.proofs.StateChangeAgreement.{node_set, node_stays}
use Rattle.run_laws.specs.Worlds.{World, since_at, ready_at, sendings, moved, is_held, world_after}
use Rattle.run_laws.specs.EventFaults.{fault_of}
use Rattle.run_laws.proofs.FaultlessEventConditions.{FaultlessFinish, finishes_in_time, FaultlessSend, sends_in_time}
use Rattle.run_laws.proofs.LocalWorldChanges.{moved_here, moved_other}
use Rattle.run_laws.proofs.WorldInvariantAfterFinishes.{not_running}
use Rattle.run_laws.proofs.WorldInvariantAfterFinishes as finish
use Rattle.run_laws.proofs.WorldInvariantAfterSends as send
use Rattle.run_laws.proofs.WorldInvariantAfterSends.{runs_before}
use Rattle.world_gen.proofs.FaultlessEvents.{finish_is_fine, send_is_fine}
use Rattle.timely_worlds.specs.proof.EventTimes.{EventTimes, MeetBounds}
use Rattle.timely_worlds.specs.proof.ListsOnTime.{FinishesOnTime, SendsOnTime}
use Rattle.timely_worlds.proofs.TimedNodes.{NodeIsTimed, IsTimed, timed_put, nodes_again, in_run}
use Rattle.timely_worlds.proofs.StartsAndSteps.{GoesRight}

module _ (run : Run) (rules : IsRunOf run) (times : EventTimes) (bounds : MeetBounds run times) (w : World)
    (timed : IsTimed run times w) (node : NodeNo) where
  abbrev j : ℕ
  j = node.0

  abbrev plan : Plan
  plan = plan_of run.design j

  abbrev here : NodeState
  here = node_at w.bus j

  -- ---- a finish
  module _ (on_time : FinishesOnTime run times w j) where
    abbrev step : ℕ
    step = on_time.step

    -- a step that runs belongs to a round of the run
    module _ (finishes : FaultlessFinish run w node) where
      abbrev ended : NodeState
      ended = finish.ended run w rules timed.keeps node finishes step on_time.runs

      abbrev last_sent : Bool
      last_sent = finish.last_sent run w rules timed.keeps node finishes step on_time.runs

      abbrev ready_after : ℕ
      ready_after = finish.ready_after run w rules timed.keeps node finishes step on_time.runs

      round_is : round_of here ≡ round_of ended
      round_is =
          ap (λ (c : ℕ). c - 1) (sym (finish.counts run w rules timed.keeps node finishes step on_time.runs))

      ready_by : (b : Bool) → last_sent ≡ b → may_send plan ended ≡ true
          → (if b then w.time else ready_at w j) ≡ times.finishes j (round_of here) (plan.sent_steps - 1)
      ready_by true last may =
          let all : step + 1 ≡ plan.sent_steps = eqb-true (step + 1) plan.sent_steps last in
          let this : step ≡ plan.sent_steps - 1 = omega arith in
          on_time.now ∙ ap (times.finishes j (round_of here)) this
      ready_by false last may =
          (timed.nodes j on_time.within).ready_is
          (finish.may_before run w rules timed.keeps node finishes step on_time.runs may last)

      ended_timed : NodeIsTimed plan times j ended w.time ready_after (sendings w j)
      ended_timed =
          let before = timed.nodes j on_time.within in
          let sent_is = finish.same_sent run w rules timed.keeps node finishes step on_time.runs in
          record {
            since_is = λ other running.
                absurd (not_running plan step ended.phase other
                (finish.ends run w rules timed.keeps node finishes step on_time.runs) running);
            ready_is = λ may.
                ready_by last_sent refl may ∙ ap (λ r. times.finishes j r (plan.sent_steps - 1)) round_is;
            moments_are = λ round below. before.moments_are round (subst (λ m. round < m) sent_is below);
          }

      finish_timed : IsTimed run times (world_after run w (event.Finish node))
      finish_timed =
          let bus = with_node w.bus j ended in
          let since = slice_set w.since j w.time in
          let ready = moved last_sent w.ready j w.time in
          let in_bus = finish.in_bus run w rules timed.keeps node finishes in
          let within = on_time.within in
          let size_since = timed.keeps.moments.since in
          let size_ready = timed.keeps.moments.ready in
          subst (IsTimed run times) (sym (finish.finish_is run w rules timed.keeps node finishes step on_time.runs))
          (record {
            keeps = finish.finish_running run w rules timed.keeps node finishes step on_time.runs;
            nodes = nodes_again run times w bus since ready w.sent_at j timed
                (record {
                  nodes = λ i other. node_stays w.bus j i ended other;
                  since_stays = λ i other. get_or-set_other w.since j i w.time 0 other;
                  ready_stays = λ i other. moved_other last_sent w.ready j i w.time other;
                  sent_stays = λ i other. refl;
                })
                (timed_put plan times j (node_at bus j) ended (slice_index_or since j 0) w.time
                (slice_index_or ready j 0) ready_after (sendings w j) (sendings w j) ended_timed
                (node_set w.bus j ended in_bus) (get_or-set_at w.since j j w.time 0 refl (omega arith))
                (moved_here last_sent w.ready j w.time (omega arith)) refl);
          })

    fine_finish : fault_of run w (event.Finish node) ≡ None
    fine_finish =
        let before = timed.nodes j on_time.within in
        let since = before.since_is step on_time.runs in
        let now = on_time.now in
        let agrees = in_run run w rules timed.keeps j on_time.within step on_time.runs in
        let shortest = (bounds.steps j (round_of here) step on_time.within agrees.0 agrees.1).shortest in
        finish_is_fine run w node on_time.within (ap (λ q. is_some (running_step q)) on_time.runs) (omega arith)

    pub finish_goes_right : GoesRight run times w (event.Finish node)
    finish_goes_right = (fine_finish, finish_timed (finishes_in_time run w node fine_finish))

  -- ---- a send
  module _ (on_time : SendsOnTime run times w j) where
    fine_send : fault_of run w (event.Send node) ≡ None
    fine_send = send_is_fine run w node on_time.within on_time.may on_time.due

    sends : FaultlessSend run w node
    sends = sends_in_time run w node fine_send

    abbrev after : NodeState
    after = send.after run w rules timed.keeps node sends

    abbrev moments : List ℕ
    moments = sendings w j

    moment_is : (round : ℕ) → round < here.count → slice_index_or (moments ++ w.time ∷ []) round 0 ≡ times.sends j round
    moment_is round below =
        let many : length moments ≡ round_of here = send.many run w rules timed.keeps node sends in
        let before_is : sent_rounds here ≡ round_of here = send.sent_before run w rules timed.keeps node sends in
        elim (cases_lt round (length moments)) [
          | inl before ↦
              get_or_append_left moments (w.time ∷ []) 0 round before
              ∙ (timed.nodes j on_time.within).moments_are round (omega arith)
          | inr this ↦
              let same : round ≡ length moments = omega arith in
              let is_round : round_of here ≡ round = omega arith in
              ap (λ i. slice_index_or (moments ++ w.time ∷ []) i 0) same ∙ get_or-append_seam moments w.time [] 0
              ∙ on_time.now ∙ ap (times.sends j) is_round
        ]

    after_timed : NodeIsTimed plan times j after (if is_held here.phase then w.time else since_at w j) (ready_at w j)
        (moments ++ w.time ∷ [])
    after_timed =
        let before = timed.nodes j on_time.within in
        record {
          since_is = λ step running.
              let runs : here.phase ≡ Running step = runs_before here.count run.rounds here.phase step running in
              ap (λ q. if is_held q then w.time else since_at w j) runs ∙ before.since_is step runs;
          ready_is = λ may. absurd (false≢true may);
          moments_are = moment_is;
        }

    pub send_goes_right : GoesRight run times w (event.Send node)
    send_goes_right =
        let bus = send.bus_sent run w rules timed.keeps node sends in
        let since = moved (is_held here.phase) w.since j w.time in
        let sent_at = slice_set w.sent_at j (moments ++ w.time ∷ []) in
        let within = on_time.within in
        let size = timed.keeps.moments.since in (
          fine_send,
          record {
            keeps = send.send_keeps_time run w rules timed.keeps node sends;
            nodes = nodes_again run times w bus since w.ready sent_at j timed
                (record {
                  nodes = λ i other. node_stays w.bus j i after other;
                  since_stays = λ i other. moved_other (is_held here.phase) w.since j i w.time other;
                  ready_stays = λ i other. refl;
                  sent_stays = λ i other. get_or-set_other w.sent_at j i (moments ++ w.time ∷ []) [] other;
                })
                (timed_put plan times j (node_at bus j) after (slice_index_or since j 0)
                (if is_held here.phase then w.time else since_at w j) (ready_at w j) (ready_at w j)
                (slice_index_or sent_at j []) (moments ++ w.time ∷ []) after_timed
                (node_set w.bus j after (send.in_bus run w rules timed.keeps node sends))
                (moved_here (is_held here.phase) w.since j w.time (omega arith)) refl
                (send.moments_after run w rules timed.keeps node sends));
          },
        )
