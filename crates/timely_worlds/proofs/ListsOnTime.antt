-- Each list of events at their times is within the bounds.
use Rattle.std.proofs.Common.{◌≡◌, ℕ, ◌<◌, List, [], ◌∷◌, length, None, refl, sym, subst, arith}
use Rattle.std.proofs.lemmas.Bool.{false≢true}
use Rattle.list_lemmas.proofs.ElementPositions.{get_or-map_constant}
use Rattle.pals_runs.specs.declared.events_and_faults.Event.{Event}
use Rattle.pals_runs.specs.declared.events_and_faults.Event.TheVariants as event
use Rattle.bus_machine.specs.Plans.{plan_of}
use Rattle.bus_machine.specs.Nodes.{NodeState, opening_node}
use Rattle.bus_machine.specs.BusStates.{node_at}
use Rattle.bus_machine.specs.RunParameters.{Run}
use Rattle.bus_machine.specs.proof.AgreementLaws.{IsRunOf}
use Rattle.bus_machine.proofs.MessageAndRunAgreement.{node_opens}
use Rattle.run_laws.specs.Worlds.{World, opening_world, since_at, ready_at, sendings, world_after}
use Rattle.run_laws.specs.EventLists.{IsWithin}
use Rattle.run_laws.proofs.OpeningWorlds.{opening_keeps_time, not_running}
use Rattle.timely_worlds.specs.proof.EventTimes.{EventTimes, MeetBounds}
use Rattle.timely_worlds.specs.proof.ListsOnTime.{IsOnTime, AreOnTime}
use Rattle.timely_worlds.proofs.TimedNodes.{NodeIsTimed, IsTimed, timed_put}
use Rattle.timely_worlds.proofs.StartsAndSteps.{GoesRight, start_goes_right, step_goes_right}
use Rattle.timely_worlds.proofs.FinishesAndSends.{finish_goes_right, send_goes_right}
use Rattle.timely_worlds.proofs.ArrivalsAndPasses.{arrive_goes_right, pass_goes_right}

opening_is_timed : (run : Run) (times : EventTimes) → IsRunOf run → IsTimed run times (opening_world run)
opening_is_timed run times rules =
    let w = opening_world run in
    let cs = run.design.components in
    record {
      keeps = opening_keeps_time run rules;
      nodes = λ node within.
          let plan = plan_of run.design node in
          let timed : NodeIsTimed plan times node (opening_node plan) 0 0 [] = record {
            since_is = λ step is. absurd (not_running step is);
            ready_is = λ may. absurd (false≢true may);
            moments_are = λ round is. absurd (omega arith);
          } in
          timed_put plan times node (node_at w.bus node) (opening_node plan) (since_at w node) 0 (ready_at w node) 0
          (sendings w node) [] timed (node_opens run node within) (get_or-map_constant 0 cs node)
          (get_or-map_constant 0 cs node) (get_or-map_constant {Y = List ℕ} [] cs node);
    }

module _ (run : Run) (times : EventTimes) (rules : IsRunOf run) (bounds : MeetBounds run times) where
  event_goes_right : (w : World) (e : Event) → IsTimed run times w → IsOnTime run times w e → GoesRight run times w e
  event_goes_right w (event.Pass time readings) timed on_time =
      pass_goes_right run rules times bounds w timed time readings on_time
  event_goes_right w (event.Start node) timed on_time = start_goes_right run rules times w timed node on_time
  event_goes_right w (event.Step node) timed on_time = step_goes_right run rules times w timed node on_time
  event_goes_right w (event.Finish node) timed on_time = finish_goes_right run rules times bounds w timed node on_time
  event_goes_right w (event.Send node) timed on_time = send_goes_right run rules times bounds w timed node on_time
  event_goes_right w (event.Arrive link round) timed on_time =
      arrive_goes_right run rules times bounds w timed link round on_time
  event_goes_right w (event.Drop link round) timed on_time = absurd on_time
  event_goes_right w (event.Repeat link round) timed on_time = absurd on_time

  within_from : (w : World) (events : List Event) → IsTimed run times w → AreOnTime run times w events
      → IsWithin run w events
  within_from w [] timed on_time = tt
  within_from w (e ∷ events) timed on_time =
      let right = event_goes_right w e timed on_time.0 in
      (right.0, within_from (world_after run w e) events right.1 on_time.1)

  pub lists_on_time : (events : List Event) → AreOnTime run times (opening_world run) events
      → IsWithin run (opening_world run) events
  lists_on_time events on_time = within_from (opening_world run) events (opening_is_timed run times rules) on_time
