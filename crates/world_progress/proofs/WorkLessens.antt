-- Each event of a node or of a message that is within the bounds lowers the remaining work of its world.
use Rattle.std.proofs.Common.{◌≡◌, ◌≢◌, ℕ, suc, ◌≤◌, length, Some, None, refl, sym, ap, arith}
use Rattle.std.proofs.lemmas.Option.{none-some}
use Rattle.list_lemmas.proofs.Options.{some_by_test}
use Rattle.pals_runs.specs.declared.events_and_faults.Event.{Event}
use Rattle.pals_runs.specs.declared.events_and_faults.Event.TheVariants as event
use Rattle.pals_runs.specs.declared.events_and_faults.EventFault.TheVariants as fault
use Rattle.bus_machine.specs.BusStates.{BusState, node_at, flight_at}
use Rattle.bus_machine.specs.RunParameters.{Run}
use Rattle.bus_machine.specs.MissedMessages.{missing_link}
use Rattle.bus_machine.specs.Machine.{Arrive}
use Rattle.bus_machine.specs.Replay.{entries}
use Rattle.bus_machine.specs.proof.AgreementLaws.{IsRunOf}
use Rattle.pals_model.specs.Flights.{oldest}
use Rattle.run_laws.specs.Worlds.{World, reading_at, bus_event, world_after}
use Rattle.run_laws.specs.EventFaults.{fault_of}
use Rattle.run_laws.specs.proof.WorldInvariant.{KeepsTime}
use Rattle.run_laws.proofs.FaultlessEventConditions.{named, starts_in_time, steps_in_time, finishes_in_time}
use Rattle.run_laws.proofs.FaultlessEventConditions.{sends_in_time, arrives_in_time}
use Rattle.run_laws.proofs.KeptWorldInvariant.{event_keeps_time}
use Rattle.run_laws.proofs.RemainingWork.{work_left, stop_lines, Lessens, start_lessens, step_lessens, finish_lessens}
use Rattle.run_laws.proofs.RemainingWork.{send_lessens, arrive_lessens, some_lines}
use Rattle.run_laws.proofs.WorldLinkTiming.{rule_of}

abbrev IsLess : Run → World → Event → Type 0
IsLess run w e = suc (work_left run (world_after run w e).bus) ≤ work_left run w.bus

-- an event without a stop has one line or more, and each line lowers the work
less_by_lines : (run : Run) (s t : BusState) (lines : ℕ) → 1 ≤ lines → t.stop ≡ None → Lessens run s t lines
    → suc (work_left run t) ≤ work_left run s
less_by_lines run s t lines some going lessens = let none : stop_lines t.stop ≡ 0 = ap stop_lines going in omega arith

module _ (run : Run) (w : World) (rules : IsRunOf run) (keeps : KeepsTime run w) where
  pub event_is_less : (e : Event) → bus_event w e ≢ None → fault_of run w e ≡ None → IsLess run w e
  event_is_less (event.Pass time readings) occurs none = absurd (occurs refl)
  event_is_less (event.Start node) occurs none =
      let fine = starts_in_time run w node none in
      let reading = Some (reading_at w node.0) in
      less_by_lines run w.bus (world_after run w (event.Start node)).bus 1 (omega arith)
      (event_keeps_time run w (event.Start node) rules keeps none).going
      (start_lessens run w.bus node reading (missing_link run w.bus node.0) rules keeps.agrees fine.within fine.waits)
  event_is_less (event.Step node) occurs none =
      let fine = steps_in_time run w node none in
      less_by_lines run w.bus (world_after run w (event.Step node)).bus 1 (omega arith)
      (event_keeps_time run w (event.Step node) rules keeps none).going
      (step_lessens run w.bus node (node_at w.bus node.0).phase keeps.agrees fine.within refl fine.waits)
  event_is_less (event.Finish node) occurs none =
      let fine = finishes_in_time run w node none in
      less_by_lines run w.bus (world_after run w (event.Finish node)).bus 1 (omega arith)
      (event_keeps_time run w (event.Finish node) rules keeps none).going
      (finish_lessens run w.bus node (node_at w.bus node.0).phase keeps.agrees fine.within refl fine.runs)
  event_is_less (event.Send node) occurs none =
      let fine = sends_in_time run w node none in
      less_by_lines run w.bus (world_after run w (event.Send node)).bus 1 (omega arith)
      (event_keeps_time run w (event.Send node) rules keeps none).going
      (send_lessens run w.bus node (Some (reading_at w node.0)) keeps.agrees fine.within fine.may)
  event_is_less (event.Arrive link round) occurs none =
      let fine = arrives_in_time run w link round none in
      let copy = some_by_test (oldest round (flight_at w.bus link.0)) fine.flies in
      let lines = entries run w.bus (Arrive link round None) in
      less_by_lines run w.bus (world_after run w (event.Arrive link round)).bus (length lines)
      (some_lines run w.bus (Arrive link round None))
      (event_keeps_time run w (event.Arrive link round) rules keeps none).going
      (arrive_lessens run w.bus link round None copy.0 keeps.agrees fine.within
      (rule_of run link.0 rules fine.within).target.node_is copy.1)
  event_is_less (event.Drop link round) occurs none =
      absurd (none-some fault.LossOrRepeat (sym (named run w (event.Drop link round) none).1))
  event_is_less (event.Repeat link round) occurs none =
      absurd (none-some fault.LossOrRepeat (sym (named run w (event.Repeat link round) none).1))
