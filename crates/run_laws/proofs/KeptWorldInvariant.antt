-- Each event without a fault maintains the timing invariant of a world, so every arrival is stored and round counts
-- are close. A list of events within the bounds goes right.
use Rattle.std.proofs.Common.{List, [], ◌∷◌, ◌++◌, sym, subst}
use Rattle.std.proofs.lemmas.Option.{none-some}
use Rattle.pals_runs.specs.declared.events_and_faults.Event.{Event}
use Rattle.pals_runs.specs.declared.events_and_faults.Event.TheVariants as event
use Rattle.pals_runs.specs.declared.events_and_faults.EventFault.TheVariants as fault
use Rattle.bus_machine.specs.RunParameters.{Run}
use Rattle.bus_machine.specs.proof.AgreementLaws.{IsRunOf}
use Rattle.run_laws.specs.Worlds.{World, opening_world, world_after}
use Rattle.run_laws.specs.EventLists.{IsWithin, world_left}
use Rattle.run_laws.specs.proof.WorldInvariant.{KeepsTime}
use Rattle.run_laws.specs.proof.WorldLaws.{EventKeepsTime, ArrivalsAreKept, CountsAreClose, ListsAreInStep}
use Rattle.run_laws.specs.proof.WorldLaws.{ListsKeepArrivals, ListsGoRight}
use Rattle.run_laws.proofs.WorldNodeTiming.{counts_close}
use Rattle.run_laws.proofs.FaultlessEventConditions.{named, starts_in_time, steps_in_time, finishes_in_time}
use Rattle.run_laws.proofs.FaultlessEventConditions.{sends_in_time, arrives_in_time}
use Rattle.run_laws.proofs.TimePassage.{passes_in_time, pass_keeps_time}
use Rattle.run_laws.proofs.WorldInvariantAfterStarts.{start_keeps_time}
use Rattle.run_laws.proofs.WorldInvariantAfterSteps.{step_keeps_time}
use Rattle.run_laws.proofs.WorldInvariantAfterFinishes.{finish_keeps_time}
use Rattle.run_laws.proofs.WorldInvariantAfterSends.{send_keeps_time}
use Rattle.run_laws.proofs.WorldInvariantAfterArrivals.{arrive_keeps_time, arrival_is_kept}
use Rattle.run_laws.proofs.OpeningWorlds.{opening_keeps_time}

-- ---- one event
pub event_keeps_time : EventKeepsTime
event_keeps_time run w (event.Pass time readings) rules keeps none =
    pass_keeps_time run w time readings keeps (passes_in_time run w time readings none)
event_keeps_time run w (event.Start node) rules keeps none =
    start_keeps_time run w rules keeps node (starts_in_time run w node none)
event_keeps_time run w (event.Step node) rules keeps none =
    step_keeps_time run w rules keeps node (steps_in_time run w node none)
event_keeps_time run w (event.Finish node) rules keeps none =
    finish_keeps_time run w rules keeps node (finishes_in_time run w node none)
event_keeps_time run w (event.Send node) rules keeps none =
    send_keeps_time run w rules keeps node (sends_in_time run w node none)
event_keeps_time run w (event.Arrive link round) rules keeps none =
    arrive_keeps_time run w rules keeps link round (arrives_in_time run w link round none)
event_keeps_time run w (event.Drop link round) rules keeps none =
    absurd (none-some fault.LossOrRepeat (sym (named run w (event.Drop link round) none).1))
event_keeps_time run w (event.Repeat link round) rules keeps none =
    absurd (none-some fault.LossOrRepeat (sym (named run w (event.Repeat link round) none).1))

pub arrivals_are_kept : ArrivalsAreKept
arrivals_are_kept run w link round rules keeps none =
    arrival_is_kept run w rules keeps link round (arrives_in_time run w link round none)

pub counts_are_close : CountsAreClose
counts_are_close run w one other rules keeps here there = counts_close run w rules keeps one other here there

-- ---- lists
-- the invariant holds before the rest of a list, and the rest is within the bounds from there
left_keeps : (run : Run) (w : World) (before later : List Event) → IsRunOf run → KeepsTime run w
    → IsWithin run w (before ++ later)
    → KeepsTime run (world_left run w before) × IsWithin run (world_left run w before) later
left_keeps run w [] later rules keeps within = (keeps, within)
left_keeps run w (e ∷ before) later rules keeps within =
    left_keeps run (world_after run w e) before later rules (event_keeps_time run w e rules keeps within.0) within.1

pub lists_are_in_step : ListsAreInStep
lists_are_in_step run before later rules within =
    let w = world_left run (opening_world run) before in
    let keeps = (left_keeps run (opening_world run) before later rules (opening_keeps_time run rules) within).0 in
    record { no_stop = keeps.going; agrees = keeps.agrees; close = counts_close run w rules keeps }

pub lists_keep_arrivals : ListsKeepArrivals
lists_keep_arrivals run before later link round rules within =
    let left =
    left_keeps run (opening_world run) before (event.Arrive link round ∷ later) rules
    (opening_keeps_time run rules) within in
    arrivals_are_kept run (world_left run (opening_world run) before) link round rules left.0 left.1.0

pub lists_go_right : ListsGoRight
lists_go_right run events rules within = record {
  in_step =
      λ before later is. lists_are_in_step run before later rules (subst (IsWithin run (opening_world run)) is within);
  kept =
      λ before later link round is.
      lists_keep_arrivals run before later link round rules (subst (IsWithin run (opening_world run)) is within);
}
