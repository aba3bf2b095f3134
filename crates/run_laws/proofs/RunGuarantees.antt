-- Each run keeps the clauses of its guarantees: the claim ClausesAreKept.
use Rattle.std.proofs.Common.{List}
use Rattle.pals_clock.specs.declared.clock.Clocks.{Clocks}
use Rattle.pals_clock.specs.declared.clock.Clocks.TheVariants.{Meet, Lists}
use Rattle.pals_runs.specs.declared.journal.JournalEntry.{JournalEntry}
use Rattle.bus_machine.specs.proof.AgreementLaws.{IsRunOf}
use Rattle.bus_machine.specs.BusStates.{BusState}
use Rattle.bus_machine.specs.RunParameters.{Run}
use Rattle.run_laws.specs.Runs.{Runs}
use Rattle.run_laws.specs.RunGuarantees.{KeepsClocks}
use Rattle.run_laws.specs.proof.RunGuarantees.{ClausesAreKept}
use Rattle.run_laws.proofs.NodePicksAndRunReplay.{readings_are_picks, runs_replay, runs_agree}
use Rattle.run_laws.proofs.LinePicks.{lines_are_picks}
use Rattle.run_laws.proofs.ListRunEndsAndStops.{ends_are_timely, done_are_picked, ended_picks_end, lists_stop}
use Rattle.run_laws.proofs.MeetingLines.{meetings_show_targets}
use Rattle.run_laws.proofs.MeetingStopsAndBounds.{meetings_stop, meetings_end, no_meeting_stops}
use Rattle.run_laws.proofs.BoundsBrokenAtStops.{stops_are_bounded}

keeps_clocks : (run : Run) (clocks : Clocks) (journal : List JournalEntry) (s : BusState) → IsRunOf run
    → Runs run clocks journal s → KeepsClocks run clocks journal s
keeps_clocks run Meet journal s rules runs = record {
  lines = meetings_show_targets run journal s rules runs;
  stop = meetings_stop run journal s rules runs;
  timely = meetings_end run journal s rules runs;
  bounded = no_meeting_stops run journal s rules runs;
}
keeps_clocks run (Lists clocks) journal s rules runs = record {
  readings = λ node within. readings_are_picks run clocks journal s node rules runs within;
  lines = lines_are_picks run clocks journal s rules runs;
  stop = lists_stop run clocks journal s rules runs;
  timely = ends_are_timely run clocks journal s rules runs;
  done = done_are_picked run clocks journal s rules runs;
  ended = ended_picks_end run clocks journal s rules runs;
}

pub clauses_are_kept : ClausesAreKept
clauses_are_kept run clocks journal s rules runs = record {
  by_clocks = keeps_clocks run clocks journal s rules runs;
  stop = stops_are_bounded run clocks journal s rules runs;
  replays = runs_replay run clocks journal s runs;
  agrees = runs_agree run clocks journal s rules runs;
}
