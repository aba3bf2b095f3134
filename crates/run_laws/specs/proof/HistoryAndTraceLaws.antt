-- Laws of histories and traces: histories replay, and a trace is judged sound if and only if it is the trace of a
-- history that is over.
use Rattle.std.specs.Prelude.{◌≡◌, ◌↔◌, ℕ, ◌+◌, ◌*◌, ◌≤◌, List, [], Option, Some, All}
use Rattle.pals_base.specs.PeriodBoundAndReleases.{alarm}
use Rattle.pals_runs.specs.declared.journal.Stop.{Stop}
use Rattle.pals_runs.specs.declared.journal.JournalEntry.{JournalEntry}
use Rattle.pals_runs.specs.declared.verdicts.Verdict.TheVariants.{Sound}
use Rattle.bus_machine.specs.Plans.{plan_of}
use Rattle.bus_machine.specs.BusStates.{BusState}
use Rattle.bus_machine.specs.RunParameters.{Run}
use Rattle.bus_machine.specs.Replay.{Replays}
use Rattle.bus_machine.specs.proof.AgreementLaws.{IsRunOf}
use Rattle.run_laws.specs.TraceVerdicts.{verdict}
use Rattle.run_laws.specs.proof.RisingReadings.{LinesRise}
use Rattle.run_laws.specs.HistoriesAndTraces.{History, IsTraceOf}
use Rattle.pals_runs.specs.declared.journal.Stop.TheVariants as stop
use Rattle.pals_runs.specs.declared.journal.JournalEntry.TheVariants as entry

-- ---- the reading of a single entry
abbrev pub ShowsFrom : Option ℕ → ℕ → Type 0
ShowsFrom reading least = (at : ℕ) × (reading ≡ Some at) × (least ≤ at)

abbrev pub StopShowsTime : Run → Stop → Type 0
StopShowsTime run (stop.Missed link round reading cause) = ShowsFrom reading (alarm run.design.period (round + 1))
StopShowsTime run (stop.Early link round reading) = ShowsFrom reading 0

-- an event of a clock shows a reading: a start at least its round's alarm, a step at least its own time, a send at
-- least its round's release, and a missed start at least the alarm of the round after the message's; no entry shows a
-- lost or repeated message
abbrev pub ShowsTime : Run → JournalEntry → Type 0
ShowsTime run (entry.Arrive link round reading result) = ShowsFrom reading 0
ShowsTime run (entry.Start node round reading) = ShowsFrom reading (alarm run.design.period round)
ShowsTime run (entry.Step node round step reading) =
    ShowsFrom reading (alarm run.design.period round + step * (plan_of run.design node.0).step_period)
ShowsTime run (entry.Finish node round) = Unit {0}
ShowsTime run (entry.Send node round reading) =
    ShowsFrom reading (alarm run.design.period round + (plan_of run.design node.0).release_offset)
ShowsTime run (entry.Drop link round) = ⊥
ShowsTime run (entry.Repeat link round) = ⊥
ShowsTime run (entry.Stopped why) = StopShowsTime run why

-- ---- verdicts
-- of each run of a design, and all lines
abbrev pub OfTraces : (Run → List (List ℕ) → ℕ → Option Stop → Type 0) → Type 0
OfTraces P =
    (run : Run) (lines : List (List ℕ)) (rounds : ℕ) (stop : Option Stop) → IsRunOf run → P run lines rounds stop

-- a trace that is judged sound is the trace of a history that is over
abbrev pub SoundAreTraces : Type 0
SoundAreTraces =
    OfTraces (λ run lines rounds stop. verdict run lines ≡ Sound rounds stop → IsTraceOf run lines rounds stop)

-- and each such trace is judged sound
abbrev pub TracesAreSound : Type 0
TracesAreSound =
    OfTraces (λ run lines rounds stop. IsTraceOf run lines rounds stop → verdict run lines ≡ Sound rounds stop)

abbrev pub SoundIsTrace : Type 0
SoundIsTrace =
    OfTraces (λ run lines rounds stop. (verdict run lines ≡ Sound rounds stop) ↔ IsTraceOf run lines rounds stop)

-- ---- histories
-- the journal of a history replays to its state, its readings don't fall, and each entry shows its time
pub record KeepsTimes (run : Run) (journal : List JournalEntry) (s : BusState) : Type 0 where
  pub replays : Replays run journal s
  pub rises : LinesRise run [] journal
  pub times : All (ShowsTime run) journal

abbrev pub HistoriesReplay : Type 0
HistoriesReplay =
    (run : Run) (journal : List JournalEntry) (s : BusState) → History run journal s → KeepsTimes run journal s
