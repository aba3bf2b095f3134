-- Runs of nodes that respect their clocks are histories, and their traces are sound: the verdict on the trace of a run.
use Rattle.std.specs.Prelude.{◌≡◌, ℕ, ◌≤◌, All}
use Rattle.pals_base.specs.declared.limits.TheConstants.{ROUNDS, READING}
use Rattle.pals_clock.specs.declared.clock.Clocks.{Clocks}
use Rattle.pals_clock.specs.declared.clock.Clocks.TheVariants.{Meet, Lists}
use Rattle.pals_model.specs.RoundTexts.{text_of}
use Rattle.pals_runs.specs.declared.verdicts.Verdict.TheVariants.{Sound}
use Rattle.bus_machine.specs.BusStates.{finished_by_all}
use Rattle.run_laws.specs.TextLines.{lines_of}
use Rattle.run_laws.specs.TraceVerdicts.{verdict}
use Rattle.run_laws.specs.proof.RunQuantifiers.{InRuns}
use Rattle.run_laws.specs.HistoriesAndTraces.{IsStoppedOrDone, trace_of, History, IsTraceOf}
use Rattle.run_laws.specs.Runs.{clock_at}

-- no reading of a list is greater than a reading may be
abbrev pub AreReadings : Clocks → Type 0
AreReadings Meet = Unit {0}
AreReadings (Lists clocks) = (node : ℕ) → All (λ reading. reading ≤ READING) (clock_at clocks node).readings

-- the trace of a run that is over is sound
abbrev pub RunsAreSound : Type 0
RunsAreSound = InRuns (λ run clocks journal s. run.rounds ≤ ROUNDS → AreReadings clocks → IsStoppedOrDone run s
    → verdict run (trace_of run journal s) ≡ Sound (finished_by_all run s) s.stop)

-- the text of the trace of a run has the trace's lines
abbrev pub TracesAreTexts : Type 0
TracesAreTexts = InRuns (λ run clocks journal s. run.rounds ≤ ROUNDS → AreReadings clocks
    → lines_of (text_of (trace_of run journal s)) ≡ trace_of run journal s)

-- the events of nodes that respect their clocks form a history
abbrev pub RunsAreHistories : Type 0
RunsAreHistories = InRuns (λ run clocks journal s. History run journal s)

-- the trace of each completed run of nodes that respect their clocks is the trace of a history
abbrev pub RunsAreTraces : Type 0
RunsAreTraces = InRuns (λ run clocks journal s. run.rounds ≤ ROUNDS → AreReadings clocks → IsStoppedOrDone run s
    → IsTraceOf run (trace_of run journal s) (finished_by_all run s) s.stop)
