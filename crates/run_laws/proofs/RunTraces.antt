-- The trace of a run that is over is sound, and its text has its lines.
use Rattle.std.proofs.Common.{List, [], ◌∷◌, map, All, refl}
use Rattle.std.proofs.lemmas.List.Elements.{All-nil, All-cons, All-head, All-tail, All-append}
use Rattle.pals_model.specs.proof.CompositionLaws.TextLines.{IsLine}
use Rattle.pals_model.specs.RoundTexts.{report_lines}
use Rattle.pals_model.specs.DesignRules.{IsDesign}
use Rattle.pals_model.specs.declared.design.DesignParts.{DesignParts}
use Rattle.pals_model.proofs.TextLineLaws.{report_has_lines}
use Rattle.pals_runs.specs.declared.journal.JournalEntry.{JournalEntry}
use Rattle.pals_runs.specs.JournalLines.{entry_line}
use Rattle.bus_machine.specs.BusStates.{finished_by_all}
use Rattle.run_laws.specs.EntriesOfDesigns.{IsEntryIn}
use Rattle.run_laws.specs.HistoriesAndTraces.{trace_of}
use Rattle.run_laws.specs.proof.RunTraces.{RunsAreSound, TracesAreTexts, RunsAreTraces}
use Rattle.run_laws.proofs.EntryForms.{entries_have_lines}
use Rattle.run_laws.proofs.TextLines.{texts_have_lines}
use Rattle.run_laws.proofs.EntryRanges.{entries_fit}
use Rattle.run_laws.proofs.RunHistories.{runs_are_histories}
use Rattle.run_laws.proofs.HistoryVerdicts.{traces_are_sound}

-- ---- the lines of a journal
journal_has_lines : (design : DesignParts) (journal : List JournalEntry) → IsDesign design
    → All (IsEntryIn design) journal → All IsLine (map (entry_line design) journal)
journal_has_lines design [] rules fit = All-nil IsLine
journal_has_lines design (e ∷ es) rules fit =
    All-cons IsLine (entry_line design e) (map (entry_line design) es)
    (entries_have_lines design e rules (All-head (IsEntryIn design) e es fit))
    (journal_has_lines design es rules (All-tail (IsEntryIn design) e es fit))

-- ---- each run
-- the events of nodes that respect their clocks form a history, so the trace of the run is the trace of a history
pub runs_are_traces : RunsAreTraces
runs_are_traces run clocks journal s rules runs few readings over = record {
  journal = journal;
  state = s;
  lines_are = refl;
  of_design = entries_fit run clocks journal s rules few readings runs;
  history = runs_are_histories run clocks journal s rules runs;
  over = over;
  rounds_are = refl;
  stop_is = refl;
}

pub runs_are_sound : RunsAreSound
runs_are_sound run clocks journal s rules runs few readings over =
    traces_are_sound run (trace_of run journal s) (finished_by_all run s) s.stop rules
    (runs_are_traces run clocks journal s rules runs few readings over)

pub traces_are_texts : TracesAreTexts
traces_are_texts run clocks journal s rules runs few readings =
    let report = report_lines run.design run.env (finished_by_all run s) in
    let fit = entries_fit run clocks journal s rules few readings runs in
    texts_have_lines (trace_of run journal s)
    (All-append IsLine report (map (entry_line run.design) journal)
    (report_has_lines run.design run.env (finished_by_all run s) rules.design)
    (journal_has_lines run.design journal rules.design fit))
