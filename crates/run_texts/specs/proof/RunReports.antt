-- The report of a run: its journal, and how its nodes ended.
use Rattle.std.specs.Prelude.{◌≡◌, ◌≢◌, ℕ, Bool, if◌then◌else◌, List, [], ◌++◌, length, map, Some, None}
use Rattle.pals_base.specs.declared.basic_types.NodeNo.{NodeNo}
use Rattle.pals_model.specs.RoundTexts.{line_end, text_of}
use Rattle.pals_report.specs.ClockEndsAndVerdicts.{clock_end_line}
use Rattle.pals_runs.specs.JournalLines.{entry_line}
use Rattle.pals_bus.specs.BusValues.{BusValue}
use Rattle.loose_world.specs.proof.FinishedRows.{common_lines}
use Rattle.node_threads.specs.declared.node_end.NodeEnd.{NodeEnd}
use Rattle.run_texts.specs.declared.run_report.RunReport.{RunReport}
use Rattle.run_texts.specs.declared.run_report.RunReport.TheVariants as told
use Rattle.run_texts.specs.proof.NodeEnds.{AreFirst}

abbrev pub journal_lines : BusValue → List ℕ
journal_lines b = text_of (map (entry_line b.run.design) b.journal)

abbrev pub TellsEnd : BusValue → List NodeEnd → Bool → RunReport → Type 0
TellsEnd b ends trace (told.Completed text) =
    (b.state.stop ≡ None) × AreFirst ends (length ends) None
    × (text.items ≡ text_of (common_lines b) ++ (if trace then journal_lines b else []))
TellsEnd b ends trace (told.Stopped text) =
    (b.state.stop ≢ None) × (text.items ≡ text_of (common_lines b) ++ journal_lines b)
TellsEnd b ends trace (told.ClockEnded text) =
    (b.state.stop ≡ None) × ((named : NodeNo × ℕ) × AreFirst ends (length ends) (Some named)
    × (text.items ≡ clock_end_line b.run.design named.0.0 named.1 ++ line_end))
