-- The status and the text at the end of a loose world.
use Rattle.std.specs.Prelude.{ℕ, List, ◌++◌, map}
use Rattle.pals_model.specs.RoundTexts.{line_end, text_of}
use Rattle.pals_runs.specs.JournalLines.{entry_line}
use Rattle.pals_bus.specs.BusValues.{BusValue}
use Rattle.loose_world.specs.declared.loose_run.LooseEnd.{LooseEnd}
use Rattle.loose_world.specs.proof.FinishedRows.{finished_lines, common_lines}
use Rattle.pals_report.specs.EventFaultLines.{event_fault_line}
use Rattle.pals_top.specs.declared.status.TheConstants.{DONE, SCENARIO_REFUSED, STOPPED}
use Rattle.loose_world.specs.declared.loose_run.LooseEnd.TheVariants as end

abbrev pub status_at : LooseEnd → ℕ
status_at end.All = DONE
status_at (end.Stopped why) = STOPPED
status_at (end.Refused index fault) = SCENARIO_REFUSED

abbrev pub text_at : LooseEnd → BusValue → List ℕ → List ℕ
text_at end.All after sent = text_of (finished_lines after) ++ sent
text_at (end.Stopped why) after sent =
    text_of (common_lines after) ++ text_of (map (entry_line after.run.design) after.journal)
text_at (end.Refused index fault) after sent = event_fault_line after.run.design index fault ++ line_end
