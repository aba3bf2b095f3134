use Rattle.run_laws.proofs.UniqueEntrySpelling.{told_is_line}
use Rattle.run_laws.proofs.history_and_trace_laws.told_are_lines.Goals as goal

pub returns : goal.returns
returns c = told_is_line
