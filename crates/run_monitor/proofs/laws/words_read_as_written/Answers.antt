use Rattle.run_monitor.proofs.FormulaLaws.{previous_reads, once_reads, historically_reads, since_reads}
use Rattle.run_monitor.proofs.laws.words_read_as_written.Goals as goal

pub returns : goal.returns
returns c =
    record { previous = previous_reads; once = once_reads; historically = historically_reads; since = since_reads }
