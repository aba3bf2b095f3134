use Rattle.run_laws.proofs.EntryLines.{lines_tell_entries, lines_differ}
use Rattle.run_laws.proofs.ParsedEntryRanges.{told_are_in}
use Rattle.run_laws.proofs.line_laws.lines_tell_entries.Goals as goal

pub returns : goal.returns
returns c = record { told = lines_tell_entries; differ = lines_differ; within = told_are_in }
