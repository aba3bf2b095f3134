use Rattle.std.proofs.Common.{rules, ◌≡◌}
use Rattle.run_laws.specs.EntriesInLines.{entry_of_line}
use Rattle.run_laws.proofs.ParsedEntryRanges.{if_told}
use Rattle.trace_audit.proofs.told_entries.told.Goals as goal

pub returns-clause-within : goal.returns-clause-within
returns-clause-within c =
    let same : c.entry_of.result ≡ entry_of_line c.args.names.now c.args.line.now = search rules in
    if_told c.args.names.now c.args.line.now c.entry_of.result same
