use Rattle.std.proofs.Common.{sym}
use Rattle.run_laws.proofs.EntryLines.{lines_differ}
use Rattle.trace_audit.proofs.StartLines.{line_is}
use Rattle.trace_audit.proofs.entry_comparison.is_line_of.Goals as goal

pub returns : goal.returns
returns c =
    let design = c.args.design.now in
    let e = c.args.entry.now in
    let other = c.args.other.now in
    sym (line_is design e other c.is_same.result
    (lines_differ design e c.period-period.ensures.rules c.requires.entry other c.requires.other) c.is_same.ensures)
