use Rattle.std.proofs.Common.{◌≡◌, drop}
use Rattle.trace_audit.specs.proof.ReportRows.{IsAtLine}
use Rattle.trace_audit.proofs.ReportEnds.{reported}
use Rattle.trace_audit.proofs.report.read_lines.Given as goal

-- the report ends as its lines from the index on determine
abbrev pub invariant-loop-index : goal.invariant-loop-index
invariant-loop-index l = record {
  rows : IsAtLine l.design l.fn.rows.env.now l.rows l.index;
  ends : reported l.design l.fn.rows.env.now l.index (drop l.index l.trace)
      ≡ reported l.design l.fn.rows.env.now 0 l.trace;
}
