use Rattle.std.proofs.Common.{◌≡◌, drop}
use Rattle.run_laws.specs.TraceVerdicts.{journal_verdict}
use Rattle.trace_audit.specs.proof.AuditInvariant.{IsReplay, audit_in}
use Rattle.trace_audit.proofs.trace_verdict.audit_journal.Given as goal

-- the verdict is that on the lines from the index on
abbrev pub invariant-loop-index : goal.invariant-loop-index
invariant-loop-index l = record {
  kept : IsReplay l.replay;
  run : l.replay.bus.run ≡ l.fn.replay.bus.run;
  judged : journal_verdict l.fn.replay.bus.run l.rows l.index (audit_in l.replay) (drop l.index l.trace)
      ≡ journal_verdict l.fn.replay.bus.run l.rows l.start (audit_in l.fn.replay) (drop l.start l.trace);
}
