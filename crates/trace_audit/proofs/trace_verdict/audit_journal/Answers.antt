use Rattle.std.proofs.Common.{◌≡◌, ◌≤◌, Ok, length, ap, ◌∙◌, arith}
use Rattle.run_laws.specs.EntriesInLines.{entry_of_line}
use Rattle.trace_audit.specs.proof.AuditInvariant.{audit_in}
use Rattle.trace_audit.proofs.JournalVerdicts.{judged_end, judged_next, judged_wrong}
use Rattle.trace_audit.proofs.trace_verdict.audit_journal.Goals as goal

pub returns-in-Some : goal.returns-in-Some
returns-in-Some c =
    let run = c.args.replay.now.bus.run in
    let old = c.loop-index.replay in
    let line = c.index-trace-index.result in
    let tells : c.told-told.result ≡ entry_of_line run.design line = c.told-told.ensures.value
    ∙ ap (λ d. entry_of_line d c.as_str.result.now) c.requires.names ∙ ap (entry_of_line run.design) c.as_str.ensures in
    c.wrong.ensures
    ∙ judged_wrong run old.bus.run c.args.rows c.loop-index.index (audit_in old) c.args.trace.now line
    c.told-told.result c.in-Some.rule c.in_ok-rule.field-0 _ c.loop-index-test.true c.index-trace-index.is tells
    c.loop-index.invariant.run c.in_ok-rule.ensures.rule c.in-Some.is c.loop-index.invariant.judged

pub loop-index-preserved : goal.loop-index-preserved
loop-index-preserved c =
    let run = c.args.replay.now.bus.run in
    let old = c.loop-index.replay in
    let line = c.index-trace-index.result in
    let tells : c.told-told.result ≡ entry_of_line run.design line = c.told-told.ensures.value
    ∙ ap (λ d. entry_of_line d c.as_str.result.now) c.requires.names ∙ ap (entry_of_line run.design) c.as_str.ensures in
    let next =
    judged_next run old c.audit_line.new.self c.args.rows c.loop-index.index c.args.trace.now line
    c.told-told.result c.in_ok-rule.field-0 _ c.loop-index-test.true c.index-trace-index.is tells
    c.loop-index.invariant.run c.in_ok-rule.ensures.rule c.in_default.is
    (c.in_ok-rule.ensures.next (ap Ok c.in_default.is)) c.loop-index.invariant.judged in
    record { kept = next.kept; run = next.run_is; judged = next.judged }

pub returns : goal.returns
returns c =
    let run = c.args.replay.now.bus.run in
    let old = c.loop-index.replay in
    let past : length c.args.trace.now ≤ c.loop-index.index = omega arith in
    let end : length c.args.trace.now ≡ c.loop-index.index = omega arith in
    c.end_verdict.ensures
    ∙ judged_end run old.bus.run c.args.rows c.loop-index.index (length c.args.trace.now) (audit_in old)
    c.args.trace.now _ past end c.loop-index.invariant.run c.loop-index.invariant.judged
