use Rattle.std.proofs.Common.{◌≡◌, Some, None, cond, true, sym, ap, ◌∙◌, subst}
use Rattle.pals_runs.specs.declared.verdicts.TraceRule.TheVariants as rule
use Rattle.bus_machine.specs.NodeEvents.{is_waiting}
use Rattle.bus_machine.specs.Machine.{Start}
use Rattle.run_laws.specs.TraceRules.{alarm_at, falls}
use Rattle.pals_node.specs.proof.Answers.{is_early, StartEnds}
use Rattle.pals_bus.specs.proof.NodeLists.{node_value}
use Rattle.pals_bus.specs.proof.Answers.{BusStartEnds}
use Rattle.trace_audit.proofs.BrokenRules.{early_breaks}
use Rattle.trace_audit.proofs.StartRules.{started, misses}
use Rattle.trace_audit.proofs.replayed_events.begin.Goals as goal

pub returns-in-Ok-clause-rule : goal.returns-in-Ok-clause-rule
returns-in-Ok-clause-rule c =
    let start = c.in-Ok.ensures.ok in
    started c.args.bus.now c.start.new.self c.args.readings.now c.args.entry.now c.args.node c.args.reading
    c.late_rule.result c.falls-falls.result c.has_due-waits.result c.is_last.result c.journal.result.now
    c.requires.ready c.requires.says c.keeps.ensures.design c.keeps.ensures.rounds c.requires.entry c.requires.node
    start.happens start.node_starts.due c.falls-falls.ensures c.has_due-waits.ensures c.journal.ensures
    c.is_last.ensures c.late_rule.ensures

pub returns-in-Err-Stopped-clause-rule : goal.returns-in-Err-Stopped-clause-rule
returns-in-Err-Stopped-clause-rule c =
    let b = c.args.bus.now in
    let end =
    subst (BusStartEnds b c.args.node (Some c.args.reading) c.start.new.self) c.in-Err-Stopped.field-0-is
    c.in-Err-Stopped.ensures.end in
    let missed =
    misses b c.start.new.self c.args.node (Some c.args.reading) c.in-Err-Stopped.field-0-0
    c.requires.ready.going end in
    started b c.start.new.self c.args.readings.now c.args.entry.now c.args.node c.args.reading
    c.late_rule-in-Err-Stopped.result c.falls-falls.result c.has_due-waits.result c.is_last-in-Err-Stopped.result
    c.journal-in-Err-Stopped.result.now
    c.requires.ready c.requires.says c.keeps.ensures.design c.keeps.ensures.rounds c.requires.entry c.requires.node
    missed.happens missed.misses.1 c.falls-falls.ensures c.has_due-waits.ensures c.journal-in-Err-Stopped.ensures
    c.is_last-in-Err-Stopped.ensures c.late_rule-in-Err-Stopped.ensures

pub returns-in-Err-Refused-NotYet-clause-rule : goal.returns-in-Err-Refused-NotYet-clause-rule
returns-in-Err-Refused-NotYet-clause-rule c =
    let b = c.args.bus.now in
    let says = c.requires.says in
    let at = c.in-Err-Refused-NotYet in
    let refused =
    subst (BusStartEnds b c.args.node (Some c.args.reading) c.start.new.self) at.field-0-is at.ensures.end in
    let cause = subst (StartEnds (node_value b c.args.node.0) (Some c.args.reading)) at.field-0-0-is refused.cause in
    let early : is_early (Some c.args.reading) (alarm_at b.run b.state c.args.node.0) ≡ true =
    ap (is_early (Some c.args.reading)) (sym cause.1) ∙ cause.2 in
    early_breaks b.run b.state c.args.readings.now c.args.entry.now (Start c.args.node (Some c.args.reading)) rule.Alarm
    c.early_rule.result c.falls-falls.result
    c.requires.ready.going says.event says.fits (ap is_waiting cause.0)
    (c.falls-falls.ensures ∙ ap (falls c.args.readings.now) (sym says.reads))
    (says.early ∙ ap (λ o. cond o (Some rule.Alarm) None) early) c.early_rule.ensures

pub unreachable-requires : goal.unreachable-requires
unreachable-requires c =
    let b = c.args.bus.now in
    let at = c.in-Err-Refused-Missed in
    let refused =
    subst (BusStartEnds b c.args.node (Some c.args.reading) c.start.new.self) at.field-0-is at.ensures.end in
    refused.misses_none at.field-0-0-0 at.field-0-0-is
