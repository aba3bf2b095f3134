use Rattle.std.proofs.Common.{◌≡◌, Some, None, cond, true, false, nat_eq, refl, sym, ap, ◌∙◌, subst, rules, tests}
use Rattle.std.specs.Prelude.{is_some}
use Rattle.std.specs.Option.{option_map_or}
use Rattle.pals_runs.specs.declared.journal.JournalEntry.TheVariants as entry
use Rattle.pals_runs.specs.declared.verdicts.TraceRule.TheVariants as rule
use Rattle.bus_machine.specs.AlarmsAndReleases.{step_alarm}
use Rattle.bus_machine.specs.NodeEvents.{next_step}
use Rattle.bus_machine.specs.Plans.{plan_of}
use Rattle.bus_machine.specs.BusStates.{node_at}
use Rattle.bus_machine.specs.Machine.{Step}
use Rattle.pals_node.specs.proof.Answers.{is_early, StepEnds}
use Rattle.pals_bus.specs.proof.NodeLists.{node_value}
use Rattle.pals_bus.specs.proof.Answers.{BusStepEnds}
use Rattle.trace_audit.proofs.BrokenRules.{early_breaks}
use Rattle.trace_audit.proofs.StepOrder.{next_is, step_fits}
use Rattle.trace_audit.proofs.replayed_events.step.Goals as goal

pub returns-in-Err-Refused-NotYet-clause-rule : goal.returns-in-Err-Refused-NotYet-clause-rule
returns-in-Err-Refused-NotYet-clause-rule c =
    let b = c.args.bus.now in
    let node = c.args.node in
    let n = node_at b.state node.0 in
    let plan = plan_of b.run.design node.0 in
    let at = c.in-Err-Refused-NotYet in
    let refused = subst (BusStepEnds b node (Some c.args.reading)) at.field-0-is at.ensures.cause in
    let end = subst (StepEnds (node_value b node.0) (Some c.args.reading)) at.field-0-0-is refused.1 in
    let yes : c.is_next.result ≡ true = search (rules, tests) in
    let next : next_step n.phase ≡ Some c.args.step =
    next_is c.args.step n.phase
    (ap (λ p. option_map_or (nat_eq c.args.step) (next_step p) false) (sym c.phase.ensures)
    ∙ sym c.is_next.ensures ∙ yes) in
    let one : Some end.0 ≡ Some c.args.step = sym (ap next_step end.1) ∙ next in
    let same : end.0 ≡ c.args.step = cc in
    let early : is_early (Some c.args.reading) (step_alarm plan n c.args.step) ≡ true =
    ap (λ i. is_early (Some c.args.reading) (step_alarm plan n i)) (sym same)
    ∙ ap (is_early (Some c.args.reading)) (sym end.2) ∙ end.3 in
    early_breaks b.run b.state c.args.readings.now (entry.Step node c.args.round c.args.step (Some c.args.reading))
    (Step node (Some c.args.reading)) rule.Alarm c.early_rule.result c.falls-falls.result
    c.requires.ready.going refl
    (step_fits b.run b.state node c.args.round c.args.step (Some c.args.reading)
    (c.if-round-in_hand.false ∙ c.in_hand.ensures) next) (ap is_some next) c.falls-falls.ensures
    (ap (λ o. cond o (Some rule.Alarm) None) early) c.early_rule.ensures
