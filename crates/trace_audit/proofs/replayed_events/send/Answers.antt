use Rattle.std.proofs.Common.{◌≡◌, Some, None, cond, true, refl, sym, ap, ◌∙◌, subst}
use Rattle.std.proofs.lemmas.Bool.{eq-eqb}
use Rattle.pals_runs.specs.declared.journal.JournalEntry.TheVariants as entry
use Rattle.pals_runs.specs.declared.verdicts.TraceRule.TheVariants as rule
use Rattle.bus_machine.specs.AlarmsAndReleases.{release_reading}
use Rattle.bus_machine.specs.Nodes.{round_of}
use Rattle.bus_machine.specs.Plans.{plan_of}
use Rattle.bus_machine.specs.BusStates.{node_at}
use Rattle.bus_machine.specs.Machine.{Send}
use Rattle.pals_node.specs.proof.Answers.{is_early, SendEnds}
use Rattle.pals_bus.specs.proof.NodeLists.{node_value}
use Rattle.pals_bus.specs.proof.Answers.{BusSendEnds}
use Rattle.trace_audit.proofs.BrokenRules.{early_breaks}
use Rattle.trace_audit.proofs.replayed_events.send.Goals as goal

pub returns-in-Err-Refused-NotYet-clause-rule : goal.returns-in-Err-Refused-NotYet-clause-rule
returns-in-Err-Refused-NotYet-clause-rule c =
    let b = c.args.bus.now in
    let node = c.args.node in
    let n = node_at b.state node.0 in
    let at = c.in-Err-Refused-NotYet in
    let refused = subst (BusSendEnds b node (Some c.args.reading)) at.field-0-is at.ensures.cause in
    let end = subst (SendEnds (node_value b node.0) (Some c.args.reading)) at.field-0-0-is refused.1 in
    let early : is_early (Some c.args.reading) (release_reading (plan_of b.run.design node.0) n) ≡ true =
    ap (is_early (Some c.args.reading)) (sym end.1) ∙ end.2 in
    early_breaks b.run b.state c.args.readings.now (entry.Send node c.args.round (Some c.args.reading))
    (Send node (Some c.args.reading)) rule.Release c.early_rule.result c.falls-falls.result
    c.requires.ready.going refl (eq-eqb c.args.round (round_of n) (c.if-round-in_hand.false ∙ c.in_hand.ensures)) end.0
    c.falls-falls.ensures
    (ap (λ o. cond o (Some rule.Release) None) early) c.early_rule.ensures
