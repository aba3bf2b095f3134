use Rattle.std.proofs.Common.{◌≡◌, Some, None, cond, true, false, sym, ap, ◌∙◌, rules, tests}
use Rattle.pals_runs.specs.declared.verdicts.TraceRule.TheVariants as rule
use Rattle.pals_model.specs.declared.design.DesignParts.{DesignParts}
use Rattle.run_laws.specs.TraceRules.{is_line_of}
use Rattle.trace_audit.proofs.AuditInvariant.{stop_line}
use Rattle.trace_audit.proofs.replay.Replay.take_stop.Goals as goal

pub returns-then-not-is_line_of-clause-rule : goal.returns-then-not-is_line_of-clause-rule
returns-then-not-is_line_of-clause-rule c =
    let r = c.args.self.now in
    let e = c.args.entry.now in
    let none : c.is_line_of.result ≡ false = search (rules, tests) in
    sym (ap (λ b. cond b None (Some rule.Stop)) none)
    ∙ stop_line r.bus.run r.bus.state r.readings.items r.owed e c.args.owed.now c.is_line_of.result
    c.requires.clock.reads c.requires.owed
    (c.is_line_of.ensures ∙ ap (λ (d : DesignParts). is_line_of d e (Some c.args.owed.now)) c.design.ensures)

pub returns-clause-rule : goal.returns-clause-rule
returns-clause-rule c =
    let r = c.args.self.now in
    let e = c.args.entry.now in
    let one : c.is_line_of.result ≡ true = search (rules, tests) in
    sym (ap (λ b. cond b None (Some rule.Stop)) one)
    ∙ stop_line r.bus.run r.bus.state r.readings.items r.owed e c.args.owed.now c.is_line_of.result
    c.requires.clock.reads c.requires.owed
    (c.is_line_of.ensures ∙ ap (λ (d : DesignParts). is_line_of d e (Some c.args.owed.now)) c.design.ensures)
