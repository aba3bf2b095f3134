use Rattle.std.proofs.Common.{◌≡◌, ap, ◌∙◌, subst, rules}
use Rattle.std.specs.Prelude.{IfOk}
use Rattle.std.specs.Arc.{arc_value}
use Rattle.pals_model.specs.declared.design.DesignParts.{DesignParts}
use Rattle.bus_machine.specs.RunParameters.{Run}
use Rattle.pals_bus.specs.BusValues.{BusValue}
use Rattle.trace_audit.specs.declared.replay.Replay.{Replay}
use Rattle.trace_audit.proofs.trace_verdict.open.Goals as goal

pub returns-clause-run : goal.returns-clause-run
returns-clause-run c =
    let again : arc_value c.in_ok-again.again ≡ arc_value c.args.design.now = search rules in
    let is = ap (λ (b : BusValue). b.run) c.in_ok-bus.ensures
    ∙ ap (λ (d : DesignParts). let r : Run =
    record { design = d; env = c.args.env; rounds = c.args.rounds; delays = c.args.delays } in r) again in
    subst (λ (u : Run). IfOk c.new-2.result (λ (r : Replay). r.bus.run ≡ u)) is c.new-2.ensures.run
