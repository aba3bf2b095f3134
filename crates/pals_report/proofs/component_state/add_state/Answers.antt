use Rattle.std.proofs.Common.{◌≡◌, ◌++◌, OnOk, sym, subst}
use Rattle.pals_model.specs.RoundTexts.{state_text}
use Rattle.pals_report.proofs.component_state.add_state.Goals as goal

pub returns-in-Some-clause-ok : goal.returns-in-Some-clause-ok
returns-in-Some-clause-ok c =
    subst (λ halt. OnOk c.add_trap.result
    (c.add_trap.new.out.items ≡ c.args.out.now.items ++ state_text c.args.behaviour.now c.args.frame.now halt))
    (sym c.in-Some.is)
    (c.add_trap.ensures.ok c.args.behaviour.now c.args.frame.now)
