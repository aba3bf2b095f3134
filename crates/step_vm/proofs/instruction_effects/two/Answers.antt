use Rattle.std.proofs.Common.{◌≡◌, ◌∙◌, ◌+◌, ◌∷◌, sym, ap, subst, rules}
use Rattle.std.proofs.lemmas.Int.{to_z-of_z}
use mir.Syntax.{w64}
use mir.Val.{SFits}
use Rattle.pals_base.specs.ExpressionValues.{applied}
use Rattle.step_code.specs.InstructionEffects.{on_two, on_result, Goes}
use Rattle.step_vm.specs.proof.MachineAnswers.{Met}
use Rattle.step_vm.proofs.instruction_effects.two.Goals as goal

pub returns-clause-met : goal.returns-clause-met
returns-clause-met c slots outs =
    let fits_right : SFits w64 c.pop-right.result = search rules in
    let fits_left : SFits w64 c.pop-left.result = search rules in
    let is : c.apply.result ≡ applied c.args.op c.pop-left.result c.pop-right.result =
    simp to_z-of_z at c.apply.ensures in
    let both : c.args.stack.now.numbers ≡ c.pop-right.result ∷ c.pop-left.result ∷ c.pop-left.new.self.numbers =
    c.pop-right.ensures.all ∙ ap (λ s. c.pop-right.result ∷ s) c.pop-left.ensures.all in
    subst (λ st. Met c.give.result c.give.new.stack.numbers slots outs
    (on_two c.args.op c.args.place st slots outs)) (sym both)
    (subst (λ r. Met c.give.result c.give.new.stack.numbers slots outs
    (on_result r (λ v. Goes (c.args.place + 1) (v ∷ c.pop-left.new.self.numbers) slots outs))) is
    (c.give.ensures.met slots outs))
