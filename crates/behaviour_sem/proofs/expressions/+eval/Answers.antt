use Rattle.std.proofs.Common.{◌≡◌, ◌∙◌, map, sym, ap, Ok, rules}
use Rattle.std.proofs.lemmas.Int.{to_z-of_z}
use mir.Syntax.{w64}
use mir.Val.{SFits}
use Rattle.pals_base.specs.ExpressionValues.{eval, eval_rest, on_value}
use Rattle.pals_base.specs.SingleStep.{is_present}
use Rattle.pals_base.specs.proof.TreeViews.{tree_of, operands_along}
use Rattle.pals_base.proofs.TreeViews.{tree_of-Chain}
use Rattle.behaviour_sem.specs.proof.EvaluationFrames.{frame_of}
use Rattle.behaviour_sem.proofs.expressions.+eval.Goals as goal

pub eval-returns-in_ok-left-in-Chain : goal.eval-returns-in_ok-left-in-Chain
eval-returns-in_ok-left-in-Chain t c =
    let frame = frame_of c.args.vars.now c.args.inputs.now.held.now in
    let fresh = map is_present c.args.inputs.now.present.now in
    let left = c.in_ok-left-in-Chain.left in
    let fits : SFits w64 left = search rules in
    let first : eval (tree_of c.in-Chain.first.value) frame fresh ≡ Ok left =
    (ap (λ e. eval (tree_of e) frame fresh) (sym c.deref-in-Chain.ensures) ∙ sym c.in_ok-left-in-Chain.ensures) in
    let rest = simp to_z-of_z at c.eval_rest.ensures in
    rest
    ∙ ap (λ os. eval_rest (operands_along os) frame fresh left) c.deref-in-Chain-2.ensures.value
    ∙ sym (ap (λ r. on_value r (λ v. eval_rest (operands_along c.in-Chain.rest.items) frame fresh v)) first)
    ∙ sym (ap (λ e. eval e frame fresh) (tree_of-Chain c.in-Chain.first c.in-Chain.rest))
    ∙ ap (λ e. eval (tree_of e) frame fresh) (sym c.in-Chain.is)
