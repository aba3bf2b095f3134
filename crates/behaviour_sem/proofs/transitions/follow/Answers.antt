use Rattle.std.proofs.Common.{◌≡◌, ◌∙◌, sym, ap, subst, Ok, Err, rules}
use Rattle.std.specs.Prelude.{Some}
use Rattle.pals_base.specs.Actions.{acts}
use Rattle.pals_base.specs.SingleStep.{along}
use Rattle.pals_base.specs.ExpressionAndActionTrees.{Edge}
use Rattle.pals_base.specs.proof.TreeViews.{actions_along}
use Rattle.behaviour_sem.specs.proof.EvaluationFrames.{frame_of, fresh}
use Rattle.behaviour_sem.specs.proof.PartialStepResults.{IsStepResult}
use Rattle.behaviour_sem.specs.proof.ActionExecution.{effect}
use Rattle.behaviour_sem.specs.proof.PartialSteps.{fired}
use Rattle.behaviour_sem.proofs.TransitionSearch.{along-ran, along-stops}
use Rattle.behaviour_sem.proofs.transitions.follow.Goals as goal

pub returns-in_err-run_all-clause-leads : goal.returns-in_err-run_all-clause-leads
returns-in_err-run_all-clause-leads c =
    let at = fired (c.args.place.now, c.args.outs.now) c.args.inputs.now in
    let edge = c.args.transition.now in
    let meant = λ (e : Edge). acts e.actions (frame_of at.frame.vars at.frame.held) (fresh c.args.inputs.now) at.outs in
    let stop = c.in_err-run_all.field-0.0 in
    let after = effect c.run_all.new.vars.items c.run_all.new.outs in
    let answers : c.from_residual.result ≡ Err stop = search rules in
    let same =
    ap (λ as'. acts (actions_along as') (frame_of at.frame.vars at.frame.held) (fresh c.args.inputs.now) at.outs)
    c.deref.ensures.value
    ∙ ap meant c.transition.view_is in
    let left = subst (λ m. IsStepResult (Err stop) after m) same c.in_err-run_all.ensures.runs in
    let reached =
    fired (record { state = at.frame.state; vars = c.run_all.new.vars }, c.run_all.new.outs) c.args.inputs.now in
    subst (λ r. IsStepResult r reached (along (Some edge) (fresh c.args.inputs.now) at)) (sym answers)
    (along-stops stop edge at (fresh c.args.inputs.now) after reached left)

pub returns-clause-leads : goal.returns-clause-leads
returns-clause-leads c =
    let at = fired (c.args.place.now, c.args.outs.now) c.args.inputs.now in
    let edge = c.args.transition.now in
    let meant = λ (e : Edge). acts e.actions (frame_of at.frame.vars at.frame.held) (fresh c.args.inputs.now) at.outs in
    let after = effect c.run_all.new.vars.items c.run_all.new.outs in
    let same =
    ap (λ as'. acts (actions_along as') (frame_of at.frame.vars at.frame.held) (fresh c.args.inputs.now) at.outs)
    c.deref.ensures.value
    ∙ ap meant c.transition.view_is in
    along-ran edge at (fresh c.args.inputs.now) after.vars after.outs (sym same ∙ c.in_ok-run_all.ensures.runs)
    ∙ ap (λ (e : Edge). Ok (fired (record { state = e.target; vars = c.run_all.new.vars }, c.run_all.new.outs)
    c.args.inputs.now)) (sym c.transition.view_is)
