use Rattle.std.proofs.Common.{◌≡◌, ◌∙◌, [], ◌∷◌, ◌++◌, length, ap}
use Rattle.std.specs.Prelude.{slice_get}
use Rattle.list_lemmas.proofs.Results.{OnOk-weaker}
use Rattle.pals_base.specs.SingleStep.{completes, is_complete}
use Rattle.pals_base.specs.ExpressionAndActionTrees.{Edge}
use Rattle.pals_base.specs.proof.TreeViews.{trigger_of, actions_along}
use Rattle.step_code.specs.CodeLengths.{length_trigger}
use Rattle.step_compiler.specs.ExpressionAndActionInstructions.{code_acts}
use Rattle.step_compiler.specs.BlockInstructions.{trigger_code, last_instr, false_guard_target}
use Rattle.step_compiler.specs.proof.BlockLengthsAndStarts.{in_list}
use Rattle.step_compiler.proofs.PlacedCodeLengths.{trigger-length}
use Rattle.step_compiler.proofs.AppendedCode.{between}
use Rattle.step_compiler.proofs.transitions.push_transition.Goals as goal

pub returns : goal.returns
returns c =
    let old = c.args.code.now in
    let b = c.args.behaviour.now in
    let e = c.args.transition.now in
    let starts = in_list c.args.starts.now in
    let complete = is_complete b e.source in
    let p = length old in
    let c1 = c.push_guard.new.code in
    let c2 = c.push_acts.new.code in
    let seen = c.transition.view_is in
    let never : c.is_complete-never_taken.result ≡ complete =
    c.is_complete-never_taken.ensures
    ∙ ap (λ ss. completes (slice_get ss c.transition.inside.source)) c.states.ensures.value
    ∙ ap (λ (x : Edge). is_complete b x.source) seen in
    let past_is : c.in_ok-false_guard_target.false_guard_target ≡ false_guard_target complete e p =
    c.in_ok-false_guard_target.ensures ∙ ap (λ t. false_guard_target t e c.len.result) never
    ∙ ap (false_guard_target complete e) c.len.ensures in
    let trigger : trigger_of c.transition.inside.guard ≡ e.trigger = ap (λ (x : Edge). x.trigger) seen in
    let actions : actions_along c.deref.result.now ≡ e.actions = ap actions_along c.deref.ensures.value
    ∙ ap (λ (x : Edge). x.actions) seen in
    let vars : c.in_ok-variables.variables ≡ length b.vars = c.in_ok-variables.ensures ∙ c.vars.ensures.len in
    let last : c.last_instr.result ≡ last_instr b starts e.target = c.last_instr.ensures
    ∙ ap (λ (x : Edge). last_instr b starts x.target) seen in
    let first : c1 ≡ old ++ trigger_code e.trigger (false_guard_target complete e p) p =
    c.in_ok-push_guard.ensures ∙ ap (λ t. old ++ trigger_code t c.in_ok-false_guard_target.false_guard_target p) trigger
    ∙ ap (λ q. old ++ trigger_code e.trigger q p) past_is in
    let second : c2 ≡ c1 ++ code_acts e.actions (length b.vars) (length c1) =
    c.in_ok-push_acts.ensures ∙ ap (λ as'. c1 ++ code_acts as' c.in_ok-variables.variables (length c1)) actions
    ∙ ap (λ n. c1 ++ code_acts e.actions n (length c1)) vars in
    OnOk-weaker c.push.result _ _
    (λ is. between old c1 c2 c.push.new.self (trigger_code e.trigger (false_guard_target complete e p) p)
    (last_instr b starts e.target) (length_trigger e.trigger) (code_acts e.actions (length b.vars))
    first (trigger-length e.trigger (false_guard_target complete e p) p) second (is ∙ ap (λ i. c2 ++ i ∷ []) last))
    c.push.ensures.ok
