use Rattle.std.proofs.Common.{◌≡◌, ◌+◌, ◌*◌, ap, ◌∙◌, sym, subst, true, false, ◌&&◌, rules, arith}
use mir.Syntax.{w64}
use mir.Val.{SFits}
use Rattle.std.proofs.lemmas.Int.{to_z-of_z}
use Rattle.std.specs.Prelude.{IfOk}
use Rattle.std.proofs.lemmas.Grind.{common_steps}
use Rattle.pals_base.specs.ExpressionAndActionTrees.{If, For}
use Rattle.pals_base.specs.proof.TreeViews.{action_of, actions_along, branches_along}
use Rattle.pals_base.specs.TypingRules.{turns, is_short, is_sound, are_sound, branches_are_sound}
use Rattle.pals_base.proofs.TreeViews.{action_of-If, action_of-For}
use Rattle.pals_base.proofs.behaviour_rules.actions.+sound_act.Goals as goal

pub is_sound-returns-in_ok-are_sound-in-If : goal.is_sound-returns-in_ok-are_sound-in-If
is_sound-returns-in_ok-are_sound-in-If t c =
    let here = c.in-If in
    let parts = c.args.parts.now in
    let loops = c.args.loops in
    let around = c.args.around in
    let shape : action_of c.args.act.now ≡ If (branches_along here.branches.items)
    (actions_along here.otherwise.items) = ap action_of here.is ∙ action_of-If here.branches here.otherwise in
    let first : c.in_ok-branches_are_sound-in-If.field-0
    ≡ branches_are_sound (branches_along here.branches.items) parts loops around
    =
    c.in_ok-branches_are_sound-in-If.ensures
    ∙ ap (λ bs. branches_are_sound (branches_along bs) parts loops around) c.deref.ensures.value in
    let second : c.in_ok-are_sound-in-If.field-0 ≡ are_sound (actions_along here.otherwise.items) parts loops around
    =
    c.in_ok-are_sound-in-If.ensures
    ∙ ap (λ as'. are_sound (actions_along as') parts loops around) c.deref-then-branch.ensures.value in
    let yes : c.in_ok-branches_are_sound-in-If.field-0 ≡ true = c.if-branch.true in
    second ∙ ap (λ b. b && are_sound (actions_along here.otherwise.items) parts loops around) (sym yes ∙ first)
    ∙ sym (ap (λ a. is_sound a parts loops around) shape)

pub is_sound-returns-else-branch : goal.is_sound-returns-else-branch
is_sound-returns-else-branch t c =
    let here = c.in-If in
    let parts = c.args.parts.now in
    let loops = c.args.loops in
    let around = c.args.around in
    let shape : action_of c.args.act.now ≡ If (branches_along here.branches.items)
    (actions_along here.otherwise.items) = ap action_of here.is ∙ action_of-If here.branches here.otherwise in
    let first : c.in_ok-branches_are_sound-in-If.field-0
    ≡ branches_are_sound (branches_along here.branches.items) parts loops around
    =
    c.in_ok-branches_are_sound-in-If.ensures
    ∙ ap (λ bs. branches_are_sound (branches_along bs) parts loops around) c.deref.ensures.value in
    let no : c.in_ok-branches_are_sound-in-If.field-0 ≡ false = c.if-branch.false in
    no ∙ ap (λ b. b && are_sound (actions_along here.otherwise.items) parts loops around) (sym no ∙ first)
    ∙ sym (ap (λ a. is_sound a parts loops around) shape)

pub is_sound-returns-in_ok-deeper-in-For : goal.is_sound-returns-in_ok-deeper-in-For
is_sound-returns-in_ok-deeper-in-For t c =
    let here = c.in-For in
    let parts = c.args.parts.now in
    let loops = c.args.loops in
    let around = c.args.around in
    let shape : action_of c.args.act.now ≡ For here.low here.high (actions_along here.body.items) = ap action_of here.is
    ∙ action_of-For here.low here.high here.body in
    let low_fits : SFits w64 here.low = search rules in
    let high_fits : SFits w64 here.high = search rules in
    let count : c.turns-turns.result ≡ turns here.low here.high = simp to_z-of_z at c.turns-turns.ensures in
    let short : is_short (turns here.low here.high) around ≡ true = grind (arith, common_steps) in
    let product : c.together.result ≡ around * turns here.low here.high = c.together.ensures.value
    ∙ ap (λ n. around * n) count in
    let body =
    ap (λ as'. are_sound (actions_along as') parts c.in_ok-deeper-in-For.field-0 c.together.result)
    c.deref-in-For.ensures.value
    ∙ ap (λ n. are_sound (actions_along here.body.items) parts n c.together.result) c.in_ok-deeper-in-For.ensures
    ∙ ap (λ n. are_sound (actions_along here.body.items) parts (loops + 1) n) product
    ∙ ap (λ b. b && are_sound (actions_along here.body.items) parts (loops + 1)
    (around * turns here.low here.high)) (sym short)
    ∙ sym (ap (λ a. is_sound a parts loops around) shape) in
    subst (λ x. IfOk c.are_sound-in-For.result (λ sound. sound ≡ x)) body c.are_sound-in-For.ensures
