use Rattle.std.proofs.Common.{◌≡◌, ap, sym, ◌∙◌, arith}
use Rattle.std.proofs.lemmas.Bool.{eqb-true}
use Rattle.std.proofs.lemmas.Grind.{common_steps}
use Rattle.pals_base.specs.ExpressionAndActionTrees.{If, For}
use Rattle.pals_base.specs.proof.TreeViews.{action_of, actions_along, branches_along}
use Rattle.pals_base.proofs.TreeViews.{action_of-If, action_of-For}
use Rattle.pals_base.proofs.SameTreeLengths.{same_acts-length, same_branches-length}
use Rattle.pals_base.proofs.+same_act.Goals as goal
use Rattle.pals_base.proofs.+same_act.Goals.{behaviour::Act::same-then-low-other_low}
use Rattle.pals_base.proofs.+same_act.Goals.{behaviour::Act::same-else-low-other_low}

pub behaviour::Act::same-returns-then-same_branches : goal.behaviour::Act::same-returns-then-same_branches
behaviour::Act::same-returns-then-same_branches t c =
    let here = c.in-If-If in
    let left : action_of c.args.self.now ≡ If (branches_along here.branches.items)
    (actions_along here.otherwise.items) = ap action_of here.is-0 ∙ action_of-If here.branches here.otherwise in
    let right : action_of c.args.other.now ≡ If (branches_along here.other_branches.items)
    (actions_along here.other_otherwise.items) =
    ap action_of here.is-1 ∙ action_of-If here.other_branches here.other_otherwise in
    let firsts = (rw (c.deref.ensures.value, c.deref-in-If-If.ensures.value) at c.same_branches.ensures) in
    let same_firsts : branches_along here.branches.items ≡ branches_along here.other_branches.items =
    firsts.0 c.if-same_branches.true in
    let rests =
    rw (c.deref-then-same_branches.ensures.value, c.deref-then-same_branches-2.ensures.value) at
    c.same_acts.ensures in
    (λ yes. let e = rests.0 yes in cc, λ same. rests.1 (cc))

pub behaviour::Act::same-returns-else-same_branches : goal.behaviour::Act::same-returns-else-same_branches
behaviour::Act::same-returns-else-same_branches t c =
    let here = c.in-If-If in
    let left : action_of c.args.self.now ≡ If (branches_along here.branches.items)
    (actions_along here.otherwise.items) = ap action_of here.is-0 ∙ action_of-If here.branches here.otherwise in
    let right : action_of c.args.other.now ≡ If (branches_along here.other_branches.items)
    (actions_along here.other_otherwise.items) =
    ap action_of here.is-1 ∙ action_of-If here.other_branches here.other_otherwise in
    let firsts = rw (c.deref.ensures.value, c.deref-in-If-If.ensures.value) at c.same_branches.ensures in
    let no = c.if-same_branches.false in
    (λ yes. cc, λ same. firsts.1 (cc))

pub behaviour::Act::same-returns-then-high-other_high : goal.behaviour::Act::same-returns-then-high-other_high
behaviour::Act::same-returns-then-high-other_high t c =
    let here = c.in-For-For in
    let left : action_of c.args.self.now ≡ For here.low here.high (actions_along here.body.items) =
    ap action_of here.is-0 ∙ action_of-For here.low here.high here.body in
    let right : action_of c.args.other.now ≡ For here.other_low here.other_high (actions_along here.other_body.items) =
    ap action_of here.is-1 ∙ action_of-For here.other_low here.other_high here.other_body in
    let test = c.if-high-other_high.true in
    let low : here.low ≡ here.other_low = elim c.if-low-other_low.branch [
      | behaviour::Act::same-then-low-other_low w ↦ grind (arith, common_steps)
      | behaviour::Act::same-else-low-other_low w ↦
          absurd (w.if-low-other_low.false (eqb-true _ _ (sym w.value-is ∙ test)))
    ] in
    let high : here.high ≡ here.other_high = elim c.if-low-other_low.branch [
      | behaviour::Act::same-then-low-other_low w ↦
          (let bits = eqb-true _ _ (sym w.value-is ∙ test) in grind (arith, common_steps))
      | behaviour::Act::same-else-low-other_low w ↦
          absurd (w.if-low-other_low.false (eqb-true _ _ (sym w.value-is ∙ test)))
    ] in
    let bodies =
    rw (c.deref-then-high-other_high.ensures.value, c.deref-then-high-other_high-2.ensures.value) at
    c.same_acts-then-high-other_high.ensures in
    (λ yes. let e = bodies.0 yes in cc, λ same. bodies.1 (cc))

pub equality::actions::same_acts-returns-then-left-right : goal.equality::actions::same_acts-returns-then-left-right
equality::actions::same_acts-returns-then-left-right t c =
    (grind (arith, common_steps), λ same. let e = same_acts-length _ _ same in absurd (grind (arith, common_steps)))

pub equality::actions::same_branches-returns-then-left-right : goal.equality::actions::same_branches-returns-then-left-right
equality::actions::same_branches-returns-then-left-right t c =
    (grind (arith, common_steps), λ same. let e = same_branches-length _ _ same in absurd (grind (arith, common_steps)))
