use Rattle.std.proofs.Common.{◌∙◌, pos, refl, ap, arith, rules, w64, slice_set, slice_index_or}
use Rattle.std.proofs.lemmas.Int.{to_z-of_z}
use mir.Val.{SFits}
use Rattle.step_vm.proofs.HeldInputsAndVariables.{keep_more}
use Rattle.step_vm.proofs.steps.keep.Goals as goal

pub loop-at-preserved : goal.loop-at-preserved
loop-at-preserved c =
    let at = c.loop-at.at in
    let slots = c.args.slots.now in
    let v = slice_index_or slots at (pos 0) in
    let fits : SFits w64 v = search rules in
    let set = simp to_z-of_z at c.set.ensures in
    let size = c.len-at-end.ensures in
    let within = c.loop-at-test.true in
    set ∙ ap (λ l. slice_set l at v) c.loop-at.invariant
    ∙ keep_more c.args.vars.now slots at v (omega arith) c.requires refl
