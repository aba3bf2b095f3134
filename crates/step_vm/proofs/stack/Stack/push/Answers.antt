use Rattle.std.proofs.Common.{◌∙◌, ◌∷◌, ◌<◌, length, ◌+◌, slice_set, ap, arith}
use mir.Val.{to_z, of_z}
use mir.Syntax.{w64}
use Rattle.std.proofs.lemmas.Int.{to_z-of_z}
use Rattle.std.proofs.lemmas.List.{length-set}
use Rattle.step_vm.specs.proof.OperandStacks.{stack_of, stacked}
use Rattle.step_vm.proofs.StackCells.{length-stacked, pushed}
use Rattle.step_vm.proofs.stack.Stack.push.Goals as goal

pub index_mut-requires : goal.index_mut-requires
index_mut-requires c =
    let e = length-stacked c.self.inside.cells.items c.self.inside.top in
    let n = ap (λ v. length v.numbers) c.self.view_is in
    let m = ap (λ v. v.size) c.self.view_is in
    let r = c.requires in
    omega arith

pub invariant_of-self : goal.invariant_of-self
invariant_of-self c =
    let e = length-stacked c.self.inside.cells.items c.self.inside.top in
    let n = ap (λ v. length v.numbers) c.self.view_is in
    let m = ap (λ v. v.size) c.self.view_is in
    let r = c.requires in
    let l = length-set c.self.inside.cells.items c.self.inside.top (to_z w64 (of_z w64 c.args.operand)) in
    omega arith

pub returns : goal.returns
returns c =
    let cells = c.self.inside.cells.items in
    let top = c.self.inside.top in
    let v = c.args.operand in
    let e = length-stacked cells top in
    let n = ap (λ s. length s.numbers) c.self.view_is in
    let m = ap (λ s. s.size) c.self.view_is in
    let r = c.requires in
    let within : top < length cells = omega arith in
    ap (λ x. stack_of (stacked (slice_set cells top x) (top + 1)) (length (slice_set cells top x)))
    (to_z-of_z w64 v c.ranges.operand)
    ∙ ap (λ xs. stack_of xs (length (slice_set cells top v))) (pushed cells top v within)
    ∙ ap (λ k. stack_of (v ∷ stacked cells top) k) (length-set cells top v)
    ∙ ap (λ s. stack_of (v ∷ s.numbers) s.size) c.self.view_is
