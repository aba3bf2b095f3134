use Rattle.std.proofs.Common.{◌≡◌, ◌<◌, ℕ, false, subst, arith, List, length}
use Rattle.std.specs.List.{list_any}
use Rattle.aadl_uses.specs.proof.ContainmentGraphs.{targets_in}
use Rattle.aadl_uses.specs.proof.RecursionSuspects.{is_above, level_in, AreSuspected}
use Rattle.aadl_uses.proofs.RecursionSuspects.{suspects_more, suspects_all}
use Rattle.aadl_uses.proofs.cycle_suspects.suspects.Goals as goal

pub loop-number-preserved : goal.loop-number-preserved
loop-number-preserved c =
    let g = c.args.graph.now in
    let levels = c.in_ok-levels.levels.items in
    let any = c.rises-any.result in
    let at = c.loop-number.number in
    let old = c.loop-number.found.items in
    let new = c.add_suspects.new.found.items in
    suspects_more g levels any at old new c.loop-number.invariant
    (subst (λ (l : List ℕ). AreSuspected g l any at (length (targets_in g at)) old new)
    c.as_slice-in-loop-number.ensures.value c.in_ok-add_suspects.ensures)

pub returns : goal.returns
returns c =
    let g = c.args.graph.now in
    let levels = c.in_ok-levels.levels.items in
    let any = c.rises-any.result in
    suspects_all g levels any c.loop-number.number c.loop-number.found.items
    (subst (λ (l : List ℕ). any ≡ false → (k : ℕ) → k < length g
    → list_any (is_above l (level_in l k)) (targets_in g k) ≡ false) c.as_slice.ensures.value c.rises-any.ensures)
    (omega arith) c.loop-number.invariant
