use Rattle.std.proofs.Common.{get_or, ℕ}
use Rattle.std.proofs.lemmas.List.{get_or_default}
use Rattle.aadl_tree.specs.proof.PackageViews.{placed}
use Rattle.aadl_uses.proofs.FirstRecursion.{first_more}
use Rattle.aadl_uses.proofs.recursion.first_of.Goals as goal

pub loop-suspect-preserved : goal.loop-suspect-preserved
loop-suspect-preserved c =
    let xs = c.args.suspects.now in
    let i = c.loop-suspect.suspect-index in
    let none : ℕ × ℕ = (0, 0) in
    first_more (placed c.args.uses.now.names.tree.now) xs i (get_or xs i none) c.loop-suspect.first c.in_ok-first.first
    c.loop-suspect-test.true
    (get_or_default xs i (get_or xs i none) none c.loop-suspect-test.true) c.loop-suspect.invariant
    c.in_ok-first.ensures
