use Rattle.std.proofs.Common.{take}
use Rattle.aadl_tree.specs.proof.PackageViews.{placed}
use Rattle.aadl_uses.specs.proof.FirstRecursion.{IsFirstOf}
use Rattle.aadl_uses.proofs.recursion.first_of.Given as goal

abbrev pub invariant-loop-suspect : goal.invariant-loop-suspect
invariant-loop-suspect l = IsFirstOf (placed l.uses.names.tree.now) (take l.suspect-index l.suspects) l.first
