use Rattle.std.proofs.Common.{◌≡◌, Some, reverse, take}
use Rattle.aadl_tree.specs.proof.PackageViews.{placed}
use Rattle.aadl_uses.specs.ContainmentAndUse.{number_at_path}
use Rattle.aadl_uses.proofs.thread_locations.standing.Given as goal

abbrev pub invariant-loop-sub : goal.invariant-loop-sub
invariant-loop-sub l = number_at_path (placed l.uses.names.tree.now) l.root (reverse (take l.sub-index l.path))
    ≡ Some l.here
