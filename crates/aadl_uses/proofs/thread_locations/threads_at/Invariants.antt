use Rattle.std.proofs.Common.{◌≡◌, map, reverse, take}
use Rattle.aadl_tree.specs.proof.PackageViews.{placed}
use Rattle.aadl_uses.specs.ThreadLocations.{thread_at}
use Rattle.aadl_uses.proofs.thread_locations.threads_at.Given as goal

abbrev pub invariant-loop-path : goal.invariant-loop-path
invariant-loop-path l =
    l.threads ≡ map (λ path. thread_at (placed l.uses.names.tree.now) l.root (reverse path.items))
    (take l.path-index l.paths)
