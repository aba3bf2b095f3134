use Rattle.std.proofs.Common.{◌≡◌, ◌≤◌, length, reverse, take, None}
use Rattle.aadl_tree.specs.proof.PackageViews.{placed}
use Rattle.aadl_chains.specs.proof.UpwardWalks as walks
use Rattle.aadl_chains.proofs.chain_tracing.climb.Given as goal

-- the rest of the trace
abbrev pub invariant-up : goal.invariant-up
invariant-up l =
    (walks.walk_back (placed l.wires.uses.names.tree.now) l.root l.last (reverse (take l.depth l.path)) l.here
    ≡ walks.walk_back (placed l.wires.uses.names.tree.now) l.root None (reverse l.path) l.fn.port)
    × (l.depth ≤ length l.path)

abbrev pub decreases-up : goal.decreases-up
decreases-up l = l.depth
