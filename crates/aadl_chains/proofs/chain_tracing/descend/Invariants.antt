use Rattle.std.proofs.Common.{◌≡◌, ℕ, false, reverse, Some}
use Rattle.aadl_tree.specs.proof.PackageViews.{placed}
use Rattle.aadl_uses.specs.ContainmentAndUse as uses
use Rattle.aadl_chains.specs.proof.PortsJoinedInside.{is_in_at}
use Rattle.aadl_chains.specs.proof.UpwardWalks.{OneEach}
use Rattle.aadl_chains.proofs.DeclarationRanks.{rank}
use Rattle.aadl_chains.proofs.TracedChains.{Descending}
use Rattle.aadl_chains.proofs.chain_tracing.descend.Given as goal

abbrev pub invariant-down : goal.invariant-down
invariant-down l =
    (is_in_at (placed l.wires.uses.names.tree.now) l.here l.out ≡ false)
    × ((root : ℕ) → OneEach (placed l.wires.uses.names.tree.now) root
    → uses.number_at_path (placed l.wires.uses.names.tree.now) root (reverse l.fn.path.items) ≡ Some l.fn.number
    → Descending (placed l.wires.uses.names.tree.now) root (record { path = reverse l.fn.path.items; port = l.fn.port })
    l.way.items l.here l.out)

abbrev pub decreases-down : goal.decreases-down
decreases-down l = rank l.order.keys l.here
