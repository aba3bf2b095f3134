use Rattle.std.proofs.Common.{ℕ, ◌<◌}
use Rattle.aadl_tree.specs.Declarations.{Implementation}
use Rattle.aadl_tree.specs.proof.PackageViews.{placed}
use Rattle.aadl_instance.specs.proof.ThreadLimits.{most, count_of, IsUsedThread}
use Rattle.aadl_instance.proofs.thread_limits.has_too_many.Given as goal

-- none of the first ones exceeds the limit
abbrev pub invariant-loop-number : goal.invariant-loop-number
invariant-loop-number l =
    (n : ℕ) (x : Implementation ℕ) → n < l.number-counter
    → IsUsedThread (placed l.wires.uses.names.tree.now) l.used.keys n x
    → most l.part < count_of (placed l.wires.uses.names.tree.now) x l.part → ⊥
