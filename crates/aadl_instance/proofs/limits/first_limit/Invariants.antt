use Rattle.std.proofs.Common.{◌+◌, ◌<◌}
use Rattle.aadl_tree.specs.proof.PackageViews.{placed}
use Rattle.aadl_instance.specs.declared.limits.Limit.{Limit}
use Rattle.aadl_instance.specs.proof.Limits.{line_of, IsExceeded}
use Rattle.aadl_instance.proofs.limits.first_limit.Given as goal

-- the limits so far are not exceeded
abbrev pub invariant-loop-limit : goal.invariant-loop-limit
invariant-loop-limit l =
    (other : Limit) → line_of other < 5 + l.limit-index → IsExceeded (placed l.wires.uses.names.tree.now) l.root other
    → ⊥
