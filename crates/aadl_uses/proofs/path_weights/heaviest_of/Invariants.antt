use Rattle.aadl_uses.proofs.MarkedPathCounts.{Begun}
use Rattle.aadl_uses.specs.proof.HeaviestPaths.{IsGreatestOf, path_weight}
use Rattle.aadl_uses.proofs.path_weights.heaviest_of.Given as goal

-- of the paths that begin with the subcomponents so far
abbrev pub invariant-loop-sub : goal.invariant-loop-sub
invariant-loop-sub l =
    IsGreatestOf (Begun l.graph l.marks l.number l.sub) (path_weight l.graph l.weights l.number) l.limit l.heaviest
