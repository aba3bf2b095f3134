use Rattle.std.proofs.Common.{map}
use Rattle.aadl_uses.specs.proof.OrderedLists.{AreListed}
use Rattle.aadl_uses.specs.ThreadsBelow.{path_before}
use Rattle.aadl_uses.proofs.MarkedPathCounts.{Begun}
use Rattle.aadl_uses.proofs.paths_to_marked.paths_of.Given as goal

-- the paths that begin with the subcomponents so far
abbrev pub invariant-loop-sub : goal.invariant-loop-sub
invariant-loop-sub l =
    AreListed (Begun l.graph l.marks l.number l.sub) path_before (map (λ path. path.items) l.row.items)
