use Rattle.std.proofs.Common.{◌≡◌, ◌++◌, drop, map}
use Rattle.std.specs.List.{enumerate_from}
use Rattle.triple_vote.specs.VotedComposition.{is_replicated}
use Rattle.analysis_texts.specs.proof.ReplicaNamesAndLines.{names_of, all_names}
use Rattle.analysis_texts.proofs.replica_names.all_names.Given as goal

-- the names so far, and the names of the remaining components
abbrev pub invariant-loop-node : goal.invariant-loop-node
invariant-loop-node l =
    l.names.items ++ map (λ numbered. names_of numbered.1.path (is_replicated l.replicated numbered.0))
    (enumerate_from l.node (drop l.node l.components))
    ≡ all_names l.components l.replicated
