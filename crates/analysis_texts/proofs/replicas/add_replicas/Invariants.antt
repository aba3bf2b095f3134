use Rattle.std.proofs.Common.{◌≡◌, ◌++◌, map}
use Rattle.pals_base.specs.UpwardNumbers.{upwards}
use Rattle.pals_model.specs.RoundTexts.{text_of}
use Rattle.triple_vote.specs.VotedComposition.{frame_at}
use Rattle.analysis_texts.proofs.VotedRows.{replica_line}
use Rattle.analysis_texts.proofs.replicas.add_replicas.Given as goal

-- the lines so far
abbrev pub invariant-loop-at : goal.invariant-loop-at
invariant-loop-at l =
    l.text.items ≡ l.initial.text.items
    ++ text_of (map (replica_line l.product.replicated (frame_at l.product.voted) l.node.0 l.component)
    (upwards 0 l.at))
