use Rattle.std.proofs.Common.{◌≡◌, ◌++◌, drop}
use Rattle.pals_model.specs.RoundTexts.{text_of}
use Rattle.triple_vote.specs.VotedComposition.{frame_at}
use Rattle.analysis_texts.specs.proof.ReplicaNamesAndLines.{all_lines}
use Rattle.analysis_texts.proofs.replicas.add_components.Given as goal

-- the lines so far, and the lines of the remaining components
abbrev pub invariant-loop-node : goal.invariant-loop-node
invariant-loop-node l =
    l.text.items ++ text_of (all_lines l.product.replicated (frame_at l.product.voted) l.node
    (drop l.node l.product.design.components))
    ≡ l.initial.text.items ++ text_of
    (all_lines l.product.replicated (frame_at l.product.voted) 0 l.product.design.components)
