use Rattle.std.proofs.Common.{◌≡◌, true}
use Rattle.pals_model.specs.declared.design.Tap.{Tap}
use Rattle.triple_vote.specs.VotedComposition.{is_replicated}
use Rattle.triple_vote.specs.proof.ReplicaLayers.{lengths, tap_sizes}
use Rattle.triple_vote.specs.proof.ThreeLayers.{shown_in, shown_of}
use Rattle.triple_vote.proofs.SelectiveListWrites.{Filled}
use Rattle.triple_vote.proofs.tap_tuples.show_each.Given as goal

-- what the first root out ports show is written
abbrev pub invariant-loop-number : goal.invariant-loop-number
invariant-loop-number l = record {
  sizes : lengths l.shown ≡ tap_sizes l.design;
  done : Filled l.design.taps (λ (tap : Tap). true)
      (λ number (tap : Tap). shown_of (is_replicated l.replicated tap.source.0) (shown_in l.layers) number)
      l.shown l.number;
}
