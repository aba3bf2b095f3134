use Rattle.std.proofs.Common.{◌≡◌}
use Rattle.std.specs.Prelude.{slice_get}
use Rattle.pals_model.specs.declared.design.Tap.{Tap}
use Rattle.triple_vote.specs.proof.ReplicaLayers.{lengths, tap_sizes, has_replica, whole_from}
use Rattle.triple_vote.proofs.SelectiveListWrites.{Filled}
use Rattle.triple_vote.proofs.layer_rounds.show_all.Given as goal

-- the first tuples are written
abbrev pub invariant-loop-number : goal.invariant-loop-number
invariant-loop-number l = record {
  sizes : lengths l.shown ≡ tap_sizes l.design;
  done : Filled l.design.taps (λ (tap : Tap). has_replica l.there tap.source.0)
      (λ number (tap : Tap). whole_from (slice_get l.stages tap.source.0) tap.out_port) l.shown l.number;
}
