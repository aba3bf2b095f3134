-- What contracts see of the rounds is what *votes* has.
use Rattle.std.proofs.Common.{◌∙◌, zero, suc, map, refl, ap, ap₂}
use Rattle.pals_model.specs.declared.design.DesignParts.{DesignParts}
use Rattle.pals_model.specs.ComponentInputs.{values_at}
use Rattle.triple_vote.specs.VotedComposition.{VotedConfiguration, next_voted, voted_composition, voted_tap_by}
use Rattle.triple_vote.specs.VotedComposition.{voted_tap}
use Rattle.triple_vote.specs.proof.VotedStates.{VotedState, voted_state_after}
use Rattle.triple_vote.specs.proof.VoteLaws.{StandsAtVotes, ShowsVotes}

pub stands_at_votes : StandsAtVotes
unfolding voted_composition
stands_at_votes design env replicated faults zero = record { design_is = refl; replicated_is = refl; voted_is = refl }
stands_at_votes design env replicated faults (suc round) =
    let before = stands_at_votes design env replicated faults round in
    let values = values_at env round in
    record {
      design_is = before.design_is;
      replicated_is = before.replicated_is;
      voted_is =
          ap₂ (λ d r. next_voted d r values (faults round) (voted_state_after design env replicated faults round).voted)
          before.design_is before.replicated_is
          ∙ ap (next_voted design replicated values (faults round)) before.voted_is;
    }

pub shows_votes : ShowsVotes
unfolding voted_tap
shows_votes design env replicated faults round =
    let before = stands_at_votes design env replicated faults round in
    let values = values_at env round in
    let state : VotedState = voted_state_after design env replicated faults round in
    ap₂ (λ (d : DesignParts) r. map (voted_tap_by d r values state.voted) d.taps) before.design_is before.replicated_is
    ∙ ap (λ (v : VotedConfiguration). map (voted_tap_by design replicated values v) design.taps) before.voted_is
