use Rattle.std.proofs.Common.{rules, ◌≡◌, ◌∙◌, ◌++◌, Bool, List, length, take, drop, All, refl, sym, ap, ap₂, subst}
use Rattle.std.proofs.Common.{arith}
use Rattle.std.specs.Prelude.{slice_index_or}
use Rattle.std.proofs.lemmas.List.{length-map}
use Rattle.list_lemmas.proofs.ListOperations.{take-written_whole}
use Rattle.pals_base.proofs.UpwardNumbers.{get_or-map_upwards}
use Rattle.pals_model.specs.declared.design.DesignParts.{DesignParts}
use Rattle.pals_model.specs.ComponentInputs.{values_at}
use Rattle.pals_model.proofs.ShapeLaws.{length-values_at}
use Rattle.pals_runs.specs.declared.replica_faults.VoteFault.{VoteFault}
use Rattle.triple_vote.specs.proof.VoteLaws.{IsFault}
use Rattle.triple_vote.specs.VotedComposition.{voted_composition, voted_tap_by}
use Rattle.triple_vote.specs.proof.VotedStates.{VotedState, voted_advanced}
use Rattle.triple_vote.specs.VotedText.{voted_report}
use Rattle.analysis_texts.specs.proof.ReplicaNamesAndLines.{all_names}
use Rattle.analysis_texts.proofs.VotedRows.{MakesRound, voted_more}
use Rattle.analysis_texts.proofs.replicas.rows.Goals as goal

pub loop-round-init : goal.loop-round-init
unfolding voted_composition
loop-round-init c = record {
  design = refl;
  replicated = refl;
  voted = λ all are. record { stands = c.requires.opening; rows = c.new-text.ensures.items };
  values = search rules;
}

pub advance-requires : goal.advance-requires
advance-requires c =
    let design = c.args.product.now.design in
    let faults = c.as_slice-in-loop-round.result.now in
    let listed = c.as_slice-in-loop-round.ensures.value ∙ c.index-faults-round.is in
    subst (λ (d : DesignParts). All (IsFault d) faults) (sym c.loop-round.invariant.design)
    (subst (λ (fs : List VoteFault). All (IsFault design) fs) (sym listed)
    (c.requires.faults c.loop-round.round c.index-faults-round.result c.loop-round-test.true))

pub add_row-requires : goal.add_row-requires
add_row-requires c =
    let old = c.loop-round.product in
    let new = c.advance.new.self in
    let values = c.as_slice.result.now in
    let advanced : new ≡ voted_advanced old values c.as_slice-in-loop-round.result.now = c.in_ok-advance.ensures.ok in
    let design = ap (λ (s : VotedState). s.design) advanced ∙ c.loop-round.invariant.design in
    let replicated = ap (λ (s : VotedState). s.replicated) advanced ∙ c.loop-round.invariant.replicated in
    record {
      names =
          c.requires.names ∙ ap₂ (λ (d : DesignParts) (r : List Bool). all_names d.components r) (sym design)
          (sym replicated);
      shown =
          ap (λ (s : VotedState). length s.shown) advanced
          ∙ length-map old.design.taps (voted_tap_by old.design old.replicated values old.voted)
          ∙ ap (λ (s : VotedState). length s.design.taps) (sym advanced);
    }

pub loop-round-preserved : goal.loop-round-preserved
loop-round-preserved c =
    let product = c.args.product.now in
    let design = product.design in
    let replicated = product.replicated in
    let env = c.args.env.now in
    let round = c.loop-round.round in
    let values = c.loop-round.values in
    let written = c.write_values.new.values in
    let old = c.loop-round.product in
    let new = c.advance.new.self in
    let wide : length written ≡ length env.lists = ap length c.write_values.ensures ∙ length-values_at env round in
    let whole : take values.len (written ++ drop (length written) values.items) ≡ written =
    take-written_whole values.len written values.items (omega arith) (wide ∙ sym c.loop-round.invariant.values) in
    let here : c.as_slice.result.now ≡ values_at env round = c.as_slice.ensures.value ∙ whole
    ∙ c.write_values.ensures in
    let advanced : new ≡ voted_advanced old c.as_slice.result.now c.as_slice-in-loop-round.result.now =
    c.in_ok-advance.ensures.ok in
    record {
      design = ap (λ (s : VotedState). s.design) advanced ∙ c.loop-round.invariant.design;
      replicated = ap (λ (s : VotedState). s.replicated) advanced ∙ c.loop-round.invariant.replicated;
      voted = λ all are.
          (let before = c.loop-round.invariant.voted all are in
          let faults : c.as_slice-in-loop-round.result.now ≡ all round
          =
          c.as_slice-in-loop-round.ensures.value ∙ c.index-faults-round.is
          ∙ ap (λ (t : List (List VoteFault)). slice_index_or t round c.index-faults-round.result) are
          ∙ get_or-map_upwards all (length c.args.faults.now) round c.index-faults-round.result
          c.loop-round-test.true in
          let makes : MakesRound design env replicated all round old new
          = record {
            design_is = c.loop-round.invariant.design;
            replicated_is = c.loop-round.invariant.replicated;
            voted_is = before.stands;
            made = advanced ∙ ap₂ (voted_advanced old) here faults;
          } in
          voted_more design env replicated all round old new c.loop-round.text.items c.add_row.new.text.items makes
          before.rows c.in_ok-add_row.ensures);
      values = ap length whole ∙ wide;
    }

pub returns : goal.returns
returns c = λ all are.
    let product = c.args.product.now in
    let done = c.loop-round.invariant.voted all are in
    let count : c.loop-round.round ≡ length c.args.faults.now = omega arith in
    done.rows ∙ ap (voted_report product.design c.args.env.now product.replicated all) count
