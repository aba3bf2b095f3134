use Rattle.std.proofs.Common.{rules, refl, ◌≡◌, ◌+◌, ◌++◌, length, take, drop, sym, ap, ◌∙◌, arith}
use Rattle.list_lemmas.proofs.ListOperations.{take-written_whole}
use Rattle.pals_model.specs.declared.design.DesignParts.{DesignParts}
use Rattle.pals_model.specs.Composition.{comp}
use Rattle.pals_model.specs.ComponentInputs.{values_at}
use Rattle.pals_model.specs.RoundTexts.{row, report}
use Rattle.pals_model.proofs.ShapeLaws.{length-values_at}
use Rattle.pals_report.specs.proof.TapPlaces.{tap_places}
use Rattle.analysis_texts.proofs.ProductRoundsAndRows.{report_more}
use Rattle.analysis_texts.proofs.sync.rows.Goals as goal

pub loop-round-init : goal.loop-round-init
loop-round-init c = record {
  design = refl;
  stands = c.requires.opening;
  rows = search rules;
  values = search rules;
}

pub add_round-requires : goal.add_round-requires
add_round-requires c =
    record {
      places = c.requires.places
          ∙ ap (λ (d : DesignParts). tap_places d.taps) (sym c.loop-round.invariant.design);
    }

pub loop-round-preserved : goal.loop-round-preserved
loop-round-preserved c =
    let design = c.args.product.now.design in
    let env = c.args.env.now in
    let round = c.loop-round.round in
    let values = c.loop-round.values in
    let written = c.write_values.new.values in
    let wide : length written ≡ length env.lists = ap length c.write_values.ensures ∙ length-values_at env round in
    let whole : take values.len (written ++ drop (length written) values.items) ≡ written =
    take-written_whole values.len written values.items (omega arith) (wide ∙ sym c.loop-round.invariant.values) in
    let here : c.as_slice.result.now ≡ values_at env round = c.as_slice.ensures.value ∙ whole
    ∙ c.write_values.ensures in
    let same = c.loop-round.invariant.design in
    let stands = c.loop-round.invariant.stands ∙ ap (λ d. comp d env round) (sym same) in
    record {
      design = c.in_ok-add_round.ensures.design ∙ same;
      stands = c.in_ok-add_round.ensures.further env here stands ∙ ap (λ d. comp d env (round + 1)) same;
      rows = c.in_ok-add_round.ensures.row env here stands ∙ ap (λ d. c.loop-round.text.items ++ row d env round) same
          ∙ report_more design env round c.loop-round.text.items c.loop-round.invariant.rows;
      values = ap length whole ∙ wide;
    }

pub returns : goal.returns
returns c =
    let all : c.loop-round.round ≡ c.args.rounds = omega arith in
    c.loop-round.invariant.rows ∙ ap (λ n. report c.args.product.now.design c.args.env.now n) all
