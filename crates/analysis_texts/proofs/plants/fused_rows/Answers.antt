use Rattle.std.proofs.Common.{rules, ◌≡◌, ◌∙◌, ◌++◌, length, take, drop, sym, ap, arith}
use Rattle.list_lemmas.proofs.ListOperations.{take-written_whole}
use Rattle.pals_model.specs.declared.design.DesignParts.{DesignParts}
use Rattle.pals_model.specs.ComponentInputs.{values_at}
use Rattle.pals_model.proofs.ShapeLaws.{length-values_at}
use Rattle.pals_report.specs.proof.TapPlaces.{tap_places}
use Rattle.analysis_texts.proofs.FusedRows.{rows_begin, rows_next, rows_are}
use Rattle.analysis_texts.proofs.plants.fused_rows.Goals as goal

pub loop-round-init : goal.loop-round-init
loop-round-init c =
    let product = c.args.product.now in
    record {
      rows =
          rows_begin product.design product.pairs c.args.env.now product c.new-text.result.items c.requires.rules
          c.requires.pairs c.requires.opening c.new-text.ensures.items;
      values = search rules;
    }

pub add_fused_row-requires : goal.add_fused_row-requires
add_fused_row-requires c =
    record {
      places = c.requires.places
          ∙ ap (λ (d : DesignParts). tap_places d.taps) (sym c.loop-round.invariant.rows.stands.design_is);
    }

pub loop-round-preserved : goal.loop-round-preserved
loop-round-preserved c =
    let product = c.args.product.now in
    let env = c.args.env.now in
    let round = c.loop-round.round in
    let values = c.loop-round.values in
    let written = c.write_values.new.values in
    let wide : length written ≡ length env.lists = ap length c.write_values.ensures ∙ length-values_at env round in
    let whole : take values.len (written ++ drop (length written) values.items) ≡ written =
    take-written_whole values.len written values.items (omega arith) (wide ∙ sym c.loop-round.invariant.values) in
    let here : c.as_slice.result.now ≡ values_at env round = c.as_slice.ensures.value ∙ whole
    ∙ c.write_values.ensures in
    record {
      rows =
          rows_next product.design product.pairs env round c.as_slice.result.now c.loop-round.product
          c.add_fused_row.new.product c.loop-round.text.items c.add_fused_row.new.text.items
          c.requires.rules c.requires.pairs c.loop-round.invariant.rows here c.in_ok-add_fused_row.ensures.further
          c.in_ok-add_fused_row.ensures.row;
      values = ap length whole ∙ wide;
    }

pub returns : goal.returns
returns c =
    let product = c.args.product.now in
    rows_are product.design product.pairs c.args.env.now c.loop-round.round c.args.rounds c.loop-round.product
    c.loop-round.text.items c.loop-round.invariant.rows (omega arith)
