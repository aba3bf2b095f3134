use Rattle.std.proofs.Common.{◌∙◌, ◌++◌, map, sym, ap}
use Rattle.std.proofs.lemmas.Result.{on_ok_weaker}
use Rattle.pals_model.specs.declared.design.DesignParts.{DesignParts}
use Rattle.pals_model.specs.RoundTexts.{text_of}
use Rattle.triple_vote.specs.VotedComposition.{frame_at}
use Rattle.triple_vote.specs.VotedText.{shown_line}
use Rattle.analysis_texts.proofs.VotedRows.{row_of_parts}
use Rattle.analysis_texts.proofs.replicas.add_row.Goals as goal

pub returns : goal.returns
returns c = λ shown are.
    let product = c.args.product.now in
    let design = c.parts.result.now in
    let same = c.parts.ensures.value ∙ c.design.ensures in
    on_ok_weaker c.add_taps.result
    (λ added.
    row_of_parts product.design product.replicated (frame_at product.voted) shown c.args.round c.args.text.now.items
    c.add_round.new.out.items c.add_components.new.text.items
    c.add_taps.new.text.items c.in_ok-add_round.ensures.ok c.in_ok-add_components.ensures
    (added ∙ ap (λ (d : DesignParts). c.add_components.new.text.items
    ++ text_of (map (shown_line d shown) d.taps)) same))
    (c.add_taps.ensures shown (c.shown.ensures ∙ are ∙ ap (λ (d : DesignParts). map shown d.taps) (sym same)))
