use Rattle.std.proofs.Common.{◌∙◌, ◌++◌, ℕ, List, sym, ap, append_assoc}
use Rattle.pals_model.specs.declared.design.DesignParts.{DesignParts}
use Rattle.pals_model.specs.RoundTexts.{row_lines, text_of}
use Rattle.loose_world.specs.proof.FinishedRows.{part_of_round, lines_before}
use Rattle.loose_world.proofs.RowLoops.{rows_more}
use Rattle.loose_world.proofs.row_text.add_each_row.Goals as goal

pub loop-round-preserved : goal.loop-round-preserved
loop-round-preserved c =
    let b = c.args.bus.now in
    let old = c.args.out.now.items in
    let round = c.loop-round.round in
    let so_far = c.loop-round.out.items in
    let row = text_of (row_lines b.run.design (part_of_round b round) round) in
    c.in_ok-add_row.ensures.ok
    ∙ ap (λ (d : DesignParts). so_far ++ text_of (row_lines d (part_of_round b round) round)) c.design-design.ensures
    ∙ ap (λ (xs : List ℕ). xs ++ row) c.loop-round.invariant
    ∙ append_assoc old (text_of (lines_before b round)) row
    ∙ ap (λ (xs : List ℕ). old ++ xs) (sym (rows_more b round))
