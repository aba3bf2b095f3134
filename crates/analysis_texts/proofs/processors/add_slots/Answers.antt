use Rattle.std.proofs.Common.{◌++◌, ap, ◌∙◌, sym, arith}
use Rattle.std.specs.Prelude.{slice_index_or}
use Rattle.std.proofs.lemmas.List.{get_or_default}
use Rattle.std.proofs.lemmas.Simd.{map-map}
use Rattle.pals_model.specs.RoundTexts.{line_end, text_of}
use Rattle.pals_report.proofs.LinePerItem.{lines_turn, lines_all}
use Rattle.round_budget.specs.BudgetText.{slot_line}
use Rattle.round_budget.specs.proof.ReleaseAndLineValues.{line_value}
use Rattle.round_budget.specs.declared.served_steps.TimetableLine.{TimetableLine}
use Rattle.analysis_texts.proofs.processors.add_slots.Goals as goal

pub loop-line-preserved : goal.loop-line-preserved
loop-line-preserved c =
    let slot = λ (line : TimetableLine). slot_line c.args.design.now (line_value line) in
    let none : TimetableLine = record { node = record { 0 = 0 }; step = 0; begin = 0; done = 0 } in
    let lines = c.args.lines.now in
    let at = c.loop-line.line-index in
    let item : TimetableLine = slice_index_or lines at none in
    lines_turn line_end slot lines at item _ _ _ c.loop-line-test.true
    (get_or_default lines at none item c.loop-line-test.true) c.loop-line.invariant c.in_ok-add_slot.ensures

pub returns : goal.returns
returns c =
    let slot = λ (line : TimetableLine). slot_line c.args.design.now (line_value line) in
    lines_all line_end slot c.args.lines.now c.loop-line.line-index _ _ (omega arith) c.loop-line.invariant
    ∙ ap (λ lines. c.args.text.now.items ++ text_of lines)
    (sym (map-map (slot_line c.args.design.now) line_value c.args.lines.now))
