use Rattle.std.proofs.Common.{◌≡◌, ◌++◌, map, take}
use Rattle.pals_model.specs.RoundTexts.{text_of}
use Rattle.round_budget.specs.BudgetText.{slot_line}
use Rattle.round_budget.specs.proof.ReleaseAndLineValues.{line_value}
use Rattle.round_budget.specs.declared.served_steps.TimetableLine.{TimetableLine}
use Rattle.analysis_texts.proofs.processors.add_slots.Given as goal

-- the lines so far
abbrev pub invariant-loop-line : goal.invariant-loop-line
invariant-loop-line l =
    l.text.items ≡ l.fn.text.items
    ++ text_of (map (λ (line : TimetableLine). slot_line l.design (line_value line)) (take l.line-index l.lines))
