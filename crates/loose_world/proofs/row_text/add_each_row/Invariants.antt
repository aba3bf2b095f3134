use Rattle.std.proofs.Common.{◌≡◌, ◌++◌}
use Rattle.pals_model.specs.RoundTexts.{text_of}
use Rattle.loose_world.specs.proof.FinishedRows.{lines_before}
use Rattle.loose_world.proofs.row_text.add_each_row.Given as goal

-- the rows of the first rounds are there
abbrev pub invariant-loop-round : goal.invariant-loop-round
invariant-loop-round l = l.out.items ≡ l.fn.out.items ++ text_of (lines_before l.bus l.round)
