use Rattle.std.proofs.Common.{◌≡◌, ◌++◌, drop}
use Rattle.pals_model.specs.RoundTexts.{text_of}
use Rattle.pals_report.specs.proof.TextPrefixes.{BeginsWith}
use Rattle.pals_report.specs.proof.RowLines.{tap_lines_from}
use Rattle.pals_report.proofs.row.add_tap_lines.Given as goal

-- the lines so far, and the lines of the remaining taps
abbrev pub invariant-loop-number : goal.invariant-loop-number
invariant-loop-number g l = record {
  begun : BeginsWith l.out.items l.fn.out.items;
  rest : l.out.items ++ text_of
      (tap_lines_from l.design (g.P.RoundParts.part_of l.parts) l.number (drop l.number l.design.taps))
      ≡ l.fn.out.items ++ text_of (tap_lines_from l.design (g.P.RoundParts.part_of l.parts) 0 l.design.taps);
}
