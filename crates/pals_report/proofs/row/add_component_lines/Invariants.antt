use Rattle.std.proofs.Common.{◌≡◌, ◌++◌, drop}
use Rattle.pals_model.specs.RoundTexts.{text_of}
use Rattle.pals_report.specs.proof.TextPrefixes.{BeginsWith}
use Rattle.pals_report.specs.proof.RowLines.{component_lines_from}
use Rattle.pals_report.proofs.row.add_component_lines.Given as goal

-- the lines so far, and the lines of the remaining components
abbrev pub invariant-loop-node : goal.invariant-loop-node
invariant-loop-node g l = record {
  begun : BeginsWith l.out.items l.fn.out.items;
  rest : l.out.items ++ text_of (component_lines_from (g.P.RoundParts.part_of l.parts) l.node
      (drop l.node l.components))
      ≡ l.fn.out.items ++ text_of (component_lines_from (g.P.RoundParts.part_of l.parts) 0 l.components);
}
