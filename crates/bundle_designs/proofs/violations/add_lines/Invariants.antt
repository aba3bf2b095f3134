use Rattle.std.proofs.Common.{◌≡◌, ◌++◌, map, take}
use Rattle.pals_model.specs.RoundTexts.{text_of}
use Rattle.bundle_designs.specs.ViolationLines.{violation_line}
use Rattle.bundle_designs.proofs.violations.add_lines.Given as goal

-- the lines so far, for positions in one text
abbrev pub invariant-loop-violation : goal.invariant-loop-violation
invariant-loop-violation l = record {
  text : l.cursor.text.now ≡ l.fn.text;
  lines : l.out.items ≡ l.fn.out.items ++ text_of (map (violation_line l.fn.text) (take l.violation-index l.found));
}
