use Rattle.std.proofs.Common.{◌≡◌, ◌++◌, map, take}
use Rattle.pals_model.specs.RoundTexts.{text_of}
use Rattle.pals_report.specs.CheckReports.{ignored_line}
use Rattle.pals_report.proofs.design_lines.add_ignored_name_lines.Given as goal

-- the lines so far
abbrev pub invariant-loop-name : goal.invariant-loop-name
invariant-loop-name l = l.out.items ≡ l.fn.out.items ++ text_of (map ignored_line (take l.name-index l.names))
