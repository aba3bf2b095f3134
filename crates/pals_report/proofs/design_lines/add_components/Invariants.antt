use Rattle.std.proofs.Common.{◌≡◌, ◌++◌, map, take}
use Rattle.pals_model.specs.RoundTexts.{text_of}
use Rattle.pals_report.specs.CheckReports.{component_line}
use Rattle.pals_report.proofs.design_lines.add_components.Given as goal

-- the lines so far
abbrev pub invariant-loop-component : goal.invariant-loop-component
invariant-loop-component l =
    l.out.items ≡ l.fn.out.items ++ text_of (map component_line (take l.component-index l.components))
