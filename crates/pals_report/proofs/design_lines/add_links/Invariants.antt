use Rattle.std.proofs.Common.{◌≡◌, ◌++◌, map, take}
use Rattle.pals_model.specs.RoundTexts.{text_of}
use Rattle.pals_report.specs.CheckReports.{link_line}
use Rattle.pals_report.proofs.design_lines.add_links.Given as goal

-- the lines so far
abbrev pub invariant-loop-link : goal.invariant-loop-link
invariant-loop-link l = l.out.items ≡ l.fn.out.items ++ text_of (map (link_line l.design) (take l.link-index l.links))
