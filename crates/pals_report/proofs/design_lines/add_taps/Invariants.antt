use Rattle.std.proofs.Common.{◌≡◌, ◌++◌, map, take}
use Rattle.pals_model.specs.RoundTexts.{text_of}
use Rattle.pals_report.specs.CheckReports.{tap_line}
use Rattle.pals_report.proofs.design_lines.add_taps.Given as goal

-- the lines so far
abbrev pub invariant-loop-tap : goal.invariant-loop-tap
invariant-loop-tap l = l.out.items ≡ l.fn.out.items ++ text_of (map (tap_line l.design) (take l.tap-index l.taps))
