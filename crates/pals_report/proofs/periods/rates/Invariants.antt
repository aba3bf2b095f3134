use Rattle.std.proofs.Common.{◌≡◌, map, take}
use Rattle.pals_report.specs.CheckReports.{rate_of}
use Rattle.pals_report.proofs.periods.rates.Given as goal

-- the rates of the components so far
abbrev pub invariant-loop-component : goal.invariant-loop-component
invariant-loop-component l = l.found.items ≡ map rate_of (take l.component-index l.components)
