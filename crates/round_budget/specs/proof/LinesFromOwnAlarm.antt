-- The timetable line of a step that is served, counted from the alarm of its own round.
use Rattle.pals_base.specs.PeriodBoundAndReleases.{alarm}
use Rattle.pals_model.specs.declared.design.DesignParts.{DesignParts}
use Rattle.round_budget.specs.Budgets.{Served, Line, line_from}

-- counted from the alarm of its own round
abbrev pub line_in_round : DesignParts → Served → Line
line_in_round design s = line_from (alarm design.period s.release.round) s
