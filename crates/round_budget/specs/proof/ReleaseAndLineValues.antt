-- The releases and timetable lines of the code as values of the definitions.
use Rattle.std.specs.Prelude.{◌≡◌, ℕ, ◌*◌, List, map}
use Rattle.step_code.specs.declared.instr.CodeParts.{CodeParts}
use Rattle.round_budget.specs.Budgets.{serve, by_most, line_from}
use Rattle.round_budget.specs.declared.releases.Release.{Release}
use Rattle.round_budget.specs.declared.served_steps.TimetableLine.{TimetableLine}
use Rattle.round_budget.specs.Budgets as budgets

-- a release of the first round
abbrev pub release_value : Release → budgets.Release
release_value release = record { node = release.node.0; round = 0; step = release.step; time = release.time }

abbrev pub AreReleases : List Release → List budgets.Release → Type 0
AreReleases made all = map release_value made ≡ all

abbrev pub line_value : TimetableLine → budgets.Line
line_value line = record { node = line.node.0; step = line.step; begin = line.begin; done = line.done }

abbrev pub AreLines : List TimetableLine → List budgets.Line → Type 0
AreLines made all = map line_value made ≡ all

-- the lines of releases that are served one after the other, counted from a start
abbrev pub served_lines : List CodeParts → ℕ → ℕ → List Release → List budgets.Line
served_lines codes nanos start releases =
    map (line_from start) (serve (λ x. nanos * by_most codes x) 0 (map release_value releases))
