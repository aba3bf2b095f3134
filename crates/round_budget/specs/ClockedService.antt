-- A processor that goes by clocks: it begins a step once the clock of the step's component has reached the step's
-- release and the steps before it are done. Times are nanoseconds of the world.
use Rattle.std.specs.Prelude.{ℕ, ◌+◌, ◌-◌, ◌*◌, ◌<◌, ◌≤◌, min, max, List, [], ◌∷◌, All}
use Rattle.pals_base.specs.declared.period_bound_and_releases.Gamma.{Gamma}
use Rattle.pals_model.specs.declared.design.DesignParts.{DesignParts}
use Rattle.round_budget.specs.Budgets.{Release, Served, in_order, releases}

-- ---- clocks
-- the time at which the clock of each release's component reaches the release
abbrev pub ReachTimes : Type 0
ReachTimes = Release → ℕ

-- less than the skew before or after
pub record IsReachedInTime (g : Gamma) (reached : ReachTimes) (x : Release) : Type 0 where
  pub slow : reached x < x.time + g.eps
  pub fast : x.time < reached x + g.eps

-- ---- service
-- the later of the time at which the clock reaches the release and the time at which the processor is free
abbrev pub begins_by : ReachTimes → ℕ → Release → ℕ
begins_by reached free x = max (reached x) free

-- one after the other, from a time on; each step takes its cost
abbrev pub serve_by : (Release → ℕ) → ReachTimes → ℕ → List Release → List Served
serve_by cost reached free [] = []
serve_by cost reached free (x ∷ xs) =
    record { release = x; begin = begins_by reached free x; done = begins_by reached free x + cost x }
    ∷ serve_by cost reached (begins_by reached free x + cost x) xs

-- the steps of the first rounds in the order of the timetable, where an instruction takes `nanos` and a step executes
-- `count` of them
abbrev pub budget_by : DesignParts → List ℕ → ℕ → ℕ → ReachTimes → (Release → ℕ) → List Served
budget_by design members rounds nanos reached count =
    serve_by (λ x. nanos * count x) reached 0 (in_order (releases design members rounds))

-- ---- places in a world
-- the time of the step's start in a world: when the processor begins it, or the last time that the bounds allow, if the
-- step waits longer for the processor
abbrev pub start_time : Gamma → Served → ℕ
start_time g s = min s.begin (s.release.time + g.eps - 1)

-- the start is due and in time, no later than the processor begins the step, and the finish is in time after it
pub record KeepsBounds (g : Gamma) (reached : ReachTimes) (s : Served) : Type 0 where
  pub due : reached s.release ≤ start_time g s
  pub prompt : start_time g s < s.release.time + g.eps
  pub before : start_time g s ≤ s.begin
  pub finish : s.done ≤ start_time g s + g.alpha_max

-- each step is done before its release plus the skew and the longest execution, and its start and its finish have times
-- within the bounds of a world
pub record AreInTimeByClock (g : Gamma) (reached : ReachTimes) (served : List Served) : Type 0 where
  pub delayed : All (λ s. s.done < s.release.time + g.eps + g.alpha_max) served
  pub kept : All (KeepsBounds g reached) served
