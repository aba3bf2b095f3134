-- Round budgets: when one processor runs the steps of several components, one after the other. All
-- times are nanoseconds.
use Rattle.std.specs.Prelude.{ℕ, ◌+◌, ◌-◌, ◌*◌, max, nat_eq, nat_lt, nat_le, Bool, ◌&&◌, ◌||◌, if◌then◌else◌, List, []}
use Rattle.std.specs.Prelude.{◌∷◌, flat_map, map, Option, Some, None, slice_get}
use Rattle.std.specs.List.{sum_by}
use Rattle.pals_base.specs.declared.period_bound_and_releases.Gamma.{Gamma}
use Rattle.pals_base.specs.PeriodBoundAndReleases.{alarm, step_period}
use Rattle.pals_base.specs.UpwardNumbers.{upwards}
use Rattle.step_code.specs.declared.instr.CodeParts.{CodeParts}
use Rattle.step_code.specs.CappedWeights.{capped}
use Rattle.step_code.specs.SuccessorsAndWeights.{weight_of}
use Rattle.pals_model.specs.declared.design.DesignParts.{DesignParts}
use Rattle.pals_model.specs.PortKindsAndRates.{rate_of}
use Rattle.pals_base.specs.declared.basic_types.NodeNo.{NodeNo}

-- ---- releases
-- a step of a round that a component is to make, and the reading from which on it may be made
pub record Release : Type 0 where
  pub node : ℕ
  pub round : ℕ
  pub step : ℕ
  pub time : ℕ

abbrev pub release_of : DesignParts → ℕ → ℕ → ℕ → Release
release_of design round node step = record {
  node = node;
  round = round;
  step = step;
  time = alarm design.period round + step * step_period design.period (rate_of design node);
}

-- a component's releases of a round
abbrev pub releases_of : DesignParts → ℕ → ℕ → List Release
releases_of design round node = map (release_of design round node) (upwards 0 (rate_of design node))

-- every release of the members of a processor in a round
abbrev pub releases_in : DesignParts → List ℕ → ℕ → List Release
releases_in design members round = flat_map (releases_of design round) members

-- and in the first rounds
abbrev pub releases : DesignParts → List ℕ → ℕ → List Release
releases design members rounds = flat_map (releases_in design members) (upwards 0 rounds)

-- ---- in order of release, then of component
abbrev pub precedes : Release → Release → Bool
precedes x y = nat_lt x.time y.time || (nat_eq x.time y.time && nat_lt x.node y.node)

-- before the first of the others that it does not follow
abbrev pub put : Release → List Release → List Release
put x [] = x ∷ []
put x (y ∷ ys) = if precedes y x then y ∷ put x ys else x ∷ y ∷ ys

abbrev pub in_order : List Release → List Release
in_order [] = []
in_order (x ∷ xs) = put x (in_order xs)

-- ---- served
-- a release, when its step begins, and when it is done
pub record Served : Type 0 where
  pub release : Release
  pub begin : ℕ
  pub done : ℕ

-- the greater of a release and the moment at which the processor is free
abbrev pub begins : ℕ → Release → ℕ
begins free x = max x.time free

abbrev pub served_at : (Release → ℕ) → ℕ → Release → Served
served_at cost free x = record { release = x; begin = begins free x; done = begins free x + cost x }

-- one after the other, from a moment on; each step takes its cost
abbrev pub serve : (Release → ℕ) → ℕ → List Release → List Served
serve cost free [] = []
serve cost free (x ∷ xs) = served_at cost free x ∷ serve cost (begins free x + cost x) xs

-- the steps that a processor serves in the first rounds, where an instruction takes `nanos` and a step
-- makes `count` of them
abbrev pub budget : DesignParts → List ℕ → ℕ → ℕ → (Release → ℕ) → List Served
budget design members rounds nanos count =
    serve (λ x. nanos * count x) 0 (in_order (releases design members rounds))

-- ---- how many instructions
abbrev pub most_in : Option CodeParts → ℕ
most_in None = 0
most_in (Some c) = capped (weight_of c)

-- the maximum number of instructions of a component's code in a step
abbrev pub most_of : List CodeParts → ℕ → ℕ
most_of codes node = most_in (slice_get codes node)

abbrev pub by_most : List CodeParts → Release → ℕ
by_most codes x = most_of codes x.node

-- ---- whether they fit
-- what one step of each member takes at most
abbrev pub total : ℕ → List CodeParts → List ℕ → ℕ
total nanos codes members = nanos * sum_by (most_of codes) members

abbrev pub fits : Gamma → ℕ → Bool
fits g n = nat_le n g.alpha_max

-- ---- the timetable of a round, counted from the round's alarm
pub record Line : Type 0 where
  pub node : ℕ
  pub step : ℕ
  pub begin : ℕ
  pub done : ℕ

abbrev pub line_from : ℕ → Served → Line
line_from start s =
    record { node = s.release.node; step = s.release.step; begin = s.begin - start; done = s.done - start }

abbrev pub timetable : DesignParts → List CodeParts → ℕ → List ℕ → List Line
timetable design codes nanos members =
    map (line_from (alarm design.period 0)) (budget design members 1 nanos (by_most codes))

abbrev pub numbers : List NodeNo → List ℕ
numbers members = map (λ (member : NodeNo). member.0) members
