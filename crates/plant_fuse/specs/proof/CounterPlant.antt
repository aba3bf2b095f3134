-- The two counters, the first as the plant of the second.
use Rattle.std.specs.Prelude.{◌≡◌, ℕ, ℤ, pos, List, [], ◌∷◌, map, take}
use Rattle.pals_base.specs.declared.basic_types.PortValue.{PortValue}
use Rattle.pals_base.specs.declared.basic_types.PortValue.TheVariants.{Absent, Present}
use Rattle.pals_base.specs.declared.frames.Frame.{Frame}
use Rattle.pals_model.specs.Composition.{Configuration}
use Rattle.pals_model.specs.proof.TwoCounters.{two_counters}
use Rattle.pals_model.specs.ComponentInputs.{no_env}
use Rattle.pals_runs.specs.declared.plant_pairs.Pair.{Pair}
use Rattle.plant_fuse.specs.FusedComposition.{ArePairs, Inputs, IsFused}
use Rattle.plant_fuse.specs.proof.SolutionConfiguration.{fused}

abbrev pub one_pair : List Pair
one_pair = record { plant = record { 0 = 0 }; controller = record { 0 = 1 } } ∷ []

abbrev number : ℕ → List PortValue
number n = Present (pos n) ∷ []

-- what the plant reads in three rounds, and what the controller reads
abbrev pub three_rounds : Inputs
three_rounds =
    ((Absent ∷ []) ∷ number 2 ∷ number 7 ∷ [])
    ∷ (number 1 ∷ number 4 ∷ number 12 ∷ [])
    ∷ []

-- what they have after some of these
abbrev variables : Configuration → List (List ℤ)
variables at = map (λ (frame : Frame). frame.vars) at.frames

abbrev pub CountersArePairs : Type 0
CountersArePairs = ArePairs two_counters one_pair

abbrev pub CountersFuse : Type 0
CountersFuse = IsFused two_counters one_pair no_env 3 three_rounds

abbrev first : ℕ → Inputs
first n = map (take n) three_rounds

abbrev pub FusedCountersCount : Type 0
FusedCountersCount =
    (variables (fused two_counters one_pair 1 (first 1)) ≡ (pos 1 ∷ []) ∷ (pos 2 ∷ []) ∷ [])
    × (variables (fused two_counters one_pair 2 (first 2)) ≡ (pos 4 ∷ []) ∷ (pos 7 ∷ []) ∷ [])
    × (variables (fused two_counters one_pair 3 (first 3)) ≡ (pos 12 ∷ []) ∷ (pos 20 ∷ []) ∷ [])
