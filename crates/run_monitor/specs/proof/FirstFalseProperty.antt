-- The claim that the last line names the first round at which a property is false and the first property false there,
-- or that all hold.
use Rattle.std.specs.Prelude.{◌≡◌, ℕ, ◌<◌, true, false, List, Some, None, slice_get}
use Rattle.pals_model.specs.declared.design.DesignParts.{DesignParts}
use Rattle.pals_model.specs.declared.environment.Env.{Env}
use Rattle.pals_runs.specs.Formula.{Formula}
use Rattle.run_monitor.specs.declared.false_property.FalseProperty.{FalseProperty}
use Rattle.run_monitor.specs.FormulaSemantics.{holds, frame_rows}
use Rattle.run_monitor.specs.FalseProperties.{first_false, is_some_false}

-- all formulas hold at a round
abbrev pub AllHold : DesignParts → Env → ℕ → List Formula → ℕ → Type 0
AllHold design env rounds fs round =
    (k : ℕ) (f : Formula) → slice_get fs k ≡ Some f → holds f (frame_rows design env rounds) round ≡ true

-- this is the first round at which a property is false, and the first property false there
pub record IsFirst (design : DesignParts) (env : Env) (rounds : ℕ) (fs : List Formula) (v : FalseProperty)
    (f : Formula) : Type 0 where
  pub within : v.round < rounds
  pub is : slice_get fs v.property ≡ Some f
  pub false_there : holds f (frame_rows design env rounds) v.round ≡ false
  pub before : (r : ℕ) → r < v.round → AllHold design env rounds fs r
  pub first : (j : ℕ) (g : Formula) → j < v.property → slice_get fs j ≡ Some g
      → holds g (frame_rows design env rounds) v.round ≡ true

abbrev pub ViolatedIsFirst : Type 0
ViolatedIsFirst =
    (design : DesignParts) (env : Env) (rounds : ℕ) (fs : List Formula) → is_some_false design env rounds fs ≡ true
    → (v : FalseProperty) × (f : Formula) × IsFirst design env rounds fs v f
    × (first_false fs (frame_rows design env rounds) rounds ≡ Some v)

-- if there is no such round, all hold throughout
abbrev pub OthersHold : Type 0
OthersHold =
    (design : DesignParts) (env : Env) (rounds : ℕ) (fs : List Formula) → is_some_false design env rounds fs ≡ false
    → ((round : ℕ) → round < rounds → AllHold design env rounds fs round)
    × (first_false fs (frame_rows design env rounds) rounds ≡ None)
