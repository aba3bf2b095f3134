-- The results of the verifier's functions: heights, clashes between them, and the smallest bad entry.
use Rattle.std.specs.Prelude.{◌≡◌, ◌≢◌, ℕ, ◌<◌, ◌≤◌, nat_eq, Bool, true, false, ◌&&◌, ◌||◌, List, length, Option, Some}
use Rattle.std.specs.Prelude.{None, Result, Ok, Err, slice_get}
use Rattle.step_code.specs.declared.instr.Instr.{Instr}
use Rattle.step_code.specs.declared.fault.CodeFault.{CodeFault}
use Rattle.step_code.specs.SuccessorsAndWeights.{forward_successors}
use Rattle.step_code.specs.proof.StackHeights.{takes, after, Member, Given, all_successors}
use Rattle.step_code.specs.proof.VerifierRules.{enters_badly}
use Rattle.step_code.specs.declared.fault.CodeFault.TheVariants as fault

-- the smallest number at which a test holds
abbrev pub IsLeast : (ℕ → Bool) → Option ℕ → Type 0
IsLeast test None = (q : ℕ) → test q ≡ false
IsLeast test (Some e) = (test e ≡ true) × ((q : ℕ) → q < e → test q ≡ false)

-- a test that holds for one more number if it is bad
abbrev pub or_bad : List Instr → (ℕ → Bool) → ℕ → ℕ → Bool
or_bad code test entry q = test q || (nat_eq q entry && enters_badly code q)

-- ---- heights
abbrev pub Holds : List (Option ℕ) → ℕ → ℕ → Type 0
Holds heights p h = slice_get heights p ≡ Some (Some h)

-- these are the heights that entries and instructions below a place give
pub record AreHeights (code : List Instr) (entries : List (Option ℕ)) (below : ℕ)
    (heights : List (Option ℕ)) : Type 0 where
  pub count : length heights ≡ length code
  pub given : (p h : ℕ) → p < length code → Holds heights p h → Given code entries below p h
  pub held : (p h : ℕ) → p < length code → Given code entries below p h → Holds heights p h

-- one of these places has another height
pub record Clashes (heights : List (Option ℕ)) (places : List ℕ) (h : ℕ) : Type 0 where
  pub place : ℕ
  pub among : Member places place
  pub other : ℕ
  pub held : Holds heights place other
  pub differs : other ≢ h

-- these are places below a number
pub record AreThere (places : List ℕ) (n : ℕ) : Type 0 where
  pub each : (p : ℕ) → Member places p → p < n

-- these places have the height from now on, and all others stay
pub record AreSet (old new : List (Option ℕ)) (places : List ℕ) (h : ℕ) : Type 0 where
  pub given : (p : ℕ) → Member places p → Holds new p h
  pub kept : (p : ℕ) → ¬ Member places p → slice_get new p ≡ slice_get old p
  pub count : length new ≡ length old

-- an instruction finds its operands, no place to which it leads has another height, and each later one has this one
-- from now on
pub record PassesOn (old new : List (Option ℕ)) (p : ℕ) (i : Instr) (h : ℕ) : Type 0 where
  pub enough : takes i ≤ h
  pub same : ¬ Clashes old (all_successors p i) (after h i)
  pub sets : AreSet old new (forward_successors p (Some i)) (after h i)

-- an instruction finds its operands, and a place to which it leads has another height
pub record Disagrees (heights : List (Option ℕ)) (p : ℕ) (i : Instr) (h : ℕ) : Type 0 where
  pub enough : takes i ≤ h
  pub clash : Clashes heights (all_successors p i) (after h i)

abbrev pub Passed : List (Option ℕ) → List (Option ℕ) → ℕ → Instr → ℕ → Result (Unit {0}) CodeFault → Type 0
Passed old new p i h (Ok done) = PassesOn old new p i h
Passed old new p i h (Err (fault.Underflow q)) = (q ≡ p) × (h < takes i)
Passed old new p i h (Err (fault.HeightsDiffer q)) = (q ≡ p) × Disagrees old p i h
Passed old new p i h (Err other) = ⊥
