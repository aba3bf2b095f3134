-- The verifier's knowledge before each place: the places below are clean, the heights are heights of paths, and the
-- bad entry is the smallest.
use Rattle.std.proofs.Common.{◌≡◌, ◌∙◌, ℕ, ◌<◌, ◌≤◌, Bool, true, List, length, Option, Some, None, sym, ap, subst}
use Rattle.std.proofs.Common.{arith}
use Rattle.std.proofs.lemmas.Bool.Decides.{nat_tests}
use Rattle.std.specs.Option.{option_eq}
use lib.Dec.{eqb}
use Rattle.std.proofs.lemmas.Bool.{or_left}
use Rattle.step_code.specs.declared.instr.CodeParts.{CodeParts}
use Rattle.pals_base.specs.declared.limits.TheConstants.{INSTRUCTIONS}
use Rattle.step_code.specs.proof.VerifierRules.{is_bad_entry, jumps_badly, finds, Rule, BadJump, rank, Finds}
use Rattle.step_code.specs.proof.VerifierRules.{IsCleanBelow, IsFirst}
use Rattle.step_code.specs.proof.VerifierIntermediateResults.{IsLeast, AreHeights}

abbrev pub StandsFrom : ℕ → Option ℕ → Type 0
StandsFrom at None = Unit {0}
StandsFrom at (Some e) = at ≤ e

-- the rules find nothing below a place, and no bad entry is there
pub record Looked (c : CodeParts) (at : ℕ) (heights : List (Option ℕ)) (entry : Option ℕ) : Type 0 where
  pub clean : IsCleanBelow c at
  pub heights' : AreHeights c.instrs c.entries at heights
  pub least : IsLeast (is_bad_entry c.instrs c.entries) entry
  pub stands : StandsFrom at entry

none_sooner : (c : CodeParts) (p : ℕ) (r : Rule) → rank r < 0 → ¬ Finds c r p
none_sooner c p r less = absurd (omega arith)

-- a bad entry is found first
bad_first : (c : CodeParts) (e : ℕ) → length c.instrs ≤ INSTRUCTIONS → IsCleanBelow c e
    → is_bad_entry c.instrs c.entries e ≡ true → IsFirst c BadJump e
bad_first c e short clean bad = record {
  short = short;
  here = or_left (is_bad_entry c.instrs c.entries e) (finds c (jumps_badly c.instrs e) e) bad;
  earlier_places = clean;
  earlier_rules = λ r less. none_sooner c e r less;
}

pub found_here : (c : CodeParts) (at : ℕ) (heights : List (Option ℕ)) (entry : Option ℕ)
    → length c.instrs ≤ INSTRUCTIONS → Looked c at heights entry → entry ≡ Some at → IsFirst c BadJump at
found_here c at heights entry short looked is =
    bad_first c at short looked.clean (subst (IsLeast (is_bad_entry c.instrs c.entries)) is looked.least).0

-- ---- an entry compared with a place
eq_at : (o : Option ℕ) (at : ℕ) → option_eq eqb o (Some at) ≡ true → o ≡ Some at
eq_at None at is = cc
eq_at (Some e) at is = let same : e ≡ at = grind (arith, nat_tests) in ap Some same

pub eq_is : (o : Option ℕ) (at : ℕ) (b : Bool) → b ≡ option_eq eqb o (Some at) → b ≡ true → o ≡ Some at
eq_is o at b is held = eq_at o at (sym is ∙ held)
