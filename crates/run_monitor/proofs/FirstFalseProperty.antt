-- The first violation is at the first round at which a formula is false, and names the first formula false there.
use Rattle.std.proofs.Common.{◌≡◌, ◌∙◌, ◌⊎◌, inl, inr, ℕ, zero, suc, ◌+◌, ◌<◌, ◌≤◌, Bool, true, false, not, List, []}
use Rattle.std.proofs.Common.{◌∷◌, map, Option, Some, None, slice_get, position, refl, sym, ap, subst, arith}
use Rattle.std.proofs.Common.{eq-or-lt_of_le, true≢false, zero-add}
use Rattle.std.specs.List.{list_any, position_from}
use Rattle.std.specs.Option.{option_map, option_or}
use Rattle.std.proofs.lemmas.Bool.{or_from, or_left, or_right, false≢true}
use Rattle.std.proofs.lemmas.Iterator.Adapters.{position_from-zero}
use Rattle.list_lemmas.proofs.ElementPositions.{slice_get-map_some}
use Rattle.pals_base.specs.declared.frames.Frame.{Frame}
use Rattle.pals_base.specs.UpwardNumbers.{upwards}
use Rattle.pals_runs.specs.Formula.{Formula}
use Rattle.run_monitor.specs.declared.false_property.FalseProperty.{FalseProperty}
use Rattle.run_monitor.specs.FormulaSemantics.{holds, frame_rows}
use Rattle.run_monitor.specs.FalseProperties.{formula_values, first_false_at, first_false_in}
use Rattle.run_monitor.specs.proof.FirstFalseProperty.{ViolatedIsFirst, OthersHold}

-- ---- the place of the first that is false
-- none is, or one at this place, with all before it true
record AllTrue (from : ℕ) (bs : List Bool) : Type 0 where
  each : (k : ℕ) (b : Bool) → slice_get bs k ≡ Some b → b ≡ true
  none : position_from not from bs ≡ None
  not_any : list_any not bs ≡ false

record OneFalse (from : ℕ) (bs : List Bool) : Type 0 where
  at : ℕ
  is : slice_get bs at ≡ Some false
  before : (j : ℕ) (b : Bool) → j < at → slice_get bs j ≡ Some b → b ≡ true
  finds : position_from not from bs ≡ Some (from + at)
  any : list_any not bs ≡ true

find_false : (from : ℕ) (bs : List Bool) → AllTrue from bs ⊎ OneFalse from bs
find_false from [] = inl (record { each = λ k b is. absurd (cc); none = refl; not_any = refl })
find_false from (false ∷ bs) = inr (record {
  at = 0;
  is = refl;
  before = λ j b below is. absurd (omega arith);
  finds = ap Some (omega arith);
  any = refl;
})
find_false from (true ∷ bs) =
    elim (find_false (from + 1) bs) [
      | inl rest ↦ inl (record { each = true_and bs rest.each; none = rest.none; not_any = rest.not_any })
      | inr rest ↦ inr (record {
        at = suc rest.at;
        is = rest.is;
        before = true_before bs rest.at rest.before;
        finds = rest.finds ∙ ap Some (omega arith);
        any = rest.any;
      })
    ]
  where
    true_and : (bs : List Bool) → ((k : ℕ) (b : Bool) → slice_get bs k ≡ Some b → b ≡ true) → (k : ℕ) (b : Bool)
        → slice_get (true ∷ bs) k ≡ Some b → b ≡ true
    true_and bs each zero b is = cc
    true_and bs each (suc k) b is = each k b is

    true_before : (bs : List Bool) (at : ℕ) → ((j : ℕ) (b : Bool) → j < at → slice_get bs j ≡ Some b → b ≡ true)
        → (j : ℕ) (b : Bool) → j < suc at
        → slice_get (true ∷ bs) j ≡ Some b → b ≡ true
    true_before bs at before zero b below is = cc
    true_before bs at before (suc j) b below is = before j b (omega arith) is

position-is : (bs : List Bool) → position not bs ≡ position_from not 0 bs
position-is bs = position_from-zero not bs

-- the formula of a verdict
said_of : (test : Formula → Bool) (fs : List Formula) (k : ℕ) (b : Bool) → slice_get (map test fs) k ≡ Some b
    → (f : Formula) × (slice_get fs k ≡ Some f) × (test f ≡ b)
said_of test [] k b is = absurd (cc)
said_of test (f ∷ fs) zero b is = (f, refl, cc)
said_of test (f ∷ fs) (suc k) b is = said_of test fs k b is

-- ---- the first round
module _ (fs : List Formula) (h : List (List Frame)) where
  abbrev violated_at : ℕ → Bool
  violated_at round = list_any not (formula_values fs h round)

  abbrev Holds : ℕ → Type 0
  Holds round = (k : ℕ) (f : Formula) → slice_get fs k ≡ Some f → holds f h round ≡ true

  abbrev says : ℕ → Formula → Bool
  says round f = holds f h round

  record NoRound (from count : ℕ) : Type 0 where
    all : (round : ℕ) → from ≤ round → round < from + count → Holds round
    none : first_false_in fs h (upwards from count) ≡ None
    not_any : list_any violated_at (upwards from count) ≡ false

  record SomeRound (from count : ℕ) : Type 0 where
    v : FalseProperty
    f : Formula
    low : from ≤ v.round
    high : v.round < from + count
    is : slice_get fs v.property ≡ Some f
    false_there : holds f h v.round ≡ false
    before : (r : ℕ) → from ≤ r → r < v.round → Holds r
    first : (j : ℕ) (g : Formula) → j < v.property → slice_get fs j ≡ Some g → holds g h v.round ≡ true
    finds : first_false_in fs h (upwards from count) ≡ Some v
    any : list_any violated_at (upwards from count) ≡ true

  all_hold : (round : ℕ) → AllTrue 0 (formula_values fs h round) → Holds round
  all_hold round none k f is = none.each k (holds f h round) (slice_get-map_some (says round) fs k f is)

  no_violation : (round : ℕ) → AllTrue 0 (formula_values fs h round) → first_false_at fs h round ≡ None
  no_violation round none =
      ap (option_map (λ k. record { property = k; round = round }))
      (position-is (formula_values fs h round) ∙ none.none)

  a_violation : (round : ℕ) (found : OneFalse 0 (formula_values fs h round))
      → first_false_at fs h round ≡ Some (record { property = found.at; round = round })
  a_violation round found =
      ap (option_map (λ k. record { property = k; round = round }))
      (position-is (formula_values fs h round) ∙ found.finds ∙ ap Some (zero-add found.at))

  from_later : (from r : ℕ) → Holds from → ((round : ℕ) → suc from ≤ round → round < r → Holds round) → (round : ℕ)
      → from ≤ round
      → round < r → Holds round
  from_later from r here later round low high =
      elim (eq-or-lt_of_le low) [
        | inl same ↦ subst Holds same here
        | inr above ↦ later round (omega arith) high
      ]

  abbrev later : ℕ → ℕ → Option FalseProperty
  later from count = first_false_in fs h (upwards (suc from) count)

  round-by : (from count : ℕ) → AllTrue 0 (formula_values fs h from) ⊎ OneFalse 0 (formula_values fs h from)
      → NoRound (suc from) count ⊎ SomeRound (suc from) count
      → NoRound from (suc count) ⊎ SomeRound from (suc count)
  round-by from count (inr found) rest =
      let there = said_of (says from) fs found.at false found.is in
      inr (record {
        v = record { property = found.at; round = from };
        f = there.0;
        low = omega arith;
        high = omega arith;
        is = there.1;
        false_there = there.2;
        before = λ r low high. absurd (omega arith);
        first = λ j g below is. found.before j (holds g h from) below (slice_get-map_some (says from) fs j g is);
        finds = ap (λ o. option_or o (later from count)) (a_violation from found);
        any = or_left (violated_at from) (list_any violated_at (upwards (suc from) count)) found.any;
      })
  round-by from count (inl none) (inl rest) = inl (record {
    all =
        λ round low high. from_later from (from + suc count) (all_hold from none)
        (λ r above below. rest.all r above (omega arith)) round low high;
    none = ap (λ o. option_or o (later from count)) (no_violation from none) ∙ rest.none;
    not_any = or_from (violated_at from) (list_any violated_at (upwards (suc from) count)) none.not_any rest.not_any;
  })
  round-by from count (inl none) (inr rest) = inr (record {
    v = rest.v;
    f = rest.f;
    low = (let low = rest.low in omega arith);
    high = (let high = rest.high in omega arith);
    is = rest.is;
    false_there = rest.false_there;
    before = λ r low high. from_later from rest.v.round (all_hold from none) rest.before r low high;
    first = rest.first;
    finds = ap (λ o. option_or o (later from count)) (no_violation from none) ∙ rest.finds;
    any = or_right (violated_at from) (list_any violated_at (upwards (suc from) count)) rest.any;
  })

  rounds_search : (from count : ℕ) → NoRound from count ⊎ SomeRound from count
  rounds_search from zero = inl (record { all = λ round low high. absurd (omega arith); none = refl; not_any = refl })
  rounds_search from (suc count) =
      round-by from count (find_false 0 (formula_values fs h from)) (rounds_search (suc from) count)

-- ---- of a design
pub violated_is_first : ViolatedIsFirst
violated_is_first design env rounds fs violated =
    elim (rounds_search fs (frame_rows design env rounds) 0 rounds) [
      | inl none ↦ absurd (false≢true (sym none.not_any ∙ violated))
      | inr some ↦ (
        some.v,
        some.f,
        record {
          within = (let high = some.high in omega arith);
          is = some.is;
          false_there = some.false_there;
          before = λ r below. some.before r (omega arith) below;
          first = some.first;
        },
        some.finds,
      )
    ]

pub others_hold : OthersHold
others_hold design env rounds fs fine =
    elim (rounds_search fs (frame_rows design env rounds) 0 rounds) [
      | inl none ↦ (λ round below. none.all round (omega arith) (omega arith), none.none)
      | inr some ↦ absurd (true≢false (sym some.any ∙ fine))
    ]

abbrev pub violation_of : ℕ → List Bool → Option FalseProperty
violation_of round bs = option_map (λ k. record { property = k; round = round }) (position not bs)

pub or_assoc : (a b c : Option FalseProperty) → option_or a (option_or b c) ≡ option_or (option_or a b) c
or_assoc None b c = refl
or_assoc (Some v) b c = refl
