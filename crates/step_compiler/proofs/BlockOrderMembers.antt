-- Which states an order of blocks contains, and its front parts.
use Rattle.std.proofs.Common.{◌≡◌, ◌∙◌, ◌⊎◌, inl, inr, ℕ, zero, suc, ◌<◌, ◌≤◌, Bool, true, false, List, [], ◌∷◌, ◌++◌}
use Rattle.std.proofs.Common.{length, take, Some, Contains, slice_get, refl, sym, ap, arith}
use Rattle.std.specs.Prelude.{nat_eq, ◌||◌, if◌then◌else◌, find}
use Rattle.std.specs.Option.{option_to_list}
use Rattle.std.proofs.lemmas.Bool.{eqb-true, eq-eqb}
use Rattle.std.proofs.lemmas.List.Folds.{list_any_at}
use Rattle.pals_base.specs.UpwardNumbers.{upwards}
use Rattle.step_compiler.specs.proof.BlockOrder.{is_placed}

-- ---- the placed blocks
placed_by : (t s : ℕ) (order : List ℕ) (here : Bool) → nat_eq t s ≡ here → (here || is_placed order s) ≡ true
    → (is_placed order s ≡ true → Contains order s) → Contains (t ∷ order) s
placed_by t s order true same is later = (0, omega arith, eqb-true t s same)
placed_by t s order false same is later = let among = later is in let within = among.1 in
    (suc among.0, omega (arith, within), among.2)

pub placed_contains : (order : List ℕ) (s : ℕ) → is_placed order s ≡ true → Contains order s
placed_contains [] s is = absurd (cc)
placed_contains (t ∷ order) s is = placed_by t s order (nat_eq t s) refl is (placed_contains order s)

pub contains_placed : (order : List ℕ) (s : ℕ) → Contains order s → is_placed order s ≡ true
contains_placed order s among = list_any_at (λ t. nat_eq t s) order among.0 s among.1 (eq-eqb _ _ among.2)

-- ---- the smallest number that passes
least_by : (f : ℕ → Bool) (from n s : ℕ) (here : Bool) → f from ≡ here
    → (if here then Some from else find f (upwards (suc from) n)) ≡ Some s
    → (find f (upwards (suc from) n) ≡ Some s → (t : ℕ) → suc from ≤ t → t < s → f t ≡ false) → (t : ℕ) → from ≤ t
    → t < s → f t ≡ false
least_by f from n s true is found later t above below =
    absurd (let same : from ≡ s = cc in omega (arith, same, above, below))
least_by f from n s false is found later t above below =
    elim (first_or from t above) [
      | inl same ↦ ap f (sym same) ∙ is
      | inr more ↦ later found t more below
    ]
  where
    first_or : (m k : ℕ) → m ≤ k → (m ≡ k) ⊎ (suc m ≤ k)
    first_or zero zero at_least = inl refl
    first_or zero (suc k) at_least = inr (omega arith)
    first_or (suc m) zero at_least = absurd (omega arith)
    first_or (suc m) (suc k) at_least =
        elim (first_or m k (omega arith)) [ inl same ↦ inl (ap suc same) | inr more ↦ inr (omega (arith, more)) ]

least_from : (f : ℕ → Bool) (from n s : ℕ) → find f (upwards from n) ≡ Some s → (t : ℕ) → from ≤ t → t < s → f t ≡ false
least_from f from zero s found = absurd (cc)
least_from f from (suc n) s found = least_by f from n s (f from) refl found (λ later. least_from f (suc from) n s later)

pub find_least : (f : ℕ → Bool) (n s t : ℕ) → find f (upwards 0 n) ≡ Some s → t < s → f t ≡ false
find_least f n s t found below = least_from f 0 n s found t (omega arith) below

-- ---- elements and beginnings
pub take_next : (k : ℕ) (xs : List ℕ) → take (suc k) xs ≡ take k xs ++ option_to_list (slice_get xs k)
take_next zero [] = refl
take_next zero (x ∷ xs) = refl
take_next (suc k) [] = refl
take_next (suc k) (x ∷ xs) = ap (λ ys. x ∷ ys) (take_next k xs)

pub get_front : (xs ys : List ℕ) (k : ℕ) → k < length xs → slice_get (xs ++ ys) k ≡ slice_get xs k
get_front [] ys k below = absurd (omega arith)
get_front (x ∷ xs) ys zero below = refl
get_front (x ∷ xs) ys (suc k) below = get_front xs ys k (omega arith)
