-- Members of lists that are appended, set and read.
use Rattle.std.proofs.Common.{◌≡◌, inl, inr, ℕ, List, [], ◌∷◌, ◌++◌, Some, refl, ⊎_elim, zero, suc, ◌+◌, ap}
use Rattle.std.specs.Prelude.{◌⊎◌, slice_set, ◌≢◌, slice_get}
use Rattle.std.proofs.lemmas.Bool.{cases_eq}
use Rattle.step_code.specs.proof.StackHeights.{Member}

pub member_left : {A : Type 0} (xs ys : List A) (x : A) → Member xs x → Member (xs ++ ys) x
member_left [] ys x among = absurd among
member_left (z ∷ xs) ys x among = ⊎_elim (λ e. inl e) (λ later. inr (member_left xs ys x later)) among

pub member_right : {A : Type 0} (xs ys : List A) (x : A) → Member ys x → Member (xs ++ ys) x
member_right [] ys x among = among
member_right (z ∷ xs) ys x among = inr (member_right xs ys x among)

pub member_either : {A : Type 0} (xs ys : List A) (x : A) → Member (xs ++ ys) x → Member xs x ⊎ Member ys x
member_either [] ys x among = inr among
member_either (z ∷ xs) ys x among =
    ⊎_elim (λ e. inl (inl e)) (λ later. ⊎_elim (λ a. inl (inr a)) (λ b. inr b) (member_either xs ys x later)) among

pub member_or_not : (ps : List ℕ) (p : ℕ) → Member ps p ⊎ (Member ps p → ⊥)
member_or_not [] p = inr (λ among. among)
member_or_not (q ∷ ps) p =
    ⊎_elim
    (λ (e : q ≡ p). inl (inl e))
    (λ (other : q ≡ p → ⊥). ⊎_elim (λ (a : Member ps p). inl (inr a))
    (λ (none : Member ps p → ⊥). inr (λ among. ⊎_elim (λ e. other e) (λ later. none later) among))
    (member_or_not ps p))
    (cases_eq q p)

pub get_set_other : {A : Type 0} (xs : List A) (i j : ℕ) (a : A) → i ≢ j
    → slice_get (slice_set xs i a) j ≡ slice_get xs j
get_set_other [] i j a other = refl
get_set_other (x ∷ xs) zero zero a other = absurd (other refl)
get_set_other (x ∷ xs) zero (suc j) a other = refl
get_set_other (x ∷ xs) (suc i) zero a other = refl
get_set_other (x ∷ xs) (suc i) (suc j) a other = get_set_other xs i j a (λ e. other (ap suc e))

pub get_set_same : {A : Type 0} (xs : List A) (i : ℕ) (a y : A) → slice_get xs i ≡ Some y
    → slice_get (slice_set xs i a) i ≡ Some a
get_set_same [] i a y is = cc
get_set_same (x ∷ xs) zero a y is = refl
get_set_same (x ∷ xs) (suc i) a y is = get_set_same xs i a y is
