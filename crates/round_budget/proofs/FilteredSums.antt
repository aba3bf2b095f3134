-- Sums over the members that a test picks.
use Rattle.std.proofs.Common.{◌≡◌, inl, inr, ℕ, ◌+◌, ◌≤◌, Bool, true, false, cond, List, [], ◌∷◌, ap, arith}
use Rattle.std.specs.Prelude.{nat_eq, ◌||◌}
use Rattle.std.specs.List.{sum_by}
use Rattle.std.proofs.lemmas.Bool.{eq-eqb}
use Rattle.std.proofs.lemmas.List.Sums.{sum_by-cons}
use Rattle.step_code.specs.proof.StackHeights.{Member}

-- what the picked members weigh
abbrev pub part : (ℕ → ℕ) → (ℕ → Bool) → List ℕ → ℕ
part w used members = sum_by (λ m. cond (used m) (w m) 0) members

abbrev pub with_one : ℕ → (ℕ → Bool) → ℕ → Bool
with_one n used m = nat_eq m n || used m

picked_le : (b : Bool) (n : ℕ) → cond b n 0 ≤ n
picked_le true n = omega arith
picked_le false n = omega arith

pub part_le : (w : ℕ → ℕ) (used : ℕ → Bool) (members : List ℕ) → part w used members ≤ sum_by w members
part_le w used [] = omega arith
part_le w used (m ∷ ms) =
    let here = picked_le (used m) (w m) in
    let later = part_le w used ms in
    let a = sum_by-cons (λ k. cond (used k) (w k) 0) m ms in
    let b = sum_by-cons w m ms in
    omega (arith, here, later, a, b)

or_le : (b c : Bool) (n : ℕ) → cond c n 0 ≤ cond (b || c) n 0
or_le true true n = omega arith
or_le true false n = omega arith
or_le false c n = omega arith

kept_le : (w : ℕ → ℕ) (used : ℕ → Bool) (n : ℕ) (members : List ℕ)
    → part w used members ≤ part w (with_one n used) members
kept_le w used n [] = omega arith
kept_le w used n (m ∷ ms) =
    let here = or_le (nat_eq m n) (used m) (w m) in
    let later = kept_le w used n ms in
    let a = sum_by-cons (λ k. cond (used k) (w k) 0) m ms in
    let b = sum_by-cons (λ k. cond (with_one n used k) (w k) 0) m ms in
    omega (arith, here, later, a, b)

new_le : (b c : Bool) (n : ℕ) → b ≡ true → c ≡ false → cond c n 0 + n ≤ cond (b || c) n 0
new_le true true n is not = absurd (cc)
new_le true false n is not = omega arith
new_le false c n is not = absurd (cc)

-- one more that was not picked adds its weight
pub part_more : (w : ℕ → ℕ) (used : ℕ → Bool) (n : ℕ) (members : List ℕ) → Member members n → used n ≡ false
    → part w used members + w n ≤ part w (with_one n used) members
part_more w used n [] among fresh = absurd among
part_more w used n (m ∷ ms) (inl same) fresh =
    let here : cond (used m) (w m) 0 + w m ≤ cond (nat_eq m n || used m) (w m) 0 =
    new_le (nat_eq m n) (used m) (w m) (eq-eqb m n same) (cc) in
    let weight : w m ≡ w n = ap w same in
    let later = kept_le w used n ms in
    let a = sum_by-cons (λ k. cond (used k) (w k) 0) m ms in
    let b = sum_by-cons (λ k. cond (with_one n used k) (w k) 0) m ms in
    omega (arith, here, weight, later, a, b)
part_more w used n (m ∷ ms) (inr among) fresh =
    let here = or_le (nat_eq m n) (used m) (w m) in
    let later = part_more w used n ms among fresh in
    let a = sum_by-cons (λ k. cond (used k) (w k) 0) m ms in
    let b = sum_by-cons (λ k. cond (with_one n used k) (w k) 0) m ms in
    omega (arith, here, later, a, b)

-- one alone weighs no more than all
pub one_le : (w : ℕ → ℕ) (n : ℕ) (members : List ℕ) → Member members n → w n ≤ sum_by w members
one_le w n [] among = absurd among
one_le w n (m ∷ ms) (inl same) =
    let weight : w m ≡ w n = ap w same in
    let b = sum_by-cons w m ms in
    omega (arith, weight, b)
one_le w n (m ∷ ms) (inr among) =
    let later = one_le w n ms among in
    let b = sum_by-cons w m ms in
    omega (arith, later, b)
