-- Numbers, and the tests that compare them.
use Rattle.std.proofs.Common.{◌≡◌, ℕ, ◌+◌, ◌<◌, ◌≤◌, min, Bool, true, false, ◌&&◌, ◌||◌, nat_eq, nat_lt, if◌then◌else◌}
use Rattle.std.proofs.Common.{arith}
use Rattle.std.proofs.lemmas.Bool.Decides.{nat_tests}

pub nat_eq-self : (n : ℕ) → nat_eq n n ≡ true
nat_eq-self n = grind arith

pub nat_eq-swapped : (a b : ℕ) → nat_eq a b ≡ nat_eq b a
nat_eq-swapped a b = grind (arith, nat_tests)

pub nat_lt-self : (n : ℕ) → nat_lt n n ≡ false
nat_lt-self n = grind (arith, nat_tests)

pub le_from_not_lt : (m n : ℕ) → (m < n → ⊥) → n ≤ m
le_from_not_lt m n not_less = omega arith

pub ne_from_lt : (m n : ℕ) → m < n → m ≡ n → ⊥
ne_from_lt m n less same = omega (arith, less, same)

pub add_zero_from : (a b : ℕ) → a ≡ b → a ≡ b + 0
add_zero_from a b same = omega arith

-- a sum up to a limit is the sum of its summands up to the limit
pub min-add_capped : (limit a b x y : ℕ) → a ≡ min limit x → b ≡ min limit y → min limit (a + b) ≡ min limit (x + y)
min-add_capped limit a b x y is_a is_b = omega arith

-- ---- pairs of numbers in lexicographic order
pub pair_lt-asymmetric : (p q m n : ℕ) → (nat_lt p q || (nat_eq p q && nat_lt m n)) ≡ true
    → (nat_lt q p || (nat_eq q p && nat_lt n m)) ≡ false
pair_lt-asymmetric p q m n less = grind (arith, nat_tests)

pub pair_ge-transitive : (p q r m n k : ℕ) → (nat_lt p q || (nat_eq p q && nat_lt m n)) ≡ false
    → (nat_lt q r || (nat_eq q r && nat_lt n k)) ≡ false
    → (nat_lt p r || (nat_eq p r && nat_lt m k)) ≡ false
pair_ge-transitive p q r m n k first second = grind (arith, nat_tests)

-- ---- the character of a digit in hexadecimal numbers
pub digit-at_least : (b : Bool) (d : ℕ) → 48 ≤ (if b then 48 + d else 87 + d)
digit-at_least true d = omega arith
digit-at_least false d = omega arith
