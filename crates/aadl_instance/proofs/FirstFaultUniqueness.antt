-- A package has at most one first fault: its line, position and number are determined. The law `one_first_fault`.
use Rattle.std.proofs.Common.{◌≡◌, ℕ, ◌<◌, false, ◌&&◌, ◌||◌, nat_eq, nat_lt, subst, arith, inl, inr, ◌⊎◌}
use Rattle.std.proofs.lemmas.Bool.Decides.{nat_tests}
use Rattle.std.proofs.lemmas.Bool.{cases_order}
use Rattle.aadl_names.specs.declared.fault.PackageFault.{PackageFault}
use Rattle.aadl_names.specs.FirstFaults.{place_of, number_of, IsFirst, IsFirstByLine}

same_by : (p q m n : ℕ) → (nat_lt p q || (nat_eq p q && nat_lt m n)) ≡ false
    → (nat_lt q p || (nat_eq q p && nat_lt n m)) ≡ false → (p ≡ q) × (m ≡ n)
same_by p q m n a b = (grind (arith, nat_tests), grind (arith, nat_tests))

pub one_first : (Found : PackageFault → Type 0) (a b : PackageFault) → IsFirst Found a → IsFirst Found b
    → (place_of a ≡ place_of b) × (number_of a ≡ number_of b)
one_first Found a b x y =
    same_by (place_of a) (place_of b) (number_of a) (number_of b) (y.first a x.found) (x.first b y.found)

three_by : (m n : ℕ) → (m ≡ n) ⊎ ((m < n) ⊎ (n < m)) → (m < n) ⊎ (n < m) ⊎ (m ≡ n)
three_by m n (inl e) = inr (inr e)
three_by m n (inr (inl e)) = inl e
three_by m n (inr (inr e)) = inr (inl e)

three_ways : (m n : ℕ) → (m < n) ⊎ (n < m) ⊎ (m ≡ n)
three_ways m n = three_by m n (cases_order m n)

by_line : (Found : ℕ → PackageFault → Type 0) (a b : PackageFault)
    → (x : IsFirstByLine Found a) (y : IsFirstByLine Found b)
    → (x.line < y.line) ⊎ (y.line < x.line) ⊎ (x.line ≡ y.line)
    → (place_of a ≡ place_of b) × (number_of a ≡ number_of b)
by_line Found a b x y (inl h) = absurd (y.none_before x.line a h x.here.found)
by_line Found a b x y (inr (inl h)) = absurd (x.none_before y.line b h y.here.found)
by_line Found a b x y (inr (inr h)) = one_first (Found y.line) a b (subst (λ l. IsFirst (Found l) a) h x.here) y.here

pub one_by_line : (Found : ℕ → PackageFault → Type 0) (a b : PackageFault) → IsFirstByLine Found a
    → IsFirstByLine Found b
    → (place_of a ≡ place_of b) × (number_of a ≡ number_of b)
one_by_line Found a b x y = by_line Found a b x y (three_ways x.line y.line)
