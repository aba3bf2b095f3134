-- The order of paths is strict: no two paths precede each other, and none precedes itself.
use Rattle.std.proofs.Common.{◌≡◌, ℕ, Bool, true, false, ◌&&◌, ◌||◌, nat_eq, nat_lt, List, [], ◌∷◌, refl, arith}
use Rattle.std.proofs.lemmas.Bool.{false≢true, false_from_ne_true}
use Rattle.std.proofs.lemmas.Bool.Decides.{nat_tests}
use Rattle.aadl_uses.specs.ThreadsBelow.{path_before}

one_way_by : (x y : ℕ) (a b : Bool) → (a ≡ true → b ≡ true → ⊥) → (nat_lt x y || (nat_eq x y && a)) ≡ true
    → (nat_lt y x || (nat_eq y x && b)) ≡ true → ⊥
one_way_by x y true true never first second = never refl refl
one_way_by x y true false never first second = absurd (grind (arith, nat_tests))
one_way_by x y false true never first second = absurd (grind (arith, nat_tests))
one_way_by x y false false never first second = absurd (grind (arith, nat_tests))

pub one_way_paths : (p q : List ℕ) → path_before p q ≡ true → path_before q p ≡ true → ⊥
one_way_paths [] [] first second = false≢true first
one_way_paths [] (y ∷ q) first second = false≢true second
one_way_paths (x ∷ p) [] first second = false≢true first
one_way_paths (x ∷ p) (y ∷ q) first second =
    one_way_by x y (path_before p q) (path_before q p) (one_way_paths p q) first second

pub never_before : (path : List ℕ) → path_before path path ≡ false
never_before path = false_from_ne_true (path_before path path) (λ before. one_way_paths path path before before)
