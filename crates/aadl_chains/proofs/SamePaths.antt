-- The test whether two paths are equal.
use Rattle.std.proofs.Common.{◌≡◌, ◌∙◌, ℕ, true, nat_eq, List, [], ◌∷◌, refl, ap}
use Rattle.std.proofs.lemmas.Bool.{and_from, and_parts, eqb-true, false≢true}
use Rattle.list_lemmas.proofs.Numbers.{nat_eq-self}
use Rattle.aadl_chains.specs.LinksFeedsAndTaps.{same_path}

pub same_path-self : (p : List ℕ) → same_path p p ≡ true
same_path-self [] = refl
same_path-self (x ∷ p) = and_from (nat_eq x x) (same_path p p) (nat_eq-self x) (same_path-self p)

pub same_path-true : (p q : List ℕ) → same_path p q ≡ true → p ≡ q
same_path-true [] [] e = refl
same_path-true [] (y ∷ q) e = absurd (false≢true e)
same_path-true (x ∷ p) [] e = absurd (false≢true e)
same_path-true (x ∷ p) (y ∷ q) e = let h = and_parts (nat_eq x y) (same_path p q) e in
    ap (λ k. k ∷ p) (eqb-true x y h.0) ∙ ap (λ l. y ∷ l) (same_path-true p q h.1)
