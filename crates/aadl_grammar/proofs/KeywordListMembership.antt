-- Membership of keywords in lists, and a test and its negation.
use Rattle.std.proofs.Common.{◌≡◌, Bool, true, false, not, ◌||◌, ◌==◌, List, [], ◌∷◌, refl, arith}
use Rattle.std.specs.Prelude.{Contains}
use Rattle.std.proofs.lemmas.Bool.{eqb-true}
use Rattle.list_lemmas.proofs.Elements.{Contains-cons}
use Rattle.aadl_tree.specs.declared.mark.Mark.{Mark}
use Rattle.aadl_tree.specs.proof.MarkNumbers.{mark_number}
use Rattle.aadl_tree.proofs.MarkNumbers.{same_number}

pub or_not : (a b : Bool) → (a || not b) ≡ true → b ≡ true → a ≡ true
or_not true b e f = refl
or_not false true e f = e
or_not false false e f = cc

pub or_false : (a b : Bool) → (a || b) ≡ true → b ≡ false → a ≡ true
or_false true b e f = refl
or_false false b e f = cc

abbrev pub listed : List Mark → Mark → Bool
listed [] m = false
listed (x ∷ xs) m = mark_number x == mark_number m || listed xs m

listed_first : (b : Bool) (x m : Mark) (xs : List Mark) → (b ≡ true → x ≡ m) → (listed xs m ≡ true → Contains xs m)
    → (b || listed xs m) ≡ true → Contains (x ∷ xs) m
listed_first true x m xs same more e = (0, omega arith, same refl)
listed_first false x m xs same more e = Contains-cons x m xs (more e)

pub is_listed : (xs : List Mark) (m : Mark) → listed xs m ≡ true → Contains xs m
is_listed [] m e = cc
is_listed (x ∷ xs) m e = listed_first _ x m xs (λ f. same_number x m (eqb-true _ _ f)) (is_listed xs m) e

pub not_both : (a : Bool) → not a ≡ true → a ≡ true → ⊥
not_both true e h = cc
not_both false e h = cc
