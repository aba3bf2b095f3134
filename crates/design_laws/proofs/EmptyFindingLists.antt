-- Consequences of a test that passes, or of an empty list of findings.
use Rattle.std.proofs.Common.{◌≡◌, ℕ, ◌+◌, zero, suc, Bool, true, false, not, cond, List, [], ◌∷◌, map, Some, refl, ap}
use Rattle.std.proofs.Common.{◌∙◌, arith}
use Rattle.std.specs.Prelude.{flat_map, filter, slice_get}
use Rattle.std.specs.List.{enumerate_from}
use Rattle.std.proofs.lemmas.Bool.{not-false}
use Rattle.list_lemmas.proofs.ListOperations.{append_is_nil}
use Rattle.annex_resolve.specs.FindingRecords.{found_if}

-- no findings
pub not_wrong : (wrong : Bool) (at number : ℕ) (details : List ℕ) → found_if wrong at number details ≡ []
    → wrong ≡ false
not_wrong true at number details e = absurd (cc e)
not_wrong false at number details e = refl

pub is_right : (right : Bool) (at number : ℕ) (details : List ℕ) → found_if (not right) at number details ≡ []
    → right ≡ true
is_right right at number details e = not-false right (not_wrong (not right) at number details e)

pub none_at : {A B : Type 0} (f : ℕ × A → List B) (from : ℕ) (xs : List A) → flat_map f (enumerate_from from xs) ≡ []
    → (n : ℕ) (x : A) → slice_get xs n ≡ Some x → f (from + n, x) ≡ []
none_at f from [] e n x is = absurd (cc is)
none_at f from (y ∷ ys) e zero x is =
    let here = append_is_nil (f (from, y)) (flat_map f (enumerate_from (from + 1) ys)) e in
    let z : from + 0 ≡ from = omega arith in
    ap (λ k. f (k, x)) z ∙ ap (λ v. f (from, v)) (grind (arith, is)) ∙ here.0
none_at f from (y ∷ ys) e (suc n) x is =
    let here = append_is_nil (f (from, y)) (flat_map f (enumerate_from (from + 1) ys)) e in
    let z : from + suc n ≡ (from + 1) + n = omega arith in
    ap (λ k. f (k, x)) z ∙ none_at f (from + 1) ys here.1 n x is

kept_by : {A B : Type 0} (f : A → B) (b : Bool) (x : A) (ys : List B) (zs : List A) → ys ≡ map f zs
    → cond b (f x ∷ ys) ys ≡ map f (cond b (x ∷ zs) zs)
kept_by f true x ys zs e = ap (λ l. f x ∷ l) e
kept_by f false x ys zs e = e

pub filter-map : {A B : Type 0} (p : B → Bool) (f : A → B) (xs : List A)
    → filter p (map f xs) ≡ map f (filter (λ x. p (f x)) xs)
filter-map p f [] = refl
filter-map p f (x ∷ xs) = kept_by f (p (f x)) x (filter p (map f xs)) (filter (λ x. p (f x)) xs) (filter-map p f xs)
