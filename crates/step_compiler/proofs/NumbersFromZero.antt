-- The numbers from 0 on: which are members, which pass a test, and which is the first that does.
use Rattle.std.proofs.Common.{◌≡◌, ◌∙◌, inl, inr, subst, None, ℕ, zero, suc, ◌+◌, ◌-◌, ◌<◌, Bool, true, false}
use Rattle.std.proofs.Common.{if◌then◌else◌, List, [], ◌∷◌, ◌++◌, Some, refl, sym, ap, arith, add-one, zero-add}
use Rattle.std.specs.Prelude.{filter, find}
use Rattle.std.proofs.lemmas.List.Elements.{filter-append}
use Rattle.pals_base.specs.UpwardNumbers.{upwards}
use Rattle.step_code.specs.proof.StackHeights.{Member}
use Rattle.pals_base.proofs.UpwardNumbers.{upwards-more, upwards_next}

-- ---- the first one for which a test holds
cond_find : (f : ℕ → Bool) (s : ℕ) (rest : List ℕ) (t : Bool) → f s ≡ t
    → find f (s ∷ rest) ≡ (if t then Some s else find f rest)
cond_find f s rest t is = ap (λ x. if x then Some s else find f rest) is

pub found : (f : ℕ → Bool) (s n : ℕ) → s < n → f s ≡ true → find f (upwards s (n - s)) ≡ Some s
found f s n within is = ap (find f) (upwards_next s n within) ∙ cond_find f s (upwards (s + 1) (n - (s + 1))) true is

pub skipped : (f : ℕ → Bool) (s n : ℕ) → s < n → f s ≡ false
    → find f (upwards (s + 1) (n - (s + 1))) ≡ find f (upwards s (n - s))
skipped f s n within is =
    sym (ap (find f) (upwards_next s n within) ∙ cond_find f s (upwards (s + 1) (n - (s + 1))) false is)

-- ---- those for which it holds
filter_one : (f : ℕ → Bool) (n : ℕ) (t : Bool) → f n ≡ t → filter f (n ∷ []) ≡ (if t then n ∷ [] else [])
filter_one f n t is = ap (λ x. if x then n ∷ [] else []) is

pub filter_more : (f : ℕ → Bool) (n : ℕ) (t : Bool) → f n ≡ t
    → filter f (upwards 0 (n + 1)) ≡ filter f (upwards 0 n) ++ (if t then n ∷ [] else [])
filter_more f n t is =
    ap (λ k. filter f (upwards 0 k)) (add-one n)
    ∙ ap (filter f) (upwards-more 0 n)
    ∙ filter-append f (upwards 0 n) ((0 + n) ∷ [])
    ∙ ap (λ k. filter f (upwards 0 n) ++ filter f (k ∷ [])) (zero-add n)
    ∙ ap (λ xs. filter f (upwards 0 n) ++ xs) (filter_one f n t is)

-- ---- the found element
found_by : (f : ℕ → Bool) (from n s : ℕ) (t : Bool) → f from ≡ t
    → (if t then Some from else find f (upwards (suc from) n)) ≡ Some s
    → (find f (upwards (suc from) n) ≡ Some s → (f s ≡ true) × (s < suc from + n)) → (f s ≡ true) × (s < from + suc n)
found_by f from n s true is found rest = let at : from ≡ s = cc in (ap f (sym at) ∙ is, omega arith)
found_by f from n s false is found rest = let later = rest found in let less = later.1 in (later.0, omega arith)

found_from : (f : ℕ → Bool) (from n s : ℕ) → find f (upwards from n) ≡ Some s → (f s ≡ true) × (s < from + n)
found_from f from zero s is = cc
found_from f from (suc n) s is = found_by f from n s (f from) refl is (λ later. found_from f (suc from) n s later)

pub found_is : (f : ℕ → Bool) (n s : ℕ) → find f (upwards 0 n) ≡ Some s → (f s ≡ true) × (s < n)
found_is f n s is = let x = found_from f 0 n s is in let less = x.1 in (x.0, omega arith)

none_by : (f : ℕ → Bool) (from n : ℕ) (t : Bool) → f from ≡ t
    → (if t then Some from else find f (upwards (suc from) n)) ≡ None
    → (f from ≡ false) × (find f (upwards (suc from) n) ≡ None)
none_by f from n true is none = cc
none_by f from n false is none = (is, none)

none_from : (f : ℕ → Bool) (from n k : ℕ) → find f (upwards from n) ≡ None → k < n → f (from + k) ≡ false
none_from f from zero k is within = absurd (omega arith)
none_from f from (suc n) zero is within = ap f (omega arith) ∙ (none_by f from n (f from) refl is).0
none_from f from (suc n) (suc k) is within =
    ap f (omega arith) ∙ none_from f (suc from) n k (none_by f from n (f from) refl is).1 (omega arith)

pub none_is : (f : ℕ → Bool) (n s : ℕ) → find f (upwards 0 n) ≡ None → s < n → f s ≡ false
none_is f n s is within = ap f (sym (zero-add s)) ∙ none_from f 0 n s is within

member_from : (from n k : ℕ) → k < n → Member (upwards from n) (from + k)
member_from from zero k within = absurd (omega arith)
member_from from (suc n) zero within = inl (omega arith)
member_from from (suc n) (suc k) within =
    inr (subst (Member (upwards (suc from) n)) (let e : suc from + k ≡ from + suc k = omega arith in e)
    (member_from (suc from) n k (omega arith)))

pub member_upwards : (n s : ℕ) → s < n → Member (upwards 0 n) s
member_upwards n s within = subst (Member (upwards 0 n)) (zero-add s) (member_from 0 n s within)
