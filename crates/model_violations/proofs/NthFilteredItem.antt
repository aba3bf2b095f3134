-- For `in_port`: the number of an element among the elements that pass a test, after one more element.
use Rattle.std.proofs.Common.{◌≡◌, ◌∙◌, ℕ, ◌+◌, ◌<◌, ◌≤◌, Bool, true, false, cond, List, ◌∷◌, length, map, filter, drop}
use Rattle.std.proofs.Common.{get_or, Some, None, ap, add-one}
use Rattle.std.proofs.lemmas.List.{drop_all}
use Rattle.std.specs.Prelude.{slice_get}
use Rattle.list_lemmas.proofs.ListOperations.{drop-next}

tested : {A B : Type 0} (p : B → Bool) (v : A → B) (xs : List A) (i : ℕ) (x : A) (b : Bool) → i < length xs
    → x ≡ get_or xs i x → p (v x) ≡ b
    → filter p (map v (drop i xs))
    ≡ cond b (v x ∷ filter p (map v (drop (i + 1) xs))) (filter p (map v (drop (i + 1) xs)))
tested p v xs i x b within is test =
    let rest = filter p (map v (drop (i + 1) xs)) in
    ap (λ l. filter p (map v l)) (drop-next xs i x within is) ∙ ap (λ t. cond t (v x ∷ rest) rest) test

-- it is the first one
pub found_here : {A B : Type 0} (p : B → Bool) (v : A → B) (xs : List A) (i n : ℕ) (x : A) → i < length xs
    → x ≡ get_or xs i x → p (v x) ≡ true → n ≡ 0
    → slice_get (filter p (map v (drop i xs))) n ≡ Some (v x)
found_here p v xs i n x within is passes first =
    ap (λ l. slice_get l n) (tested p v xs i x true within is passes)
    ∙ ap (slice_get (v x ∷ filter p (map v (drop (i + 1) xs)))) first

-- it is further on, with a number smaller by one
pub found_later : {A B : Type 0} (p : B → Bool) (v : A → B) (xs : List A) (i n m : ℕ) (x : A) → i < length xs
    → x ≡ get_or xs i x → p (v x) ≡ true → n ≡ m + 1
    → slice_get (filter p (map v (drop i xs))) n ≡ slice_get (filter p (map v (drop (i + 1) xs))) m
found_later p v xs i n m x within is passes later =
    ap (λ l. slice_get l n) (tested p v xs i x true within is passes)
    ∙ ap (slice_get (v x ∷ filter p (map v (drop (i + 1) xs)))) (later ∙ add-one m)

-- this element does not pass
pub not_here : {A B : Type 0} (p : B → Bool) (v : A → B) (xs : List A) (i n : ℕ) (x : A) → i < length xs
    → x ≡ get_or xs i x → p (v x) ≡ false
    → slice_get (filter p (map v (drop i xs))) n ≡ slice_get (filter p (map v (drop (i + 1) xs))) n
not_here p v xs i n x within is fails = ap (λ l. slice_get l n) (tested p v xs i x false within is fails)

pub nowhere : {A B : Type 0} (p : B → Bool) (v : A → B) (xs : List A) (i n : ℕ) → length xs ≤ i
    → slice_get (filter p (map v (drop i xs))) n ≡ None
nowhere p v xs i n past = ap (λ l. slice_get (filter p (map v l)) n) (drop_all i xs past)
