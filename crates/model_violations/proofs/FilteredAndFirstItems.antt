-- For loops that filter a list, as `ins_in` and `outs_in`, or that take the first image of an element, as
-- `first_behaviour`: their state after one more element.
use Rattle.std.proofs.Common.{◌≡◌, ◌∙◌, ℕ, ◌+◌, ◌<◌, Bool, true, false, cond, List, [], ◌∷◌, ◌++◌, length, map, filter}
use Rattle.std.proofs.Common.{take, drop, get_or, Option, Some, None, refl, sym, ap}
use Rattle.std.specs.Prelude.{slice_get}
use Rattle.std.specs.List.{filter_map, cons_option}
use Rattle.std.proofs.lemmas.List.{map-append}
use Rattle.std.proofs.lemmas.List.Elements.{filter-append}
use Rattle.list_lemmas.proofs.ListOperations.{drop-next}
use Rattle.annex_resolve.proofs.MappedLists.{map_next}

one_more : {A B C : Type 0} (h : B → C) (p : B → Bool) (v : A → B) (xs : List A) (i : ℕ) (x : A) → i < length xs
    → x ≡ get_or xs i x
    → map h (filter p (map v (take (i + 1) xs)))
    ≡ map h (filter p (map v (take i xs))) ++ map h (cond (p (v x)) (v x ∷ []) [])
one_more h p v xs i x within is =
    ap (λ l. map h (filter p l)) (map_next v xs i x within is)
    ∙ ap (map h) (filter-append p (map v (take i xs)) (v x ∷ []))
    ∙ map-append h (filter p (map v (take i xs))) (cond (p (v x)) (v x ∷ []) [])

map_cond : {B C : Type 0} (h : B → C) (y : B) (b : Bool) → cond b (h y ∷ []) [] ≡ map h (cond b (y ∷ []) [])
map_cond h y true = refl
map_cond h y false = refl

pub kept_next : {A B C : Type 0} (h : B → C) (p : B → Bool) (v : A → B) (xs : List A) (i : ℕ) (x : A) (b : Bool)
    (old new : List C) → i < length xs → x ≡ get_or xs i x → b ≡ p (v x)
    → old ≡ map h (filter p (map v (take i xs))) → new ≡ old ++ cond b (h (v x) ∷ []) []
    → new ≡ map h (filter p (map v (take (i + 1) xs)))
kept_next h p v xs i x b old new within is test before added =
    let front = map h (filter p (map v (take i xs))) in
    added ∙ ap (λ l. l ++ cond b (h (v x) ∷ []) []) before ∙ ap (λ t. front ++ cond t (h (v x) ∷ []) []) test
    ∙ ap (λ l. front ++ l) (map_cond h (v x) (p (v x)))
    ∙ sym (one_more h p v xs i x within is)

-- ---- the first image of the remaining elements
pub first_here : {A B C : Type 0} (f : B → Option C) (v : A → B) (xs : List A) (i : ℕ) (x : A) (y : C) → i < length xs
    → x ≡ get_or xs i x → f (v x) ≡ Some y
    → slice_get (filter_map f (map v (drop i xs))) 0 ≡ Some y
first_here f v xs i x y within is made =
    ap (λ l. slice_get (filter_map f (map v l)) 0) (drop-next xs i x within is)
    ∙ ap (λ o. slice_get (cons_option o (filter_map f (map v (drop (i + 1) xs)))) 0) made

pub first_later : {A B C : Type 0} (f : B → Option C) (v : A → B) (xs : List A) (i : ℕ) (x : A) → i < length xs
    → x ≡ get_or xs i x → f (v x) ≡ None
    → slice_get (filter_map f (map v (drop i xs))) 0 ≡ slice_get (filter_map f (map v (drop (i + 1) xs))) 0
first_later f v xs i x within is none =
    ap (λ l. slice_get (filter_map f (map v l)) 0) (drop-next xs i x within is)
    ∙ ap (λ o. slice_get (cons_option o (filter_map f (map v (drop (i + 1) xs)))) 0) none
