-- For the loops over a design's components, links, feeds and taps: a list of options gives all of its values, or
-- `None` if one is missing.
use Rattle.std.proofs.Common.{◌≡◌, ◌∙◌, ℕ, ◌+◌, ◌<◌, List, [], ◌∷◌, ◌++◌, length, map, take, drop, get_or, Option, Some}
use Rattle.std.proofs.Common.{None, refl, sym, ap}
use Rattle.std.proofs.lemmas.List.{map-append, take-append-drop}
use Rattle.annex_resolve.proofs.MappedLists.{map_next}
use Rattle.design_laws.specs.InstanceDesigns.{put_first, all_of}

-- ---- one more part
more_by : {X : Type 0} (y : X) (x : Option X) (o p : Option (List X)) (ys : List X)
    → ((zs : List X) → o ≡ Some zs → p ≡ Some (zs ++ y ∷ [])) → put_first x o ≡ Some ys
    → put_first x p ≡ Some (ys ++ y ∷ [])
more_by y None o p ys more is = absurd (cc is)
more_by y (Some z) None p ys more is = absurd (cc is)
more_by y (Some z) (Some zs) p ys more is = let same : z ∷ zs ≡ ys = cc in
    ap (put_first (Some z)) (more zs refl) ∙ ap (λ l. Some (l ++ y ∷ [])) same

more_of : {X : Type 0} (y : X) (xs : List (Option X)) (ys : List X) → all_of xs ≡ Some ys
    → all_of (xs ++ Some y ∷ []) ≡ Some (ys ++ y ∷ [])
more_of y [] ys is = let same : [] ≡ ys = cc in ap (λ l. Some (l ++ y ∷ [])) same
more_of y (x ∷ xs) ys is = more_by y x (all_of xs) (all_of (xs ++ Some y ∷ [])) ys (λ zs. more_of y xs zs) is

pub one_more : {A X : Type 0} (f : A → Option X) (xs : List A) (k : ℕ) (x : A) (ys more : List X) (y : X)
    → k < length xs → x ≡ get_or xs k x
    → Some ys ≡ all_of (map f (take k xs)) → Some y ≡ f x → more ≡ ys ++ y ∷ []
    → Some more ≡ all_of (map f (take (k + 1) xs))
one_more f xs k x ys more y within is before found added =
    ap Some added
    ∙ sym (ap all_of (map_next f xs k x within is ∙ ap (λ o. map f (take k xs) ++ o ∷ []) (sym found))
    ∙ more_of y (map f (take k xs)) ys (sym before))

-- ---- a missing part
put_none : {X : Type 0} (x : Option X) → put_first x None ≡ None
put_none None = refl
put_none (Some x) = refl

none_last : {X : Type 0} (xs : List (Option X)) → all_of (xs ++ None ∷ []) ≡ None
none_last [] = refl
none_last (x ∷ xs) = ap (put_first x) (none_last xs) ∙ put_none x

none_by : {X : Type 0} (x : Option X) (o p : Option (List X)) → (o ≡ None → p ≡ None) → put_first x o ≡ None
    → put_first x p ≡ None
none_by None o p none is = refl
none_by (Some x) None p none is = ap (put_first (Some x)) (none refl)
none_by (Some x) (Some xs) p none is = absurd (cc is)

none_before : {X : Type 0} (xs ys : List (Option X)) → all_of xs ≡ None → all_of (xs ++ ys) ≡ None
none_before [] ys is = absurd (cc is)
none_before (x ∷ xs) ys is = none_by x (all_of xs) (all_of (xs ++ ys)) (none_before xs ys) is

pub one_missing : {A X : Type 0} (f : A → Option X) (xs : List A) (k : ℕ) (x : A) → k < length xs → x ≡ get_or xs k x
    → None ≡ f x → None ≡ all_of (map f xs)
one_missing f xs k x within is missing =
    let front = map f (take (k + 1) xs) in
    let none : all_of front ≡ None =
    ap all_of (map_next f xs k x within is ∙ ap (λ o. map f (take k xs) ++ o ∷ []) (sym missing))
    ∙ none_last (map f (take k xs)) in
    sym (ap (λ l. all_of (map f l)) (sym (take-append-drop (k + 1) xs))
    ∙ ap all_of (map-append f (take (k + 1) xs) (drop (k + 1) xs))
    ∙ none_before front (map f (drop (k + 1) xs)) none)
