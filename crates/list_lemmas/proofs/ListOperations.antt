-- Lists that are concatenated, mapped, cut and numbered.
use Rattle.std.proofs.Common.{◌≡◌, ◌∙◌, ℕ, suc, ◌+◌, ◌<◌, ◌≤◌, List, [], ◌∷◌, ◌++◌, length, map, take, drop, set}
use Rattle.std.proofs.Common.{slice_get, get_or, drop-cons, append-nil, refl, sym, ap, ap₂, arith}
use Rattle.std.specs.Prelude.{flat_map}
use Rattle.std.specs.List.{enumerate_from}
use Rattle.std.proofs.lemmas.Grind.{common_steps, flat_map-append}
use Rattle.std.proofs.lemmas.List.{drop_all, drop-drop, take_all, take_more, take_more_set}
use Rattle.std.proofs.lemmas.Option.{same_Some}

-- ---- concatenation with the empty list
pub append_is_nil_left : {X : Type 0} (xs ys : List X) → xs ++ ys ≡ [] → xs ≡ []
append_is_nil_left [] ys none = refl
append_is_nil_left (x ∷ xs) ys none = absurd (cc none)

pub append_is_nil_right : {X : Type 0} (xs ys : List X) → xs ++ ys ≡ [] → ys ≡ []
append_is_nil_right [] ys none = none
append_is_nil_right (x ∷ xs) ys none = absurd (cc none)

pub append_is_nil : {X : Type 0} (xs ys : List X) → xs ++ ys ≡ [] → (xs ≡ []) × (ys ≡ [])
append_is_nil xs ys none = (append_is_nil_left xs ys none, append_is_nil_right xs ys none)

-- ---- one element more or fewer
pub length-take_within : {A : Type 0} (xs : List A) (i : ℕ) → i < length xs → length (take i xs) ≡ i
length-take_within xs i within = grind (arith, common_steps)

pub drop-next : {A : Type 0} (xs : List A) (i : ℕ) (x : A) → i < length xs → x ≡ get_or xs i x
    → drop i xs ≡ x ∷ drop (i + 1) xs
drop-next xs i x within is = drop-cons xs i x within ∙ grind (arith, common_steps)

pub drop_add : {A : Type 0} (m n : ℕ) (xs : List A) → drop (m + n) xs ≡ drop n (drop m xs)
drop_add m n xs = sym (drop-drop n m xs)

pub take-append_front : {X : Type 0} (xs ys : List X) → take (length xs) (xs ++ ys) ≡ xs
take-append_front [] ys = refl
take-append_front (x ∷ xs) ys = ap (λ zs. x ∷ zs) (take-append_front xs ys)

-- a call that writes as many elements as the buffer has overwrites all of them
pub take-written_whole : {A : Type 0} (n : ℕ) (new old : List A) → n ≡ length old → length new ≡ length old
    → take n (new ++ drop (length new) old) ≡ new
take-written_whole n new old all same =
    ap (λ rest. take n (new ++ rest)) (drop_all (length new) old (omega arith)) ∙ ap (take n) (append-nil new)
    ∙ take_all n new (omega arith)

-- ---- a list that is filled with the elements of another
pub filled_more : {X : Type 0} (xs wanted : List X) (i : ℕ) (y : X) → length xs ≡ length wanted → i < length wanted
    → y ≡ get_or wanted i y → take i xs ≡ take i wanted → take (i + 1) (set xs i y) ≡ take (i + 1) wanted
filled_more xs wanted i y size within item so_far =
    take_more_set xs i y (omega arith)
    ∙ ap (λ l. l ++ y ∷ []) so_far
    ∙ ap (λ v. take i wanted ++ v ∷ []) item
    ∙ sym (take_more wanted i y within)

pub filled_all : {X : Type 0} (xs wanted : List X) (i : ℕ) → length xs ≡ length wanted → length wanted ≤ i
    → take i xs ≡ take i wanted → xs ≡ wanted
filled_all xs wanted i size past so_far = sym (take_all i xs (omega arith)) ∙ so_far ∙ take_all i wanted past

-- ---- mapped
pub flat_map-take_more : {X Y : Type 0} (f : X → List Y) (xs : List X) (i : ℕ) (x : X) → i < length xs
    → x ≡ get_or xs i x → flat_map f (take (i + 1) xs) ≡ flat_map f (take i xs) ++ f x
flat_map-take_more f xs i x within is =
    ap (flat_map f) (take_more xs i x within ∙ ap (λ y. take i xs ++ y ∷ []) (sym is))
    ∙ flat_map-append f (take i xs) (x ∷ []) ∙ ap (λ rest. flat_map f (take i xs) ++ rest) (append-nil (f x))

pub map-map : {X Y Z : Type 0} (f : Y → Z) (g : X → Y) (xs : List X) → map f (map g xs) ≡ map (λ x. f (g x)) xs
map-map f g [] = refl
map-map f g (x ∷ xs) = ap (λ ys. f (g x) ∷ ys) (map-map f g xs)

-- ---- numbered
pub enumerate_from-append : {X : Type 0} (from : ℕ) (xs ys : List X)
    → enumerate_from from (xs ++ ys) ≡ enumerate_from from xs ++ enumerate_from (from + length xs) ys
enumerate_from-append from [] ys = let here : from ≡ from + 0 = omega arith in ap (λ n. enumerate_from n ys) here
enumerate_from-append from (x ∷ xs) ys =
    let next : from + 1 + length xs ≡ from + length (x ∷ xs) = omega arith in
    ap (λ ps. (from, x) ∷ ps)
    (enumerate_from-append (from + 1) xs ys ∙ ap (λ n. enumerate_from (from + 1) xs ++ enumerate_from n ys) next)

pub enumerate_from-push : {A : Type 0} (from : ℕ) (xs : List A) (x : A)
    → enumerate_from from (xs ++ x ∷ []) ≡ enumerate_from from xs ++ (from + length xs, x) ∷ []
enumerate_from-push from xs x = enumerate_from-append from xs (x ∷ [])

pub length-map_enumerate_from : {X Y : Type 0} (f : ℕ × X → Y) (from : ℕ) (xs : List X)
    → length (map f (enumerate_from from xs)) ≡ length xs
length-map_enumerate_from f from [] = refl
length-map_enumerate_from f from (x ∷ xs) = ap suc (length-map_enumerate_from f (from + 1) xs)

-- ---- lists that agree at each position
pub same_from_places : {X : Type 0} (xs ys : List X) → length xs ≡ length ys
    → ((k : ℕ) → k < length xs → slice_get xs k ≡ slice_get ys k) → xs ≡ ys
same_from_places [] [] size same = refl
same_from_places [] (y ∷ ys) size same = absurd (omega arith)
same_from_places (x ∷ xs) [] size same = absurd (omega arith)
same_from_places (x ∷ xs) (y ∷ ys) size same =
    ap₂ (λ z zs. z ∷ zs) (same_Some x y (same 0 (omega arith)))
    (same_from_places xs ys (omega arith) (λ k within. same (suc k) (omega arith)))
