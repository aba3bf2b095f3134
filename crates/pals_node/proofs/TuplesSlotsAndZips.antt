-- For the functions of `written_tuples` and `slots_and_input_vectors`: tuples that are written place by place or
-- cut, two lists that are gone through in pairs, and empty slots.
use Rattle.std.proofs.Common.{◌≡◌, ◌∙◌, ℕ, zero, suc, ◌+◌, ◌<◌, ◌≤◌, Bool, cond, if◌then◌else◌, nat_lt, List, [], ◌∷◌}
use Rattle.std.proofs.Common.{◌++◌, length, map, take, drop, All, Option, Some, None, slice_index_or, refl, sym, ap}
use Rattle.std.proofs.Common.{ap₂, arith, add-one}
use Rattle.std.specs.Prelude.{slice_set, zip}
use Rattle.std.specs.List.{position_from}
use Rattle.std.proofs.lemmas.List.{drop_all, length-set, take_all}
use Rattle.std.proofs.lemmas.List.Elements.{All-head, All-tail, All-cons}
use Rattle.std.proofs.lemmas.Option.{slice_get-get_or, get_or_from_slice_get}
use Rattle.pals_base.specs.declared.basic_types.PortValue.{PortValue}
use Rattle.pals_base.specs.declared.basic_types.PortValue.TheVariants.{Absent}
use Rattle.pals_base.specs.Tuples.{column, cut, with_places}
use Rattle.pals_base.proofs.ColumnsAndCutTuples.{cut-at}

-- ---- cut tuples
pub cut_place : (count at : ℕ) (tuple : List PortValue) (d : PortValue) → at < length tuple
    → (if nat_lt at count then slice_index_or tuple at Absent else Absent) ≡ slice_index_or (cut count tuple) at d
cut_place count at tuple d within =
    let same : slice_index_or tuple at Absent ≡ slice_index_or tuple at d =
    get_or_from_slice_get tuple at (slice_index_or tuple at d) Absent (slice_get-get_or tuple at d within) in
    ap (λ p. if nat_lt at count then p else Absent) same ∙ sym (cut-at count at tuple d within)

-- ---- a place of each tuple
pub length-with_places : (at : ℕ) (values : List PortValue) (tuples : List (List PortValue))
    → length (with_places at values tuples) ≡ length tuples
length-with_places at [] tuples = refl
length-with_places at (v ∷ vs) [] = refl
length-with_places at (v ∷ vs) (t ∷ ts) = ap suc (length-with_places at vs ts)

pub places-with_places : (at places : ℕ) (values : List PortValue) (tuples : List (List PortValue))
    → All (λ tuple. length tuple ≡ places) tuples → All (λ tuple. length tuple ≡ places) (with_places at values tuples)
places-with_places at places [] tuples all = all
places-with_places at places (v ∷ vs) [] all = all
places-with_places at places (v ∷ vs) (t ∷ ts) all =
    All-cons (λ tuple. length tuple ≡ places) (slice_set t at v) (with_places at vs ts)
    (length-set t at v ∙ All-head (λ tuple. length tuple ≡ places) t ts all)
    (places-with_places at places vs ts (All-tail (λ tuple. length tuple ≡ places) t ts all))

-- one more tuple has its place
more_places : (at k : ℕ) (values : List PortValue) (tuples : List (List PortValue)) (d : List PortValue) (e : PortValue)
    → k < length values
    → length values ≡ length tuples
    → slice_set (with_places at (take k values) tuples) k
    (slice_set (slice_index_or (with_places at (take k values) tuples) k d) at (slice_index_or values k e))
    ≡ with_places at (take (suc k) values) tuples
more_places at k [] tuples d e within same = absurd (omega arith)
more_places at k (v ∷ vs) [] d e within same = absurd (omega arith)
more_places at zero (v ∷ vs) (t ∷ ts) d e within same = refl
more_places at (suc k) (v ∷ vs) (t ∷ ts) d e within same =
    ap (λ us. slice_set t at v ∷ us) (more_places at k vs ts d e (omega arith) (omega arith))

pub places_more : (at k : ℕ) (values : List PortValue) (tuples : List (List PortValue)) (d : List PortValue)
    (e : PortValue)
    → k < length values → length values ≡ length tuples
    → slice_set (with_places at (take k values) tuples) k
    (slice_set (slice_index_or (with_places at (take k values) tuples) k d) at (slice_index_or values k e))
    ≡ with_places at (take (k + 1) values) tuples
places_more at k values tuples d e within same =
    more_places at k values tuples d e within same ∙ ap (λ n. with_places at (take n values) tuples) (sym (add-one k))

abbrev pub no_message : Option (List PortValue)
no_message = None

-- ---- two lists side by side
-- one more pair
pub zip_more : {X Y Z : Type 0} (f : X × Y → Z) (xs : List X) (ys : List Y) (k : ℕ) (x : X) (y : Y) → k < length xs
    → length ys ≡ length xs → x ≡ slice_index_or xs k x → y ≡ slice_index_or ys k y
    → map f (zip (take (suc k) xs) (take (suc k) ys)) ≡ map f (zip (take k xs) (take k ys)) ++ f (x, y) ∷ []
zip_more f [] ys k x y within same is_x is_y = absurd (omega arith)
zip_more f (z ∷ xs) [] k x y within same is_x is_y = absurd (omega arith)
zip_more f (z ∷ xs) (w ∷ ys) zero x y within same is_x is_y = ap₂ (λ a b. f (a, b) ∷ []) (sym is_x) (sym is_y)
zip_more f (z ∷ xs) (w ∷ ys) (suc k) x y within same is_x is_y =
    ap (λ zs. f (z, w) ∷ zs) (zip_more f xs ys k x y (omega arith) (omega arith) is_x is_y)

pub zips_more : {X Y Z : Type 0} (f : X × Y → Z) (xs : List X) (ys : List Y) (k : ℕ) (x : X) (y : Y) → k < length xs
    → length ys ≡ length xs → x ≡ slice_index_or xs k x → y ≡ slice_index_or ys k y
    → map f (zip (take (k + 1) xs) (take (k + 1) ys)) ≡ map f (zip (take k xs) (take k ys)) ++ f (x, y) ∷ []
zips_more f xs ys k x y within same is_x is_y =
    ap (λ n. map f (zip (take n xs) (take n ys))) (add-one k) ∙ zip_more f xs ys k x y within same is_x is_y

-- all pairs
pub zip_all : {X Y Z : Type 0} (f : X × Y → Z) (xs : List X) (ys : List Y) (k : ℕ) → length xs ≤ k
    → length ys ≡ length xs → map f (zip (take k xs) (take k ys)) ≡ map f (zip xs ys)
zip_all f xs ys k past same = ap₂ (λ a b. map f (zip a b)) (take_all k xs past) (take_all k ys (omega arith))

-- the pairs before a place fail the test, and then the one there passes, or none does
pub fails_more : {X Y : Type 0} (test : X × Y → Bool) (xs : List X) (ys : List Y) (from k : ℕ) (d : X) (e : Y)
    → k < length xs → length ys ≡ length xs
    → position_from test from (zip (drop k xs) (drop k ys))
    ≡ cond (test (slice_index_or xs k d, slice_index_or ys k e)) (Some from)
    (position_from test (from + 1) (zip (drop (suc k) xs) (drop (suc k) ys)))
fails_more test [] ys from k d e within same = absurd (omega arith)
fails_more test (z ∷ xs) [] from k d e within same = absurd (omega arith)
fails_more test (z ∷ xs) (w ∷ ys) from zero d e within same = refl
fails_more test (z ∷ xs) (w ∷ ys) from (suc k) d e within same =
    fails_more test xs ys from k d e (omega arith) (omega arith)

pub none_left : {X Y : Type 0} (test : X × Y → Bool) (xs : List X) (ys : List Y) (from k : ℕ) → length xs ≤ k
    → position_from test from (zip (drop k xs) (drop k ys)) ≡ None
none_left test xs ys from k past = ap (λ l. position_from test from (zip l (drop k ys))) (drop_all k xs past)

-- ---- empty slots
more_empty : {X : Type 0} (xs : List X) (k : ℕ) → k < length xs
    → map (λ (_ : X). no_message) (take k xs) ++ no_message ∷ [] ≡ map (λ (_ : X). no_message) (take (suc k) xs)
more_empty [] k within = absurd (omega arith)
more_empty (x ∷ xs) zero within = refl
more_empty (x ∷ xs) (suc k) within = ap (λ slots. no_message ∷ slots) (more_empty xs k (omega arith))

abbrev emptied : {X : Type 0} → List X → ℕ → List (Option (List PortValue))
emptied {X} xs n = map (λ (_ : X). no_message) (take n xs)

pub empty_more : {X : Type 0} (xs : List X) (k : ℕ) → k < length xs
    → map (λ (_ : X). no_message) (take k xs) ++ no_message ∷ [] ≡ map (λ (_ : X). no_message) (take (k + 1) xs)
empty_more xs k within = more_empty xs k within ∙ ap (emptied xs) (sym (add-one k))

-- each of them is
pub empty_at : {X : Type 0} (xs : List X) (k : ℕ) → k < length xs
    → no_message ≡ slice_index_or (map (λ (_ : X). no_message) xs) k no_message
empty_at [] k within = refl
empty_at (x ∷ xs) zero within = refl
empty_at (x ∷ xs) (suc k) within = empty_at xs k (omega arith)

-- a column of the results of a function
pub column_of : {X : Type 0} (f : X → List PortValue) (at : ℕ) (xs : List X)
    → column at (map f xs) ≡ map (λ x. slice_index_or (f x) at Absent) xs
column_of f at [] = refl
column_of f at (x ∷ xs) = ap (λ ports. slice_index_or (f x) at Absent ∷ ports) (column_of f at xs)
