-- The elements of a list by their positions: in concatenated, cut, mapped, zipped and numbered lists and in constant
-- lists; and the first position that passes a test.
use Rattle.std.proofs.Common.{◌≡◌, ◌∙◌, ℕ, zero, suc, ◌+◌, ◌-◌, ◌<◌, Bool, true, false, cond, List, [], ◌∷◌, ◌++◌, map}
use Rattle.std.proofs.Common.{length, slice_get, get_or, replicate, Contains, Option, Some, refl, ap, ap₂, subst, arith}
use Rattle.std.proofs.Common.{sym, add-zero, take}
use Rattle.std.specs.Prelude.{flat_map, zip, option_map}
use Rattle.std.specs.List.{position_from, enumerate_from}
use Rattle.std.proofs.lemmas.List.{length_push}
use Rattle.std.proofs.lemmas.Option.{slice_get_within, slice_get-get_or, slice_get-map, get_or_from_slice_get}
use Rattle.std.proofs.lemmas.Option.{same_Some, none-some}
use Rattle.list_lemmas.proofs.ListOperations.{append_is_nil_left, append_is_nil_right}

-- ---- a position in range has an element
pub slice_get-some : {X : Type 0} (xs : List X) (i : ℕ) → i < length xs → (x : X) × (slice_get xs i ≡ Some x)
slice_get-some [] i within = absurd (omega arith)
slice_get-some (x ∷ xs) zero within = (x, refl)
slice_get-some (x ∷ xs) (suc i) within = slice_get-some xs i (omega arith)

pub Contains-from_slice_get : {X : Type 0} (xs : List X) (i : ℕ) (x : X) → slice_get xs i ≡ Some x → Contains xs x
Contains-from_slice_get xs i x is = (i, slice_get_within xs i x is, get_or_from_slice_get xs i x x is)

pub slice_get-from_Contains : {X : Type 0} (xs : List X) (x : X) → (h : Contains xs x) → slice_get xs h.0 ≡ Some x
slice_get-from_Contains xs x h = slice_get-get_or xs h.0 x h.1 ∙ ap Some h.2

-- ---- concatenated lists
pub slice_get-append_left : {X : Type 0} (xs ys : List X) (k : ℕ) (x : X) → slice_get xs k ≡ Some x
    → slice_get (xs ++ ys) k ≡ Some x
slice_get-append_left [] ys k x is = absurd (cc)
slice_get-append_left (z ∷ xs) ys zero x is = is
slice_get-append_left (z ∷ xs) ys (suc k) x is = slice_get-append_left xs ys k x is

pub slice_get-push : {X : Type 0} (xs : List X) (x : X) → slice_get (xs ++ x ∷ []) (length xs) ≡ Some x
slice_get-push [] x = refl
slice_get-push (z ∷ xs) x = slice_get-push xs x

pub slice_get-last : {X : Type 0} (xs : List X) (x : X)
    → slice_get (xs ++ x ∷ []) (length (xs ++ x ∷ []) - 1) ≡ Some x
slice_get-last xs x =
    let at : length (xs ++ x ∷ []) - 1 ≡ length xs = let long = length_push xs x in omega (arith, long) in
    ap (slice_get (xs ++ x ∷ [])) at ∙ slice_get-push xs x

pub slice_get-take : {X : Type 0} (n : ℕ) (xs : List X) (k : ℕ) → k < n → slice_get (take n xs) k ≡ slice_get xs k
slice_get-take zero xs k below = absurd (omega arith)
slice_get-take (suc n) [] k below = refl
slice_get-take (suc n) (x ∷ xs) zero below = refl
slice_get-take (suc n) (x ∷ xs) (suc k) below = slice_get-take n xs k (omega arith)

-- ---- mapped lists
pub slice_get-map_some : {X Y : Type 0} (f : X → Y) (xs : List X) (k : ℕ) (x : X) → slice_get xs k ≡ Some x
    → slice_get (map f xs) k ≡ Some (f x)
slice_get-map_some f xs k x is = slice_get-map f xs k ∙ ap (option_map f) is

pub get_or-map_some : {X Y : Type 0} (f : X → Y) (xs : List X) (k : ℕ) (x : X) (d : Y) → slice_get xs k ≡ Some x
    → get_or (map f xs) k d ≡ f x
get_or-map_some f xs k x d is = get_or_from_slice_get (map f xs) k (f x) d (slice_get-map_some f xs k x is)

pub slice_get-map_parts : {X Y : Type 0} (f : X → Y) (xs : List X) (k : ℕ) (y : Y) → slice_get (map f xs) k ≡ Some y
    → (x : X) × (slice_get xs k ≡ Some x) × (f x ≡ y)
slice_get-map_parts f [] k y is = absurd (cc)
slice_get-map_parts f (x ∷ xs) zero y is = (x, refl, same_Some (f x) y is)
slice_get-map_parts f (x ∷ xs) (suc k) y is = slice_get-map_parts f xs k y is

pub flat_map-nil_at : {X Y : Type 0} (f : X → List Y) (xs : List X) (n : ℕ) (x : X) → flat_map f xs ≡ []
    → slice_get xs n ≡ Some x → f x ≡ []
flat_map-nil_at f [] n x none is = absurd (cc is)
flat_map-nil_at f (y ∷ xs) zero x none is =
    let same : y ≡ x = cc is in
    subst (λ z. f z ≡ []) same (append_is_nil_left (f y) (flat_map f xs) none)
flat_map-nil_at f (y ∷ xs) (suc n) x none is =
    flat_map-nil_at f xs n x (append_is_nil_right (f y) (flat_map f xs) none) is

-- ---- constant lists, at each position and past the last
pub get_or-map_constant : {X Y : Type 0} (y : Y) (xs : List X) (k : ℕ) → get_or (map (λ (_ : X). y) xs) k y ≡ y
get_or-map_constant y [] k = refl
get_or-map_constant y (x ∷ xs) zero = refl
get_or-map_constant y (x ∷ xs) (suc k) = get_or-map_constant y xs k

pub get_or-replicate_constant : {X : Type 0} (x : X) (n k : ℕ) → get_or (replicate n x) k x ≡ x
get_or-replicate_constant x zero k = refl
get_or-replicate_constant x (suc n) zero = refl
get_or-replicate_constant x (suc n) (suc k) = get_or-replicate_constant x n k

-- ---- two lists, element by element
pub slice_get-zip : {X Y : Type 0} (xs : List X) (ys : List Y) (k : ℕ) (x : X) (y : Y) → slice_get xs k ≡ Some x
    → slice_get ys k ≡ Some y → slice_get (zip xs ys) k ≡ Some (x, y)
slice_get-zip [] ys k x y is_x is_y = absurd (cc)
slice_get-zip (z ∷ xs) [] k x y is_x is_y = absurd (cc)
slice_get-zip (z ∷ xs) (w ∷ ys) zero x y is_x is_y =
    let one : z ≡ x = cc in
    let two : w ≡ y = cc in
    ap₂ (λ a b. Some (a, b)) one two
slice_get-zip (z ∷ xs) (w ∷ ys) (suc k) x y is_x is_y = slice_get-zip xs ys k x y is_x is_y

-- ---- numbered elements
pub slice_get-enumerate_from : {X : Type 0} (from : ℕ) (xs : List X) (k n : ℕ) (x : X) → n ≡ from + k
    → slice_get xs k ≡ Some x → slice_get (enumerate_from from xs) k ≡ Some (n, x)
slice_get-enumerate_from from [] k n x at is = absurd (cc)
slice_get-enumerate_from from (y ∷ ys) zero n x at is =
    let same : y ≡ x = cc in
    let here : from ≡ n = omega arith in
    ap₂ (λ m z. Some (m, z)) here same
slice_get-enumerate_from from (y ∷ ys) (suc k) n x at is = slice_get-enumerate_from (from + 1) ys k n x (omega arith) is

pub slice_get-map_enumerate : {X Y : Type 0} (f : ℕ × X → Y) (xs : List X) (k : ℕ) (x : X) → slice_get xs k ≡ Some x
    → slice_get (map f (enumerate_from 0 xs)) k ≡ Some (f (k, x))
slice_get-map_enumerate f xs k x is =
    slice_get-map_some f (enumerate_from 0 xs) k (k, x) (slice_get-enumerate_from 0 xs k k x (omega arith) is)

-- ---- the first position that passes a test
position_or_past : (b : Bool) (k m n : ℕ) (rest : Option ℕ) → (rest ≡ Some m → m < k + 1 + n)
    → cond b (Some k) rest ≡ Some m → m < k + suc n
position_or_past true k m n rest later is = let same = same_Some k m is in omega arith
position_or_past false k m n rest later is = let least = later is in omega arith

pub position_from-within : {X : Type 0} (test : X → Bool) (k m : ℕ) (xs : List X) → position_from test k xs ≡ Some m
    → m < k + length xs
position_from-within test k m [] is = absurd (none-some m is)
position_from-within test k m (x ∷ xs) is =
    position_or_past (test x) k m (length xs) (position_from test (k + 1) xs)
    (position_from-within test (k + 1) m xs) is

pub position_from-at : {X : Type 0} (test : X → Bool) (xs : List X) (from n : ℕ) (x : X) → slice_get xs n ≡ Some x
    → test x ≡ true → ((k : ℕ) (y : X) → k < n → slice_get xs k ≡ Some y → test y ≡ false)
    → position_from test from xs ≡ Some (from + n)
position_from-at test [] from n x is_x passes before = absurd (cc)
position_from-at test (y ∷ ys) from zero x is_x passes before =
    let here : test y ≡ true = let same : y ≡ x = cc in ap test same ∙ passes in
    ap (λ b. cond b (Some from) (position_from test (from + 1) ys)) here ∙ ap Some (sym (add-zero from))
position_from-at test (y ∷ ys) from (suc n) x is_x passes before =
    ap (λ b. cond b (Some from) (position_from test (from + 1) ys)) (before 0 y (omega arith) refl)
    ∙ position_from-at test ys (from + 1) n x is_x passes (λ k z below is_z. before (suc k) z (omega arith) is_z)
    ∙ ap Some (omega arith)
