-- Lists that are tables of a function over numbers: which are the same, and their elements by place.
use Rattle.std.proofs.Common.{◌≡◌, ◌∙◌, ℕ, zero, suc, ◌+◌, List, [], ◌∷◌, map, Some, None, slice_get, slice_index_or}
use Rattle.std.proofs.Common.{refl, sym, ap, ap₂, arith}
use Rattle.std.specs.List.{enumerate_from}
use Rattle.pals_base.specs.UpwardNumbers.{upwards}

-- ---- numbers
get_from_same : {X : Type 0} (f g : ℕ → X) (from n at place : ℕ) → place ≡ from + at → f place ≡ g place
    → slice_get (map f (upwards from n)) at ≡ slice_get (map g (upwards from n)) at
get_from_same f g from zero at place is same = refl
get_from_same f g from (suc n) zero place is same =
    let here : from ≡ place = omega arith in
    ap (λ k. Some (f k)) here ∙ ap Some same ∙ sym (ap (λ k. Some (g k)) here)
get_from_same f g from (suc n) (suc at) place is same = get_from_same f g (suc from) n at place (omega arith) same

pub get_upwards_same : {X : Type 0} (f g : ℕ → X) (n at : ℕ) → f at ≡ g at
    → slice_get (map f (upwards 0 n)) at ≡ slice_get (map g (upwards 0 n)) at
get_upwards_same f g n at same = get_from_same f g 0 n at at (omega arith) same

-- ---- elements with their numbers
abbrev pub table : {X Y : Type 0} → (ℕ → X → Y) → ℕ → List X → List Y
table f from xs = map (λ numbered. f numbered.0 numbered.1) (enumerate_from from xs)

pub table_at : {X Y : Type 0} (f : ℕ → X → Y) (from : ℕ) (xs : List X) (k place : ℕ) (x : X) (d : Y) → place ≡ from + k
    → slice_get xs k ≡ Some x → slice_index_or (table f from xs) k d ≡ f place x
table_at f from [] k place x d at is = absurd (cc)
table_at f from (y ∷ xs) zero place x d at is =
    let here : from ≡ place = omega arith in
    let one : y ≡ x = cc in
    ap (λ n. f n y) here ∙ ap (f place) one
table_at f from (y ∷ xs) (suc k) place x d at is = table_at f (from + 1) xs k place x d (omega arith) is

pub table_past : {X Y : Type 0} (f : ℕ → X → Y) (from : ℕ) (xs : List X) (k : ℕ) (d : Y) → slice_get xs k ≡ None
    → slice_index_or (table f from xs) k d ≡ d
table_past f from [] k d is = refl
table_past f from (y ∷ xs) zero d is = absurd (cc)
table_past f from (y ∷ xs) (suc k) d is = table_past f (from + 1) xs k d is

table_from_same : {X Y : Type 0} (f g : ℕ → X → Y) (from : ℕ) (xs : List X)
    → ((k place : ℕ) (x : X) → place ≡ from + k → slice_get xs k ≡ Some x → f place x ≡ g place x)
    → table f from xs ≡ table g from xs
table_from_same f g from [] same = refl
table_from_same f g from (x ∷ xs) same =
    ap₂ (λ y ys. y ∷ ys) (same 0 from x (omega arith) refl)
    (table_from_same f g (from + 1) xs (λ k place z at is. same (suc k) place z (omega arith) is))

pub table_same : {X Y : Type 0} (f g : ℕ → X → Y) (xs : List X)
    → ((k : ℕ) (x : X) → slice_get xs k ≡ Some x → f k x ≡ g k x) → table f 0 xs ≡ table g 0 xs
table_same f g xs same =
    table_from_same f g 0 xs (λ k place x at is.
    let here : k ≡ place = omega arith in
    sym (ap (λ n. f n x) here) ∙ same k x is ∙ ap (λ n. g n x) here)
