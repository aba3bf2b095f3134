-- Lists with an element for each component, and their elements.
use Rattle.std.proofs.Common.{◌≡◌, ◌∙◌, ℕ, zero, suc, ◌<◌, List, [], ◌∷◌, length, map, set, slice_get, slice_index_or}
use Rattle.std.proofs.Common.{Some, refl, sym, ap, arith}
use Rattle.std.specs.List.{enumerate_from}
use Rattle.std.proofs.lemmas.List.{length-map, get_or-map}
use Rattle.std.proofs.lemmas.Option.{slice_get_within, slice_get_read, get_or_from_slice_get}
use Rattle.list_lemmas.proofs.ListOperations.{length-map_enumerate_from}

-- ---- the read elements
-- an element of a list that is another one
pub entry_at : {Y : Type 0} (table wanted : List Y) (k : ℕ) (y w : Y) → table ≡ wanted → slice_get wanted k ≡ Some w
    → y ≡ slice_index_or table k y → y ≡ w
entry_at table wanted k y w same is item = item ∙ get_or_from_slice_get table k w y (ap (λ t. slice_get t k) same ∙ is)

-- the size of an element, where the sizes are known
pub sized_at : {X S : Type 0} (size : X → S) (xs : List X) (wanted : List S) (k : ℕ) (x : X) (s : S)
    → map size xs ≡ wanted → slice_get wanted k ≡ Some s → x ≡ slice_index_or xs k x → size x ≡ s
sized_at size xs wanted k x s same is item =
    let within : k < length xs = omega (arith, slice_get_within wanted k s is, ap length same, length-map xs size) in
    ap size item ∙ sym (get_or-map size xs k x (size x) within) ∙ ap (λ t. slice_index_or t k (size x)) same
    ∙ get_or_from_slice_get wanted k s (size x) is

pub count_of_sized : {X S : Type 0} (size : X → S) (xs : List X) (wanted : List S) → map size xs ≡ wanted
    → length xs ≡ length wanted
count_of_sized size xs wanted same = sym (length-map xs size) ∙ ap length same

-- ---- the written elements
pub slice_get-set_same : {X : Type 0} (xs : List X) (i : ℕ) (y : X) → i < length xs → slice_get (set xs i y) i ≡ Some y
slice_get-set_same [] i y within = absurd (omega arith)
slice_get-set_same (x ∷ xs) zero y within = refl
slice_get-set_same (x ∷ xs) (suc i) y within = slice_get-set_same xs i y (omega arith)

pub slice_get-set_other : {X : Type 0} (xs : List X) (i k : ℕ) (y : X) → k < i
    → slice_get (set xs i y) k ≡ slice_get xs k
slice_get-set_other [] i k y other = refl
slice_get-set_other (x ∷ xs) zero k y other = absurd (omega arith)
slice_get-set_other (x ∷ xs) (suc i) zero y other = refl
slice_get-set_other (x ∷ xs) (suc i) (suc k) y other = slice_get-set_other xs i k y (omega arith)

-- ---- places that are there
pub within_table : {X Y : Type 0} (f : ℕ × X → Y) (table : List Y) (xs items : List X) (k : ℕ)
    → table ≡ map f (enumerate_from 0 xs) → items ≡ xs → k < length items → k < length table
within_table f table xs items k same is within =
    omega (arith, ap length same, length-map_enumerate_from f 0 xs, ap length is)

pub within_sized : {X S Y : Type 0} (size : X → S) (xs : List X) (f : ℕ × Y → S) (ys items : List Y) (k : ℕ)
    → map size xs ≡ map f (enumerate_from 0 ys) → items ≡ ys → k < length items → k < length xs
within_sized size xs f ys items k same is within =
    omega (arith, length-map xs size, ap length same, length-map_enumerate_from f 0 ys, ap length is)

-- the element of a loop
pub item_at : {X : Type 0} (xs items : List X) (k : ℕ) (x : X) → items ≡ xs → k < length items
    → x ≡ slice_index_or items k x → slice_get xs k ≡ Some x
item_at xs items k x same within is =
    ap (λ l. slice_get l k) (sym same) ∙ slice_get_read items (length items) k x refl within is

pub within_same : {a n m k : ℕ} → a < n → m ≡ k → k ≡ n → a < m
within_same within same count = omega arith
