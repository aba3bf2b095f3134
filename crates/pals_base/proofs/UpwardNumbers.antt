-- Numbers that count up: their number, the number at an index, the image under a map, and one number more.
use Rattle.std.proofs.Common.{◌≡◌, ℕ, ◌+◌, ◌-◌, ◌<◌, ◌≤◌, zero, suc, Bool, true, List, [], ◌∷◌, ◌++◌, length, map, All}
use Rattle.std.proofs.Common.{get_or, slice_get, Some, refl, ap, ap₂, ◌∙◌, sym, arith, add-one, zero-add}
use Rattle.std.specs.Prelude.{flat_map, option_map}
use Rattle.std.specs.List.{list_all}
use Rattle.std.proofs.lemmas.Bool.{and_from}
use Rattle.std.proofs.lemmas.List.{length-map, map-append}
use Rattle.std.proofs.lemmas.Option.{slice_get-map, get_or_from_slice_get}
use Rattle.std.proofs.lemmas.List.Elements.{All-nil, All-cons}
use Rattle.pals_base.specs.UpwardNumbers.{upwards}

-- ---- the number of elements
pub length-upwards : (from n : ℕ) → length (upwards from n) ≡ n
length-upwards from zero = refl
length-upwards from (suc n) = ap suc (length-upwards (suc from) n)

pub length-map_upwards : {A : Type 0} (f : ℕ → A) (from n : ℕ) → length (map f (upwards from n)) ≡ n
length-map_upwards f from n = length-map (upwards from n) f ∙ length-upwards from n

-- ---- the element at an index
at_from : (from n k : ℕ) → k < n → slice_get (upwards from n) k ≡ Some (from + k)
at_from from zero k within = absurd (omega arith)
at_from from (suc n) zero within = ap Some (omega arith)
at_from from (suc n) (suc k) within = at_from (suc from) n k (omega arith) ∙ ap Some (omega arith)

pub slice_get-upwards : (n k : ℕ) → k < n → slice_get (upwards 0 n) k ≡ Some k
slice_get-upwards n k within = at_from 0 n k within ∙ ap Some (omega arith)

pub slice_get-map_upwards : {A : Type 0} (f : ℕ → A) (n k : ℕ) → k < n → slice_get (map f (upwards 0 n)) k ≡ Some (f k)
slice_get-map_upwards f n k within = slice_get-map f (upwards 0 n) k ∙ ap (option_map f) (slice_get-upwards n k within)

pub get_or-map_upwards : {A : Type 0} (f : ℕ → A) (n k : ℕ) (d : A) → k < n → get_or (map f (upwards 0 n)) k d ≡ f k
get_or-map_upwards f n k d within =
    get_or_from_slice_get (map f (upwards 0 n)) k (f k) d (slice_get-map_upwards f n k within)

pub upwards_is : (from n k x : ℕ) → slice_get (upwards from n) k ≡ Some x → (x ≡ from + k) × (k < n)
upwards_is from zero k x is = absurd (cc)
upwards_is from (suc n) zero x is = let same : from ≡ x = cc in (omega arith, omega arith)
upwards_is from (suc n) (suc k) x is = let later = upwards_is (suc from) n k x is in let a = later.0 in
    let b = later.1 in (omega arith, omega arith)

-- ---- the image under a map
pub map_upwards_same : {A : Type 0} (f g : ℕ → A) (from n : ℕ) → ((k : ℕ) → from ≤ k → k < from + n → f k ≡ g k)
    → map f (upwards from n) ≡ map g (upwards from n)
map_upwards_same f g from zero same = refl
map_upwards_same f g from (suc n) same =
    ap₂ (λ y ys. y ∷ ys) (same from (omega arith) (omega arith))
    (map_upwards_same f g (suc from) n (λ k above below. same k (omega arith) (omega arith)))

pub flat_map_upwards_same : {A : Type 0} (f g : ℕ → List A) (from n : ℕ)
    → ((k : ℕ) → from ≤ k → k < from + n → f k ≡ g k) → flat_map f (upwards from n) ≡ flat_map g (upwards from n)
flat_map_upwards_same f g from zero same = refl
flat_map_upwards_same f g from (suc n) same =
    ap₂ (λ x xs. x ++ xs) (same from (omega arith) (omega arith))
    (flat_map_upwards_same f g (suc from) n (λ k above below. same k (omega arith) (omega arith)))

pub list_all_upwards : (p : ℕ → Bool) (from n : ℕ) → ((k : ℕ) → from ≤ k → k < from + n → p k ≡ true)
    → list_all p (upwards from n) ≡ true
list_all_upwards p from zero each = refl
list_all_upwards p from (suc n) each =
    and_from (p from) (list_all p (upwards (suc from) n)) (each from (omega arith) (omega arith))
    (list_all_upwards p (suc from) n (λ k low high. each k (omega arith) (omega arith)))

pub All-map_upwards : {A : Type 0} (P : A → Type 0) (f : ℕ → A) (from n : ℕ)
    → ((k : ℕ) → from ≤ k → k < from + n → P (f k)) → All P (map f (upwards from n))
All-map_upwards P f from zero each = All-nil P
All-map_upwards P f from (suc n) each =
    All-cons P (f from) (map f (upwards (suc from) n)) (each from (omega arith) (omega arith))
    (All-map_upwards P f (suc from) n (λ k above below. each k (omega arith) (omega arith)))

-- ---- one number more
-- one more at the end
pub upwards-more : (from n : ℕ) → upwards from (suc n) ≡ upwards from n ++ (from + n) ∷ []
upwards-more from zero = ap (λ k. k ∷ []) (omega arith)
upwards-more from (suc n) =
    ap (λ rest. from ∷ rest) (upwards-more (suc from) n ∙ ap (λ k. upwards (suc from) n ++ k ∷ []) (omega arith))

pub map_upwards_more : {A : Type 0} (f : ℕ → A) (n : ℕ) → map f (upwards 0 (n + 1)) ≡ map f (upwards 0 n) ++ f n ∷ []
map_upwards_more f n =
    ap (λ k. map f (upwards 0 k)) (add-one n)
    ∙ ap (map f) (upwards-more 0 n)
    ∙ map-append f (upwards 0 n) ((0 + n) ∷ [])
    ∙ ap (λ k. map f (upwards 0 n) ++ f k ∷ []) (zero-add n)

-- the first of the remaining numbers
pub upwards_next : (at n : ℕ) → at < n → upwards at (n - at) ≡ at ∷ upwards (at + 1) (n - (at + 1))
upwards_next at n within =
    let e : n - at ≡ suc (n - (at + 1)) = omega arith in
    ap (upwards at) e ∙ ap (λ k. at ∷ upwards k (n - (at + 1))) (sym (add-one at))
