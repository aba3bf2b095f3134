-- Loops over two lists together, with numbered items; and the properties of the items so far.
use Rattle.std.proofs.Common.{◌≡◌, ℕ, ◌+◌, ◌<◌, ◌≤◌, min, List, length, take, get_or, All, sym, ap₂, ◌∙◌, subst, arith}
use Rattle.std.specs.List.{zip, enumerate_from}
use Rattle.std.proofs.lemmas.List.{take_all}
use Rattle.std.proofs.lemmas.List.Elements.{All-more}
use Rattle.std.proofs.lemmas.List.FromFn.{length-enumerate_from, get_or-enumerate_from}
use Rattle.std.proofs.lemmas.Slice.Zip.{length-zip, get_or-zip}

pub pair_within : {A B : Type 0} (xs : List A) (ys : List B) (n : ℕ) → n < length xs → n < length ys
    → n < length (zip xs ys)
pair_within xs ys n left right = omega (arith, left, right, length-zip xs ys)

pub pair_at : {A B : Type 0} (xs : List A) (ys : List B) (n : ℕ) (a : A) (b : B) → n < length xs → n < length ys
    → ((d : A) → a ≡ get_or xs n d) → ((d : B) → b ≡ get_or ys n d)
    → (a, b) ≡ get_or (zip xs ys) n (a, b)
pair_at xs ys n a b left right is so = ap₂ (λ x y. (x, y)) (is a) (so b) ∙ sym (get_or-zip xs ys n (a, b) left right)

pub pairs_end : {A B : Type 0} (xs : List A) (ys : List B) (n : ℕ) → n ≡ min (length xs) (length ys)
    → length (zip xs ys) ≤ n
pairs_end xs ys n all = omega (arith, all, length-zip xs ys)

pub numbered_within : {X : Type 0} (xs : List X) (n : ℕ) → n < length xs → n < length (enumerate_from 0 xs)
numbered_within xs n within = omega (arith, within, length-enumerate_from 0 xs)

pub numbered_at : {X : Type 0} (xs : List X) (n : ℕ) (x : X) → n < length xs → x ≡ get_or xs n x
    → (n, x) ≡ get_or (enumerate_from 0 xs) n (n, x)
numbered_at xs n x within is =
    let same : n ≡ 0 + n = omega arith in
    ap₂ (λ k y. (k, y)) same is ∙ sym (get_or-enumerate_from 0 xs n (n, x) within)

pub numbered_end : {X : Type 0} (xs : List X) (n : ℕ) → length xs ≤ n → length (enumerate_from 0 xs) ≤ n
numbered_end xs n behind = omega (arith, behind, length-enumerate_from 0 xs)

pub holds_turn : {X : Type 0} (P : X → Type 0) (xs : List X) (i : ℕ) (x : X) → i < length xs → x ≡ get_or xs i x
    → All P (take i xs) → P x → All P (take (i + 1) xs)
holds_turn P xs i x within is before here = All-more P xs i x within before (subst P is here)

pub holds_all : {X : Type 0} (P : X → Type 0) (xs : List X) (i : ℕ) → length xs ≤ i → All P (take i xs) → All P xs
holds_all P xs i behind before = subst (All P) (take_all i xs behind) before
