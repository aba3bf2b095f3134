-- The list that a loop over numbered elements has built so far, and with one more element.
use Rattle.std.proofs.Common.{◌≡◌, ℕ, ◌+◌, ◌<◌, List, [], ◌∷◌, ◌++◌, length, map, take, get_or, Option, Some, ap, sym}
use Rattle.std.proofs.Common.{◌∙◌, append_assoc, arith}
use Rattle.std.specs.Prelude.{flat_map, slice_get}
use Rattle.std.specs.List.{enumerate_from}
use Rattle.std.proofs.lemmas.List.{append-nil, length-map, map-append}
use Rattle.std.proofs.lemmas.Grind.{flat_map-append}
use Rattle.std.proofs.lemmas.Option.{slice_get-get_or, get_or_from_slice_get}
use Rattle.list_lemmas.proofs.ListOperations.{enumerate_from-push, length-take_within}
use Rattle.annex_resolve.proofs.MappedLists.{map_next}
use Rattle.annex_resolve.proofs.ResolvedTermsAndSums.{take_next}

-- the number of the next element is the number of earlier ones
numbered_more : {A : Type 0} (xs more : List A) (i : ℕ) (x : A) → more ≡ xs ++ x ∷ [] → length xs ≡ i
    → enumerate_from 0 more ≡ enumerate_from 0 xs ++ (i, x) ∷ []
numbered_more xs more i x pushed long =
    let e : 0 + length xs ≡ i = omega (arith, long) in
    ap (enumerate_from 0) pushed ∙ enumerate_from-push 0 xs x ∙ ap (λ n. enumerate_from 0 xs ++ (n, x) ∷ []) e

pub numbers_next : {A B : Type 0} (v : A → B) (xs : List A) (i : ℕ) (x : A) → i < length xs → x ≡ get_or xs i x
    → enumerate_from 0 (map v (take (i + 1) xs)) ≡ enumerate_from 0 (map v (take i xs)) ++ (i, v x) ∷ []
numbers_next v xs i x within is =
    let h = length-take_within xs i within in
    numbered_more (map v (take i xs)) (map v (take (i + 1) xs)) i (v x) (map_next v xs i x within is) (rw length-map h)

-- ---- one more element by its number
pub next_numbered : {A : Type 0} (xs : List A) (i : ℕ) (x : A) → i < length xs → x ≡ get_or xs i x
    → enumerate_from 0 (take (i + 1) xs) ≡ enumerate_from 0 (take i xs) ++ (i, x) ∷ []
next_numbered xs i x within is =
    numbered_more (take i xs) (take (i + 1) xs) i x (take_next xs i x within is) (length-take_within xs i within)

-- the element at a number within a list
pub record At {A : Type 0} (xs : List A) (i : ℕ) : Type 0 where
  pub value : A
  pub there : slice_get xs i ≡ Some value
  pub is : value ≡ get_or xs i value

pub standing_at : {A : Type 0} (xs : List A) (i : ℕ) → i < length xs → At xs i
standing_at [] i within = absurd (omega (arith, within))
standing_at (z ∷ zs) i within =
    let there = slice_get-get_or (z ∷ zs) i z within in
    record {
      value = get_or (z ∷ zs) i z;
      there = there;
      is = sym (get_or_from_slice_get (z ∷ zs) i (get_or (z ∷ zs) i z) (get_or (z ∷ zs) i z) there);
    }

-- its image, if it is looked up by its number
pub made_next : {A B : Type 0} (f : A → B) (g : Option A → B) (xs : List A) (i : ℕ) (made more : List B) (y : B)
    → ((x : A) → g (Some x) ≡ f x) → i < length xs
    → made ≡ map f (take i xs) → y ≡ g (slice_get xs i) → more ≡ made ++ y ∷ [] → more ≡ map f (take (i + 1) xs)
made_next f g xs i made more y same within so_far is pushed =
    let at = standing_at xs i within in
    pushed ∙ ap (λ l. l ++ y ∷ []) so_far ∙ ap (λ v. map f (take i xs) ++ v ∷ []) (is ∙ ap g at.there ∙ same at.value)
    ∙ sym (map_next f xs i at.value within at.is)

-- the findings of one more element
pub one_more : {A B C : Type 0} (f : ℕ × B → List C) (v : A → B) (xs : List A) (i : ℕ) (x : A) (b m a : List C)
    → i < length xs → x ≡ get_or xs i x
    → m ≡ b ++ flat_map f (enumerate_from 0 (map v (take i xs))) → a ≡ m ++ f (i, v x)
    → a ≡ b ++ flat_map f (enumerate_from 0 (map v (take (i + 1) xs)))
one_more f v xs i x b m a within is before added =
    let before_all = flat_map f (enumerate_from 0 (map v (take i xs))) in
    let whole : flat_map f (enumerate_from 0 (map v (take (i + 1) xs))) ≡ before_all ++ f (i, v x) =
    ap (flat_map f) (numbers_next v xs i x within is)
    ∙ flat_map-append f (enumerate_from 0 (map v (take i xs))) ((i, v x) ∷ [])
    ∙ ap (λ l. before_all ++ l) (append-nil (f (i, v x))) in
    added ∙ ap (λ l. l ++ f (i, v x)) before ∙ append_assoc b before_all (f (i, v x)) ∙ ap (λ l. b ++ l) (sym whole)

-- the image of one more element
pub entries_next : {A C : Type 0} (f : ℕ × A → C) (xs : List A) (i : ℕ) (x : A) (b m a : List C) → i < length xs
    → x ≡ get_or xs i x
    → m ≡ b ++ map f (enumerate_from 0 (take i xs)) → a ≡ m ++ f (i, x) ∷ []
    → a ≡ b ++ map f (enumerate_from 0 (take (i + 1) xs))
entries_next f xs i x b m a within is before added =
    let before_all = map f (enumerate_from 0 (take i xs)) in
    let whole : map f (enumerate_from 0 (take (i + 1) xs)) ≡ before_all ++ f (i, x) ∷ [] =
    ap (map f) (next_numbered xs i x within is) ∙ map-append f (enumerate_from 0 (take i xs)) ((i, x) ∷ []) in
    added ∙ ap (λ l. l ++ f (i, x) ∷ []) before ∙ append_assoc b before_all (f (i, x) ∷ [])
    ∙ ap (λ l. b ++ l) (sym whole)
