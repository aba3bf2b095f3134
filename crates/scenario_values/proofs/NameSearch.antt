-- Name look-up in a list of names: its result, and that the tables of names have the same result.
use Rattle.std.proofs.Common.{◌≡◌, ℕ, suc, ◌<◌, ◌+◌, Bool, true, false, cond, List, [], ◌∷◌, length, map, drop, get_or}
use Rattle.std.proofs.Common.{Some, None, slice_get, refl, sym, ap, ◌∙◌, arith, bytes_eq, string_bytes, String, Global}
use Rattle.std.proofs.Common.{BTreeMap}
use Rattle.std.specs.Prelude.{position, find}
use Rattle.std.specs.List.{position_from}
use Rattle.std.specs.BTreeMap as tree
use Rattle.std.specs.BTreeMap.{get_by_text}
use Rattle.std.specs.Cmp.Lexicographic.{slice_cmp}
use Rattle.std.specs.Ordering.{nat_cmp}
use Rattle.std.specs.String.{string_cmp}
use Rattle.std.proofs.lemmas.Grind.{common_steps}
use Rattle.std.proofs.lemmas.Iterator.Adapters.{position_from-zero}
use Rattle.std.proofs.lemmas.Map.Text.{btree_map_updates_text}
use Rattle.std.proofs.lemmas.Option.{slice_get_within}
use Rattle.std.proofs.lemmas.Slice.Eq.{bytes_eq-Decides}
use Rattle.std.specs.Cmp.{both_ways}
use Rattle.pals_model.proofs.FirstMatches.{found_at}
use Rattle.scenario_values.specs.proof.NameTables.{Numbers}

-- a found name is in the list
pub within : {X : Type 0} (test : X → Bool) (xs : List X) (n : ℕ) → position test xs ≡ Some n → n < length xs
within test xs n found = let at = found_at test xs n found in slice_get_within xs n at.0 at.1

-- a place in a list that was made from another
from_map : {X Y : Type 0} (f : X → Y) (test : Y → Bool) (xs : List X) (i : ℕ)
    → position_from test i (map f xs) ≡ position_from (λ x. test (f x)) i xs
from_map f test [] i = refl
from_map f test (x ∷ xs) i = ap (λ r. cond (test (f x)) (Some i) r) (from_map f test xs (i + 1))

pub position_map : {X Y : Type 0} (f : X → Y) (test : Y → Bool) (xs : List X)
    → position_from test 0 (map f xs) ≡ position (λ x. test (f x)) xs
position_map f test xs = from_map f test xs 0 ∙ sym (position_from-zero (λ x. test (f x)) xs)

pub position_zero : {X : Type 0} (test : X → Bool) (xs : List X) → position_from test 0 xs ≡ position test xs
position_zero test xs = sym (position_from-zero test xs)

-- the first element that passes is the one at that place
found_case : {X : Type 0} (test : X → Bool) (x : X) (xs : List X) (i n : ℕ) (b : Bool)
    → cond b (Some i) (position_from test (i + 1) xs) ≡ Some n
    → (position_from test (i + 1) xs ≡ Some n → (k : ℕ) × (n ≡ i + 1 + k) × (find test xs ≡ slice_get xs k))
    → (k : ℕ) × (n ≡ i + k) × (cond b (Some x) (find test xs) ≡ slice_get (x ∷ xs) k)
found_case test x xs i n true e later = (0, (let same : i ≡ n = cc in omega arith), refl)
found_case test x xs i n false e later = let rest = later e in
    (suc rest.0, (let place : n ≡ i + 1 + rest.0 = rest.1 in omega arith), rest.2)

found_seen : {X : Type 0} (test : X → Bool) (xs : List X) (i n : ℕ) → position_from test i xs ≡ Some n
    → (k : ℕ) × (n ≡ i + k) × (find test xs ≡ slice_get xs k)
found_seen test [] i n e = absurd (cc)
found_seen test (x ∷ xs) i n e = found_case test x xs i n (test x) e (found_seen test xs (i + 1) n)

none_case : {X : Type 0} (test : X → Bool) (x : X) (xs : List X) (i : ℕ) (b : Bool)
    → cond b (Some i) (position_from test (i + 1) xs) ≡ None
    → (position_from test (i + 1) xs ≡ None → find test xs ≡ None) → cond b (Some x) (find test xs) ≡ None
none_case test x xs i true e later = absurd (cc)
none_case test x xs i false e later = later e

none_seen : {X : Type 0} (test : X → Bool) (xs : List X) (i : ℕ) → position_from test i xs ≡ None → find test xs ≡ None
none_seen test [] i e = refl
none_seen test (x ∷ xs) i e = none_case test x xs i (test x) e (none_seen test xs (i + 1))

pub find_at : {X : Type 0} (test : X → Bool) (xs : List X) (n : ℕ) → position test xs ≡ Some n
    → find test xs ≡ slice_get xs n
find_at test xs n found =
    let at = found_seen test xs 0 n (sym (position_from-zero test xs) ∙ found) in
    let same : at.0 ≡ n = omega (arith, at.1) in
    at.2 ∙ ap (slice_get xs) same

pub find_none : {X : Type 0} (test : X → Bool) (xs : List X) → position test xs ≡ None → find test xs ≡ None
find_none test xs none = none_seen test xs 0 (sym (position_from-zero test xs) ∙ none)

pub bytes_eq_turned : (xs ys : List ℕ) → bytes_eq xs ys ≡ bytes_eq ys xs
bytes_eq_turned xs ys =
    both_ways (bytes_eq xs ys) (bytes_eq ys xs) (λ e. (bytes_eq-Decides ys xs).1 (sym ((bytes_eq-Decides xs ys).0 e)))
    (λ e. (bytes_eq-Decides xs ys).1 (sym ((bytes_eq-Decides ys xs).0 e)))

-- one more name in a table, before the names that are in it
pub table_turn : (table new : BTreeMap (String Global) ℕ) (names : List (String Global)) (n m : ℕ)
    (name : String Global) → m ≡ n → n < length names → name ≡ get_or names n name
    → Numbers table (n + 1) (map string_bytes (drop (n + 1) names))
    → tree.UpdatesBy string_cmp (λ k. slice_cmp nat_cmp (string_bytes name) (string_bytes k)) table new (Some m)
    → Numbers new n (map string_bytes (drop n names))
table_turn table new names n m name same is_in is before updates q =
    let split : drop n names ≡ name ∷ drop (n + 1) names = grind (arith, common_steps) in
    btree_map_updates_text (string_bytes name) table new (Some m) updates q
    ∙ ap (λ k. cond (bytes_eq (string_bytes name) q) (Some k) (get_by_text table q)) same
    ∙ ap (λ b. cond b (Some n) (get_by_text table q)) (bytes_eq_turned (string_bytes name) q)
    ∙ ap (λ r. cond (bytes_eq q (string_bytes name)) (Some n) r) (before q)
    ∙ ap (λ xs. position_from (bytes_eq q) n (map string_bytes xs)) (sym split)
