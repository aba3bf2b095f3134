-- For the laws of places: how many places an adaptor gives, and which group each of them is made of.
use Rattle.std.proofs.Common.{◌≡◌, ◌∙◌, ap, sym, refl, ℕ, zero, suc, ◌+◌, ◌-◌, ◌*◌, ◌/◌, ◌<◌, ◌≤◌, inl, inr, ◌⊎◌, ◌%◌}
use Rattle.std.proofs.Common.{◌||◌, Bool, true, false, if◌then◌else◌, List, [], ◌∷◌, ◌++◌, length, take, drop, map}
use Rattle.std.proofs.Common.{Option, Some, None, arith}
use Rattle.std.specs.Prelude.{IsTrue, nat_eq, slice_get, slice_index_or, replicate, flat_map, All}
use Rattle.std.proofs.lemmas.Option.{slice_get_within, get_or_from_slice_get}
use Rattle.std.proofs.lemmas.Bool.{lt-ltb, le-ltb, eqb-true, cases_lt}
use Rattle.std.proofs.lemmas.List.{length-append, length-map, length-set, length-replicate, length-take-le, length-drop}
use Rattle.std.proofs.lemmas.List.{drop-drop, take-append-drop}
use Rattle.std.proofs.lemmas.List.Elements.{All-nil, All-cons}
use Rattle.std.proofs.Math.Nat.{div-add-mod, mod-eq_of_lt}
use Rattle.pals_base.specs.declared.basic_types.PortValue.{PortValue}
use Rattle.pals_base.specs.declared.basic_types.PortValue.TheVariants.{Absent}
use Rattle.pals_base.specs.declared.allowed_adaptors.Adaptor.{Adaptor}
use Rattle.pals_base.specs.declared.allowed_adaptors.Adaptor.TheVariants.{Repeat, First, Last, At, Latest, Max, Min}
use Rattle.pals_base.specs.declared.allowed_adaptors.Adaptor.TheVariants.{Average}
use Rattle.pals_base.specs.Adaptors.{adapt, groups, joined, spread, placed}
use Rattle.pals_base.specs.AllowedAdaptors.{is_allowed, divides_or_divided}
use Rattle.input_adaptors.specs.proof.PlacesAndGroupValues.{group_at}

-- ---- which side of the table
pub adapt-faster : (a : Adaptor) (p q : ℕ) (tuple : List PortValue) → p < q
    → adapt (Some a) p q tuple ≡ flat_map (spread a (q / p)) tuple
adapt-faster a p q tuple below =
    ap (λ (b : Bool). if b then flat_map (spread a (q / p)) tuple else map (joined a) (groups q (p / q) tuple))
    (lt-ltb p q below)

pub adapt-slower : (a : Adaptor) (p q : ℕ) (tuple : List PortValue) → q ≤ p
    → adapt (Some a) p q tuple ≡ map (joined a) (groups q (p / q) tuple)
adapt-slower a p q tuple above =
    ap (λ (b : Bool). if b then flat_map (spread a (q / p)) tuple else map (joined a) (groups q (p / q) tuple))
    (le-ltb p q above)

-- ---- lengths
length-placed : (n m : ℕ) (v : PortValue) → length (placed n m v) ≡ m
length-placed n m v = length-set (replicate m Absent) (n - 1) v ∙ length-replicate m Absent

pub length-spread : (a : Adaptor) (m : ℕ) (v : PortValue) → length (spread a m v) ≡ m
length-spread Repeat m v = length-replicate m v
length-spread First m v = length-placed 1 m v
length-spread Last m v = length-placed m m v
length-spread (At n) m v = length-placed n m v
length-spread Latest m v = length-replicate m Absent
length-spread Max m v = length-replicate m Absent
length-spread Min m v = length-replicate m Absent
length-spread Average m v = length-replicate m Absent

pub length-spread_all : (a : Adaptor) (m : ℕ) (tuple : List PortValue)
    → length (flat_map (spread a m) tuple) ≡ length tuple * m
length-spread_all a m [] = omega arith
length-spread_all a m (v ∷ tuple) =
    length-append (spread a m v) (flat_map (spread a m) tuple)
    ∙ omega (arith, length-spread a m v, length-spread_all a m tuple)

length-groups : (count m : ℕ) (tuple : List PortValue) → length (groups count m tuple) ≡ count
length-groups zero m tuple = refl
length-groups (suc count) m tuple = ap suc (length-groups count m (drop m tuple))

either : (a b : Bool) → IsTrue (a || b) → IsTrue a ⊎ IsTrue b
either true b one = inl one
either false b one = inr one

-- the higher rate is a multiple of the lower
whole_quotient : (p q : ℕ) → 0 < p → p < q → IsTrue (divides_or_divided p q) → p * (q / p) ≡ q
whole_quotient p q some below one =
    elim (either (nat_eq (q % p) 0) (nat_eq (p % q) 0) one) [
      | inl up ↦ let e : q % p ≡ 0 = eqb-true _ _ up in omega (arith, div-add-mod q p)
      | inr down ↦ let e : p % q ≡ 0 = eqb-true _ _ down in absurd (omega (arith, mod-eq_of_lt below))
    ]

length-slower : (a : Adaptor) (p q : ℕ) (tuple : List PortValue) → length (map (joined a) (groups q (p / q) tuple)) ≡ q
length-slower a p q tuple = length-map (groups q (p / q) tuple) (joined a) ∙ length-groups q (p / q) tuple

pub length-adapt : (adaptor : Option Adaptor) (p q : ℕ) (tuple : List PortValue) → 0 < p
    → IsTrue (divides_or_divided p q) → IsTrue (is_allowed adaptor p q) → length tuple ≡ p
    → length (adapt adaptor p q tuple) ≡ q
length-adapt None p q tuple some one allowed size = size ∙ eqb-true p q allowed
length-adapt (Some a) p q tuple some one allowed size =
    elim (cases_lt p q) [
      | inl below ↦ ap length (adapt-faster a p q tuple below) ∙ length-spread_all a (q / p) tuple
          ∙ ap (λ n. n * (q / p)) size ∙ whole_quotient p q some below one
      | inr above ↦ ap length (adapt-slower a p q tuple above) ∙ length-slower a p q tuple
    ]

-- ---- groups
pub All-groups : (count m : ℕ) (tuple : List PortValue) → length tuple ≡ count * m
    → All (λ group. length group ≡ m) (groups count m tuple)
All-groups zero m tuple size = All-nil (λ group. length group ≡ m)
All-groups (suc count) m tuple size =
    All-cons (λ group. length group ≡ m) (take m tuple) (groups count m (drop m tuple))
    (length-take-le m tuple (omega arith))
    (All-groups count m (drop m tuple) (length-drop m tuple ∙ omega arith))

pub flat_map-groups : (count m : ℕ) (tuple : List PortValue) → length tuple ≡ count * m
    → flat_map (λ group. group) (groups count m tuple) ≡ tuple
flat_map-groups zero m [] size = refl
flat_map-groups zero m (v ∷ tuple) size = absurd (omega arith)
flat_map-groups (suc count) m tuple size =
    ap (λ rest. take m tuple ++ rest) (flat_map-groups count m (drop m tuple) (length-drop m tuple ∙ omega arith))
    ∙ take-append-drop m tuple

slice_get-groups : (f : List PortValue → PortValue) (count m k : ℕ) (tuple : List PortValue) → k < count
    → slice_get (map f (groups count m tuple)) k ≡ Some (f (take m (drop (k * m) tuple)))
slice_get-groups f zero m k tuple below = absurd (omega arith)
slice_get-groups f (suc count) m zero tuple below = let e : 0 * m ≡ 0 = omega arith in
    ap (λ n. Some (f (take m (drop n tuple)))) (sym e)
slice_get-groups f (suc count) m (suc k) tuple below =
    let e : m + k * m ≡ suc k * m = omega arith in
    slice_get-groups f count m k (drop m tuple) (omega arith)
    ∙ ap (λ rest. Some (f (take m rest))) (drop-drop (k * m) m tuple ∙ ap (λ n. drop n tuple) e)

pub slice_get-adapt : (a : Adaptor) (p q k : ℕ) (tuple : List PortValue) → q ≤ p → k < q
    → slice_get (adapt (Some a) p q tuple) k ≡ Some (joined a (group_at p q k tuple))
slice_get-adapt a p q k tuple above below =
    ap (λ places. slice_get places k) (adapt-slower a p q tuple above)
    ∙ slice_get-groups (joined a) q (p / q) k tuple below

pub joined-place : (a : Adaptor) (p q k : ℕ) (tuple : List PortValue) → q ≤ p → k < q
    → slice_index_or (adapt (Some a) p q tuple) k Absent ≡ joined a (group_at p q k tuple)
joined-place a p q k tuple above below =
    get_or_from_slice_get (adapt (Some a) p q tuple) k (joined a (group_at p q k tuple)) Absent
    (slice_get-adapt a p q k tuple above below)

-- a place that is there is one of the first q
pub place_below : (a : Adaptor) (p q k : ℕ) (tuple : List PortValue) (place : PortValue) → q ≤ p
    → slice_get (adapt (Some a) p q tuple) k ≡ Some place → k < q
place_below a p q k tuple place above found =
    let e = length-slower a p q tuple in
    omega (
      arith,
      slice_get_within (map (joined a) (groups q (p / q) tuple)) k place
          (ap (λ places. slice_get places k) (sym (adapt-slower a p q tuple above)) ∙ found),
    )

pub joined-from : (a : Adaptor) (p q k : ℕ) (tuple : List PortValue) (place : PortValue) → q ≤ p
    → slice_get (adapt (Some a) p q tuple) k ≡ Some place → joined a (group_at p q k tuple) ≡ place
joined-from a p q k tuple place above found =
    let e : Some (joined a (group_at p q k tuple)) ≡ Some place =
    sym (slice_get-adapt a p q k tuple above (place_below a p q k tuple place above found)) ∙ found in
    cc
