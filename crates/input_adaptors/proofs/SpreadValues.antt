-- For `spread_place` and the law of spread values: the places of the target that hold the values of a slower source.
use Rattle.std.proofs.Common.{◌≡◌, ◌≢◌, ◌∙◌, ap, sym, refl, ℕ, zero, suc, ◌+◌, ◌-◌, ◌*◌, ◌/◌, ◌%◌, ◌<◌, ◌≤◌, subst}
use Rattle.std.proofs.Common.{List, [], ◌∷◌, length, Some, arith}
use Rattle.std.specs.Prelude.{IsTrue, Bool, true, false, ◌&&◌, if◌then◌else◌, nat_le, nat_lt, flat_map, slice_get}
use Rattle.std.specs.Prelude.{slice_index_or, slice_set, replicate}
use Rattle.std.proofs.lemmas.Nat.{mul-add-lt}
use Rattle.std.proofs.lemmas.Bool.{lt-ltb, leb-true}
use Rattle.std.proofs.lemmas.Option.{slice_get-get_or}
use Rattle.std.proofs.lemmas.List.{length-replicate, get_or-replicate, get_or-set_same, get_or-set_other}
use Rattle.std.proofs.lemmas.List.{get_or_append_left, get_or-append_right, get_or_past}
use Rattle.std.proofs.Math.Nat.{div-add-mod, mod-lt}
use Rattle.list_lemmas.proofs.ElementPositions.{get_or-replicate_constant}
use Rattle.pals_base.specs.declared.basic_types.PortValue.{PortValue}
use Rattle.pals_base.specs.declared.basic_types.PortValue.TheVariants.{Absent}
use Rattle.pals_base.specs.declared.allowed_adaptors.Adaptor.{Adaptor}
use Rattle.pals_base.specs.declared.allowed_adaptors.Adaptor.TheVariants.{Repeat, First, Last, At, Latest, Max, Min}
use Rattle.pals_base.specs.declared.allowed_adaptors.Adaptor.TheVariants.{Average}
use Rattle.pals_base.specs.Adaptors.{adapt, spread, placed}
use Rattle.pals_base.specs.AllowedAdaptors.{is_allowed, may_spread, may_join}
use Rattle.input_adaptors.specs.proof.PlacesAndGroupValues.{TakesPlace}
use Rattle.input_adaptors.proofs.TupleLengthsAndGroups.{adapt-faster, length-spread, length-spread_all}

placed_there : (n m j : ℕ) (v : PortValue) → j < m → j + 1 ≡ n → slice_index_or (placed n m v) j Absent ≡ v
placed_there n m j v below here =
    let e : n - 1 ≡ j = omega arith in
    ap (λ k. slice_index_or (slice_set (replicate m Absent) k v) j Absent) e
    ∙ get_or-set_same (replicate m Absent) j v Absent (omega (arith, length-replicate m Absent))

placed_absent : (n m j : ℕ) (v : PortValue) → 1 ≤ n → j < m → (j + 1 ≢ n)
    → slice_index_or (placed n m v) j Absent ≡ Absent
placed_absent n m j v some below elsewhere =
    let e : j ≢ n - 1 = omega arith in
    get_or-set_other (replicate m Absent) (n - 1) j v Absent e ∙ get_or-replicate m j Absent Absent below

spread_there : (a : Adaptor) (m j : ℕ) (v : PortValue) → j < m → TakesPlace a m j
    → slice_index_or (spread a m v) j Absent ≡ v
spread_there Repeat m j v below here = get_or-replicate m j v Absent below
spread_there First m j v below here = placed_there 1 m j v below (omega arith)
spread_there Last m j v below here = placed_there m m j v below here
spread_there (At n) m j v below here = placed_there n m j v below here
spread_there Latest m j v below here = absurd here
spread_there Max m j v below here = absurd here
spread_there Min m j v below here = absurd here
spread_there Average m j v below here = absurd here

first_of_both : (a b : Bool) → IsTrue (a && b) → IsTrue a
first_of_both true b both = refl
first_of_both false b both = both

spread_absent : (a : Adaptor) (m j : ℕ) (v : PortValue) → IsTrue (may_spread a m) → j < m → ¬ TakesPlace a m j
    → slice_index_or (spread a m v) j Absent ≡ Absent
spread_absent Repeat m j v can below elsewhere = absurd (elsewhere tt)
spread_absent First m j v can below elsewhere = placed_absent 1 m j v (omega arith) below (λ e. elsewhere (omega arith))
spread_absent Last m j v can below elsewhere = placed_absent m m j v (omega arith) below elsewhere
spread_absent (At n) m j v can below elsewhere =
    placed_absent n m j v (leb-true 1 n (first_of_both (nat_le 1 n) (nat_le n m) can)) below elsewhere
spread_absent Latest m j v can below elsewhere = cc
spread_absent Max m j v can below elsewhere = cc
spread_absent Min m j v can below elsewhere = cc
spread_absent Average m j v can below elsewhere = cc

-- ---- an absent value
set_silent : (m k : ℕ) → slice_set (replicate m Absent) k Absent ≡ replicate m Absent
set_silent zero k = refl
set_silent (suc m) zero = refl
set_silent (suc m) (suc k) = ap (λ list. Absent ∷ list) (set_silent m k)

placed_silent : (n m j : ℕ) → slice_index_or (placed n m Absent) j Absent ≡ Absent
placed_silent n m j =
    ap (λ list. slice_index_or list j Absent) (set_silent m (n - 1)) ∙ get_or-replicate_constant Absent m j

spread_silent : (a : Adaptor) (m j : ℕ) → slice_index_or (spread a m Absent) j Absent ≡ Absent
spread_silent Repeat m j = get_or-replicate_constant Absent m j
spread_silent First m j = placed_silent 1 m j
spread_silent Last m j = placed_silent m m j
spread_silent (At n) m j = placed_silent n m j
spread_silent Latest m j = get_or-replicate_constant Absent m j
spread_silent Max m j = get_or-replicate_constant Absent m j
spread_silent Min m j = get_or-replicate_constant Absent m j
spread_silent Average m j = get_or-replicate_constant Absent m j

-- ---- all values
at_spread : (a : Adaptor) (m i j : ℕ) (tuple : List PortValue) → j < m
    → slice_index_or (flat_map (spread a m) tuple) (i * m + j) Absent
    ≡ slice_index_or (spread a m (slice_index_or tuple i Absent)) j Absent
at_spread a m i j [] below = sym (spread_silent a m j)
at_spread a m zero j (v ∷ tuple) below =
    let e : 0 * m + j ≡ j = omega arith in
    ap (λ k. slice_index_or (flat_map (spread a m) (v ∷ tuple)) k Absent) e
    ∙ get_or_append_left (spread a m v) (flat_map (spread a m) tuple) Absent j (omega (arith, length-spread a m v))
at_spread a m (suc i) j (v ∷ tuple) below =
    let e : suc i * m + j - m ≡ i * m + j = omega arith in
    get_or-append_right (spread a m v) (flat_map (spread a m) tuple) m (suc i * m + j) Absent (length-spread a m v)
    (omega arith)
    ∙ ap (λ k. slice_index_or (flat_map (spread a m) tuple) k Absent) e
    ∙ at_spread a m i j tuple below

slice_get-spread : (a : Adaptor) (m i j : ℕ) (tuple : List PortValue) → i < length tuple → j < m
    → slice_get (flat_map (spread a m) tuple) (i * m + j)
    ≡ Some (slice_index_or (spread a m (slice_index_or tuple i Absent)) j Absent)
slice_get-spread a m i j tuple within below =
    let here : i * m + j < m * length tuple = mul-add-lt i m j (length tuple) within below in
    slice_get-get_or (flat_map (spread a m) tuple) (i * m + j) Absent (omega (arith, length-spread_all a m tuple))
    ∙ ap Some (at_spread a m i j tuple below)

-- a place of all values over m places each
pub spread-place : (a : Adaptor) (m step : ℕ) (tuple : List PortValue) → 0 < m
    → slice_index_or (flat_map (spread a m) tuple) step Absent
    ≡ slice_index_or (spread a m (slice_index_or tuple (step / m) Absent)) (step % m) Absent
spread-place a m step tuple some =
    let e : step ≡ step / m * m + step % m = omega (arith, div-add-mod step m) in
    ap (λ k. slice_index_or (flat_map (spread a m) tuple) k Absent) e
    ∙ at_spread a m (step / m) (step % m) tuple (mod-lt step some)

pub spread-none : (a : Adaptor) (m step : ℕ) (tuple : List PortValue) → m ≡ 0
    → slice_index_or (flat_map (spread a m) tuple) step Absent ≡ Absent
spread-none a m step tuple none =
    let e : length tuple * m ≡ 0 = ap (λ n. length tuple * n) none ∙ omega arith in
    get_or_past (flat_map (spread a m) tuple) step Absent (omega (arith, length-spread_all a m tuple))

may_spread-allowed : (a : Adaptor) (p q : ℕ) → p < q → IsTrue (is_allowed (Some a) p q) → IsTrue (may_spread a (q / p))
may_spread-allowed a p q below allowed =
    subst (λ b. IsTrue (if b then may_spread a (q / p) else nat_lt q p && may_join a (p / q)))
    (lt-ltb p q below) allowed

pub slice_get-there : (a : Adaptor) (p q i j : ℕ) (tuple : List PortValue) → p < q → IsTrue (is_allowed (Some a) p q)
    → length tuple ≡ p → i < p → j < q / p → TakesPlace a (q / p) j
    → slice_get (adapt (Some a) p q tuple) (i * (q / p) + j) ≡ slice_get tuple i
slice_get-there a p q i j tuple higher allowed size within below here =
    let inside : i < length tuple = omega arith in
    ap (λ places. slice_get places (i * (q / p) + j)) (adapt-faster a p q tuple higher)
    ∙ slice_get-spread a (q / p) i j tuple inside below
    ∙ ap Some (spread_there a (q / p) j (slice_index_or tuple i Absent) below here)
    ∙ sym (slice_get-get_or tuple i Absent inside)

pub slice_get-absent : (a : Adaptor) (p q i j : ℕ) (tuple : List PortValue) → p < q → IsTrue (is_allowed (Some a) p q)
    → length tuple ≡ p → i < p → j < q / p → ¬ TakesPlace a (q / p) j
    → slice_get (adapt (Some a) p q tuple) (i * (q / p) + j) ≡ Some Absent
slice_get-absent a p q i j tuple higher allowed size within below elsewhere =
    let inside : i < length tuple = omega arith in
    ap (λ places. slice_get places (i * (q / p) + j)) (adapt-faster a p q tuple higher)
    ∙ slice_get-spread a (q / p) i j tuple inside below
    ∙ ap Some (spread_absent a (q / p) j (slice_index_or tuple i Absent) (may_spread-allowed a p q higher allowed)
    below elsewhere)
