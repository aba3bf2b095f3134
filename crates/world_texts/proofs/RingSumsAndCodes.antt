-- The sum of a ring's numbers fits in 64 bits and is that of the last round's parts, and its codes are short enough.
use Rattle.std.proofs.Common.{◌≡◌, ◌∙◌, ℕ, zero, suc, ◌+◌, ◌*◌, ◌<◌, ◌≤◌, [], ◌∷◌, map, fold, pos, ◌+ℤ◌, ◌≤ℤ◌, sym}
use Rattle.std.proofs.Common.{ap, subst, arith, lit≤}
use Rattle.std.specs.Prelude.{ℤ}
use Rattle.std.proofs.lemmas.Int.{ints}
use Rattle.std.proofs.lemmas.List.Sums.{fold-append}
use Rattle.pals_base.specs.declared.limits.TheConstants.{INSTRUCTIONS}
use Rattle.pals_base.specs.UpwardNumbers.{upwards}
use Rattle.pals_base.proofs.UpwardNumbers.{map_upwards_more, length-map_upwards, get_or-map_upwards}
use Rattle.pals_model.specs.declared.design.Component.{Component}
use Rattle.pals_model.specs.declared.design.DesignParts.{DesignParts}
use Rattle.step_code.specs.CodeLengths.{code_length}
use Rattle.bus_machine.specs.Plans.{no_component}
use Rattle.design_codes.specs.OverlongCodes.{length_of, IsFirstTooLong}
use Rattle.world_gen.specs.Rings.{ring, ring_component, ring_behaviour, ring_number}
use Rattle.world_gen.proofs.RingValuesAndSums.{ring_numbers_are_small}

-- ---- codes
code_is_short : (n node : ℕ) → node < n → length_of (ring n) node ≤ INSTRUCTIONS
code_is_short n node within =
    let is = get_or-map_upwards ring_component n node no_component within in
    let short : code_length ring_behaviour ≤ INSTRUCTIONS = lit≤ tt in
    subst (λ (c : Component). code_length c.behaviour ≤ INSTRUCTIONS) (sym is) short

pub never_too_long : (design : DesignParts) (n node size : ℕ) → design ≡ ring n → IsFirstTooLong design node size → ⊥
never_too_long design n node size is long =
    let here : IsFirstTooLong (ring n) node size = subst (λ (d : DesignParts). IsFirstTooLong d node size) is long in
    let within = here.within in
    let count = length-map_upwards ring_component 0 n in
    let short = code_is_short n node (omega (arith, within, count)) in
    let over = here.over in
    omega (arith, short, over)

-- ---- sums
-- of the first components
abbrev pub sum_first : ℕ → ℕ → ℕ → ℤ
sum_first n rounds first = fold ◌+ℤ◌ (pos 0) (map (ring_number n rounds) (upwards 0 first))

pub sum_more : (n rounds first : ℕ)
    → sum_first n rounds (first + 1) ≡ sum_first n rounds first +ℤ ring_number n rounds first
sum_more n rounds first =
    ap (fold ◌+ℤ◌ (pos 0)) (map_upwards_more (ring_number n rounds) first)
    ∙ fold-append ◌+ℤ◌ (pos 0) (map (ring_number n rounds) (upwards 0 first)) (ring_number n rounds first ∷ [])

pub sum_is_below : (n rounds first : ℕ)
    → (pos 0 ≤ℤ sum_first n rounds first) × (sum_first n rounds first ≤ℤ pos (1000 * first))
sum_is_below n rounds zero = (omega (arith, ints), omega (arith, ints))
sum_is_below n rounds (suc first) =
    let so_far = sum_is_below n rounds first in
    let low = so_far.0 in
    let high = so_far.1 in
    let small = ring_numbers_are_small n rounds first in
    let least = small.0 in
    let most = small.1 in
    let next : suc first ≡ first + 1 = omega arith in
    let more : sum_first n rounds (suc first) ≡ sum_first n rounds first +ℤ ring_number n rounds first =
    ap (sum_first n rounds) next ∙ sum_more n rounds first in
    (omega (arith, ints, low, least, more), omega (arith, ints, high, most, more))
