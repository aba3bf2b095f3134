-- For the law that averages are within their group: a mean is between the minimum and the maximum of its numbers.
use Rattle.std.proofs.Common.{◌≡◌, sym, subst, refl, ℕ, suc, ◌+◌, ℤ, pos, negsuc, ◌+ℤ◌, ◌*ℤ◌, ◌≤ℤ◌, List, [], ◌∷◌}
use Rattle.std.proofs.Common.{length, fold, arith}
use Rattle.std.specs.Prelude.{All, Contains}
use Rattle.std.proofs.lemmas.Int.{ints}
use Rattle.std.proofs.lemmas.List.Elements.{All-head, All-tail}
use Rattle.pals_base.specs.declared.basic_types.PortValue.{PortValue}
use Rattle.pals_base.specs.declared.basic_types.PortValue.TheVariants.{Present}
use Rattle.pals_base.specs.declared.allowed_adaptors.Adaptor.TheVariants.{Average}
use Rattle.pals_base.specs.Adaptors.{present, joined, of_present, average_of, least_of, greatest_of}
use Rattle.input_adaptors.specs.proof.PlacesAndGroupValues.{IsAboveSome, IsBelowSome}
use Rattle.input_adaptors.proofs.Quotient.{quotient_above, quotient_below}
use Rattle.input_adaptors.proofs.Extremes.{Contains-from_present, Contains-least, Contains-greatest, All-above_least}
use Rattle.input_adaptors.proofs.Extremes.{All-below_greatest}

-- ---- sums
mul-suc : (z : ℤ) (n : ℕ) → z *ℤ pos (suc n) ≡ z *ℤ pos n +ℤ z
mul-suc (pos l) n = omega (arith, ints)
mul-suc (negsuc l) n = omega (arith, ints)

sum_above : (low so_far : ℤ) (n : ℕ) (vs : List ℤ) → (low *ℤ pos n) ≤ℤ so_far → All (λ v. low ≤ℤ v) vs
    → (low *ℤ pos (length vs + n)) ≤ℤ fold ◌+ℤ◌ so_far vs
sum_above low so_far n [] above all = let e : n ≡ 0 + n = omega arith in subst (λ m. (low *ℤ pos m) ≤ℤ so_far) e above
sum_above low so_far n (v ∷ vs) above all =
    let here : low ≤ℤ v = All-head (λ x. low ≤ℤ x) v vs all in
    let step : (low *ℤ pos (suc n)) ≤ℤ (so_far +ℤ v) = omega (arith, ints, mul-suc low n) in
    let e : length vs + suc n ≡ suc (length vs) + n = omega arith in
    subst (λ m. (low *ℤ pos m) ≤ℤ fold ◌+ℤ◌ (so_far +ℤ v) vs) e
    (sum_above low (so_far +ℤ v) (suc n) vs step (All-tail (λ x. low ≤ℤ x) v vs all))

sum_below : (high so_far : ℤ) (n : ℕ) (vs : List ℤ) → so_far ≤ℤ (high *ℤ pos n) → All (λ v. v ≤ℤ high) vs
    → fold ◌+ℤ◌ so_far vs ≤ℤ (high *ℤ pos (length vs + n))
sum_below high so_far n [] below all = let e : n ≡ 0 + n = omega arith in subst (λ m. so_far ≤ℤ (high *ℤ pos m)) e below
sum_below high so_far n (v ∷ vs) below all =
    let here : v ≤ℤ high = All-head (λ x. x ≤ℤ high) v vs all in
    let step : (so_far +ℤ v) ≤ℤ (high *ℤ pos (suc n)) = omega (arith, ints, mul-suc high n) in
    let e : length vs + suc n ≡ suc (length vs) + n = omega arith in
    subst (λ m. fold ◌+ℤ◌ (so_far +ℤ v) vs ≤ℤ (high *ℤ pos m)) e
    (sum_below high (so_far +ℤ v) (suc n) vs step (All-tail (λ x. x ≤ℤ high) v vs all))

mul-one : (z : ℤ) → z *ℤ pos 1 ≡ z
mul-one (pos l) = omega (arith, ints)
mul-one (negsuc l) = omega (arith, ints)

-- ---- means
mean_above : (low v : ℤ) (vs : List ℤ) → All (λ x. low ≤ℤ x) (v ∷ vs) → low ≤ℤ average_of v vs
mean_above low v vs all =
    let here : low ≤ℤ v = All-head (λ x. low ≤ℤ x) v vs all in
    let one : (low *ℤ pos 1) ≤ℤ v = omega (arith, ints, mul-one low) in
    let e : length vs + 1 ≡ suc (length vs) = omega arith in
    quotient_above low (fold ◌+ℤ◌ v vs) (suc (length vs)) (omega arith)
    (subst (λ m. (low *ℤ pos m) ≤ℤ fold ◌+ℤ◌ v vs) e (sum_above low v 1 vs one (All-tail (λ x. low ≤ℤ x) v vs all)))

mean_below : (high v : ℤ) (vs : List ℤ) → All (λ x. x ≤ℤ high) (v ∷ vs) → average_of v vs ≤ℤ high
mean_below high v vs all =
    let here : v ≤ℤ high = All-head (λ x. x ≤ℤ high) v vs all in
    let one : v ≤ℤ (high *ℤ pos 1) = omega (arith, ints, mul-one high) in
    let e : length vs + 1 ≡ suc (length vs) = omega arith in
    quotient_below high (fold ◌+ℤ◌ v vs) (suc (length vs)) (omega arith)
    (subst (λ m. fold ◌+ℤ◌ v vs ≤ℤ (high *ℤ pos m)) e (sum_below high v 1 vs one (All-tail (λ x. x ≤ℤ high) v vs all)))

above_some : (group : List PortValue) (numbers : List ℤ) (v : ℤ) → present group ≡ numbers
    → of_present average_of numbers ≡ Present v → IsAboveSome group v
above_some group [] v same given = cc
above_some group (w ∷ ws) v same given =
    let e : average_of w ws ≡ v = cc in (
      least_of w ws,
      Contains-from_present group (least_of w ws)
          (subst (λ vs. Contains vs (least_of w ws)) (sym same) (Contains-least w ws)),
      subst (λ x. least_of w ws ≤ℤ x) e (mean_above (least_of w ws) w ws (All-above_least w ws)),
    )

below_some : (group : List PortValue) (numbers : List ℤ) (v : ℤ) → present group ≡ numbers
    → of_present average_of numbers ≡ Present v → IsBelowSome group v
below_some group [] v same given = cc
below_some group (w ∷ ws) v same given =
    let e : average_of w ws ≡ v = cc in (
      greatest_of w ws,
      Contains-from_present group (greatest_of w ws)
          (subst (λ vs. Contains vs (greatest_of w ws)) (sym same) (Contains-greatest w ws)),
      subst (λ x. x ≤ℤ greatest_of w ws) e (mean_below (greatest_of w ws) w ws (All-below_greatest w ws)),
    )

pub IsAboveSome-joined : (group : List PortValue) (v : ℤ) → joined Average group ≡ Present v → IsAboveSome group v
IsAboveSome-joined group v given = above_some group (present group) v refl given

pub IsBelowSome-joined : (group : List PortValue) (v : ℤ) → joined Average group ≡ Present v → IsBelowSome group v
IsBelowSome-joined group v given = below_some group (present group) v refl given
