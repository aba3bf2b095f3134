-- The rank of each step of a round: an order in which every step follows the steps that it reads from.
use Rattle.std.proofs.Common.{◌≡◌, inl, inr, ℕ, ◌+◌, ◌*◌, ◌/◌, ◌%◌, ◌<◌, ◌≤◌, Bool, true, false, List, Option, Some}
use Rattle.std.proofs.Common.{None, slice_get, refl, ap, arith}
use Rattle.std.specs.List.{list_any}
use Rattle.std.specs.Prelude.{nat_eq}
use Rattle.std.proofs.lemmas.Bool.{cases_lt, cases_order}
use Rattle.std.proofs.lemmas.Nat.{mul-le, div-add-mod', mod_below, div-mul-add, mod-mul-add}
use Rattle.pals_model.specs.declared.design.Component.{Component}
use Rattle.pals_model.specs.declared.design.DesignParts.{DesignParts}
use Rattle.pals_model.specs.PortKindsAndRates.{rate_of, rate_in}
use Rattle.pals_model.specs.DesignRules.{IsDesign, IsComponent}
use Rattle.pals_model.proofs.FirstMatches.{at_element}
use Rattle.pals_runs.specs.declared.plant_pairs.Pair.{Pair}

abbrev pub is_controller : List Pair → ℕ → Bool
is_controller pairs node = list_any (λ (pair : Pair). nat_eq pair.controller.0 node) pairs

abbrev pub bump : Bool → ℕ
bump true = 1
bump false = 0

bump_le : (b : Bool) → bump b ≤ 1
bump_le true = omega arith
bump_le false = omega arith

-- the place of a step at a rate
abbrev pub order_at : ℕ → ℕ → ℕ
order_at k step = step / k * 128 + 2 * (step % k)

-- no component makes more than 64 steps a round, and a controller makes each after its plant
abbrev pub rank : DesignParts → List Pair → ℕ → ℕ → ℕ
rank design pairs node step = order_at (rate_of design node) step + bump (is_controller pairs node)

pub record IsSmall (k : ℕ) : Type 0 where
  pub some : 1 ≤ k
  pub few : k ≤ 64

-- ---- numbers
later_round : (q m p n k : ℕ) → q * k + m < p * k + n → m < k → n < k → k ≤ 64 → q * 128 + 2 * m + 2 ≤ p * 128 + 2 * n
later_round q m p n k less first second few =
    elim (cases_order q p) [
      | inl same ↦ (let product : q * k ≡ p * k = ap (λ r. r * k) same in omega (arith, product, same, less))
      | inr other ↦ elim other [
        | inl before ↦ omega (arith, before, first, few)
        | inr after ↦ (let product : (p + 1) * k ≤ q * k = mul-le (p + 1) k q k (omega arith) (omega arith) in
            absurd (omega (arith, product, less, second)))
      ]
    ]

pub order_less : (k s t : ℕ) → IsSmall k → s < t → order_at k s + 2 ≤ order_at k t
order_less k s t small less =
    let some = small.some in
    let first = div-add-mod' s k in
    let second = div-add-mod' t k in
    later_round (s / k) (s % k) (t / k) (t % k) k (omega (arith, first, second, less)) (mod_below s k (omega arith))
    (mod_below t k (omega arith)) small.few

pub order_in_round : (k round i : ℕ) → IsSmall k → i < k → order_at k (round * k + i) + 2 ≤ (round + 1) * 128
order_in_round k round i small below =
    let few = small.few in
    let quotient = div-mul-add round k i below in
    let left' = mod-mul-add round k i below in
    omega (arith, quotient, left', below, few)

-- ---- rates
small_in : (o : Option Component) → ((c : Component) → o ≡ Some c → IsSmall c.rate) → IsSmall (rate_in o)
small_in None each = record { some = omega arith; few = omega arith }
small_in (Some c) each = each c refl

pub small_rate : (design : DesignParts) (node : ℕ) → IsDesign design → IsSmall (rate_of design node)
small_rate design node sound =
    small_in (slice_get design.components node)
    (λ c is. (let rules = at_element (IsComponent design.period) design.components node c sound.components.each is in
    let bounds = rules.rate in
    record { some = bounds.0; few = omega (arith, bounds.1) }))

-- ---- ranks
module _ (design : DesignParts) (pairs : List Pair) (sound : IsDesign design) where
  pub rank_less : (node s t : ℕ) → s < t → rank design pairs node s < rank design pairs node t
  rank_less node s t less = let order = order_less (rate_of design node) s t (small_rate design node sound) less in
      omega (arith, order)

  pub rank_upto : (node s t : ℕ) → s ≤ t → rank design pairs node s ≤ rank design pairs node t
  rank_upto node s t below =
      elim (cases_lt s t) [
        | inl less ↦ (let lower = rank_less node s t less in omega (arith, lower))
        | inr not_less ↦ (
            let same : s ≡ t = omega (arith, below, not_less) in
            let equal : rank design pairs node s ≡ rank design pairs node t = ap (rank design pairs node) same in
            omega (arith, equal))
      ]

  -- an earlier step of another component of the same rate
  pub rank_before : (source node s t : ℕ) → rate_of design source ≡ rate_of design node → s < t
      → rank design pairs source s < rank design pairs node t
  rank_before source node s t rates less =
      let order = order_less (rate_of design node) s t (small_rate design node sound) less in
      let equal : order_at (rate_of design source) s ≡ order_at (rate_of design node) s =
      ap (λ k. order_at k s) rates in
      let more = bump_le (is_controller pairs source) in
      omega (arith, order, equal, more)

  -- the step of a plant before that of its controller
  pub rank_beside : (source node step : ℕ) → rate_of design source ≡ rate_of design node
      → is_controller pairs source ≡ false → is_controller pairs node ≡ true
      → rank design pairs source step < rank design pairs node step
  rank_beside source node step rates not_one one =
      let equal : order_at (rate_of design source) step ≡ order_at (rate_of design node) step =
      ap (λ k. order_at k step) rates in
      let low : bump (is_controller pairs source) ≡ 0 = ap bump not_one in
      let high : bump (is_controller pairs node) ≡ 1 = ap bump one in
      omega (arith, equal, low, high)

  -- the steps of a round
  pub rank_in_round : (node round i : ℕ) → i < rate_of design node
      → rank design pairs node (round * rate_of design node + i) < (round + 1) * 128
  rank_in_round node round i below =
      let order = order_in_round (rate_of design node) round i (small_rate design node sound) below in
      let more = bump_le (is_controller pairs node) in
      omega (arith, order, more)

  pub rank_from_round : (node step : ℕ) → step / rate_of design node * 128 ≤ rank design pairs node step
  rank_from_round node step = omega arith

  -- each step of the first rounds
  pub rank_of_rounds : (node rounds step : ℕ) → step < rounds * rate_of design node
      → rank design pairs node step < rounds * 128
  rank_of_rounds node rounds step below =
      let small = small_rate design node sound in
      let some = small.some in
      let few = small.few in
      let whole = div-add-mod' step (rate_of design node) in
      let less = mod_below step (rate_of design node) (omega arith) in
      let more = bump_le (is_controller pairs node) in
      elim (cases_lt (step / rate_of design node) rounds) [
        | inl within ↦ omega (arith, within, less, few, more)
        | inr past ↦ (let product : rounds * rate_of design node ≤ step / rate_of design node * rate_of design node =
            mul-le rounds (rate_of design node) (step / rate_of design node) (rate_of design node) past (omega arith) in
            absurd (omega (arith, product, whole, below)))
      ]

  -- and no other
  pub rounds_of_rank : (node rounds step : ℕ) → rank design pairs node step < rounds * 128
      → step < rounds * rate_of design node
  rounds_of_rank node rounds step low =
      let small = small_rate design node sound in
      let some = small.some in
      let whole = div-add-mod' step (rate_of design node) in
      let less = mod_below step (rate_of design node) (omega arith) in
      let within : step / rate_of design node < rounds = omega (arith, low) in
      let product : (step / rate_of design node + 1) * rate_of design node ≤ rounds * rate_of design node =
      mul-le (step / rate_of design node + 1) (rate_of design node) rounds (rate_of design node)
      (omega (arith, within)) (omega arith) in
      omega (arith, whole, less, product)
