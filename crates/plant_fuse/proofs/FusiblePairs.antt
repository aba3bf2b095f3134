-- Which pairs of components can be fused, by the links between the two and by the other pairs.
use Rattle.std.proofs.Common.{◌≡◌, ◌≢◌, ℕ, ◌<◌, Bool, true, false, nat_eq, List, [], ◌∷◌, length, All, refl, sym, arith}
use Rattle.std.specs.Prelude.{not, ◌||◌, slice_index_or}
use Rattle.std.specs.List.{list_all}
use Rattle.std.proofs.lemmas.Bool.{eqb-true, eq-eqb, and_parts, true≢false, and_from}
use Rattle.std.proofs.lemmas.List.Elements.{All-nil, All-cons, All-head, All-tail}
use Rattle.std.proofs.lemmas.Option.{slice_get-get_or}
use Rattle.pals_model.specs.declared.design.Link.{Link}
use Rattle.pals_model.specs.declared.design.DesignParts.{DesignParts}
use Rattle.pals_model.specs.PortKindsAndRates.{rate_of}
use Rattle.pals_runs.specs.declared.plant_pairs.Pair.{Pair}
use Rattle.plant_fuse.specs.FusedComposition.{IsPair, ArePairs}
use Rattle.plant_fuse.specs.proof.Fusibility.{AreTwo, stays_inside, CanBeFused}

-- ---- the links of a plant
abbrev pub FromPlant : Pair → Link → Type 0
FromPlant pair link = link.source.0 ≡ pair.plant.0 → link.target.0 ≡ pair.controller.0

abbrev pub ToPlant : Pair → Link → Type 0
ToPlant pair link = link.target.0 ≡ pair.plant.0 → link.source.0 ≡ pair.controller.0

-- one number implies another
implied : (s p t c : ℕ) → (not (nat_eq s p) || nat_eq t c) ≡ true → s ≡ p → t ≡ c
implied s p t c is same = eqb-true t c (second (nat_eq s p) (nat_eq t c) (eq-eqb s p same) is)
  where
    second : (a b : Bool) → a ≡ true → (not a || b) ≡ true → b ≡ true
    second true b first either = either
    second false b first either = absurd (true≢false (sym first))

implies : (s p t c : ℕ) → (s ≡ p → t ≡ c) → (not (nat_eq s p) || nat_eq t c) ≡ true
implies s p t c then =
    (elim (nat_eq s p) as (λ b. nat_eq s p ≡ b → (not b || nat_eq t c) ≡ true) [
      | true ↦ λ is. eq-eqb t c (then (eqb-true s p is))
      | false ↦ λ is. refl
    ]) refl

pub from_plant : (pair : Pair) (links : List Link) → list_all (stays_inside pair) links ≡ true
    → All (FromPlant pair) links
from_plant pair [] all = All-nil (FromPlant pair)
from_plant pair (link ∷ links) all =
    let parts = and_parts (stays_inside pair link) (list_all (stays_inside pair) links) all in
    let here =
    and_parts (not (nat_eq link.source.0 pair.plant.0) || nat_eq link.target.0 pair.controller.0)
    (not (nat_eq link.target.0 pair.plant.0) || nat_eq link.source.0 pair.controller.0) parts.0 in
    All-cons (FromPlant pair) link links (implied link.source.0 pair.plant.0 link.target.0 pair.controller.0 here.0)
    (from_plant pair links parts.1)

pub to_plant : (pair : Pair) (links : List Link) → list_all (stays_inside pair) links ≡ true → All (ToPlant pair) links
to_plant pair [] all = All-nil (ToPlant pair)
to_plant pair (link ∷ links) all =
    let parts = and_parts (stays_inside pair link) (list_all (stays_inside pair) links) all in
    let here =
    and_parts (not (nat_eq link.source.0 pair.plant.0) || nat_eq link.target.0 pair.controller.0)
    (not (nat_eq link.target.0 pair.plant.0) || nat_eq link.source.0 pair.controller.0) parts.0 in
    All-cons (ToPlant pair) link links (implied link.target.0 pair.plant.0 link.source.0 pair.controller.0 here.1)
    (to_plant pair links parts.1)

pub all_inside : (pair : Pair) (links : List Link) → All (FromPlant pair) links → All (ToPlant pair) links
    → list_all (stays_inside pair) links ≡ true
all_inside pair [] from to = refl
all_inside pair (link ∷ links) from to =
    and_from (stays_inside pair link) (list_all (stays_inside pair) links)
    (and_from (not (nat_eq link.source.0 pair.plant.0) || nat_eq link.target.0 pair.controller.0)
    (not (nat_eq link.target.0 pair.plant.0) || nat_eq link.source.0 pair.controller.0)
    (implies link.source.0 pair.plant.0 link.target.0 pair.controller.0 (All-head (FromPlant pair) link links from))
    (implies link.target.0 pair.plant.0 link.source.0 pair.controller.0 (All-head (ToPlant pair) link links to)))
    (all_inside pair links (All-tail (FromPlant pair) link links from) (All-tail (ToPlant pair) link links to))

-- ---- one pair
pub pair_by : (design : DesignParts) (pair : Pair) → AreTwo pair (length design.components)
    → rate_of design pair.plant.0 ≡ rate_of design pair.controller.0
    → list_all (stays_inside pair) design.links ≡ true → IsPair design pair
pair_by design pair two rates inside = record {
  plant = two.plant;
  controller = two.controller;
  two = two.two;
  rates = rates;
  from_plant = from_plant pair design.links inside;
  to_plant = to_plant pair design.links inside;
}

pub two_of : (design : DesignParts) (pair : Pair) → IsPair design pair → AreTwo pair (length design.components)
two_of design pair is = record { plant = is.plant; controller = is.controller; two = is.two }

-- ---- all of them
pub pairs_by : (design : DesignParts) (pairs : List Pair) → ((k : ℕ) → k < length pairs → CanBeFused design pairs k)
    → ArePairs design pairs
pairs_by design pairs can = record {
  each = λ k d within. (can k within).pair (slice_index_or pairs k d) (slice_get-get_or pairs k d within);
  apart = λ i j d less within.
      (let first : i < length pairs = omega (arith, less, within) in
      let other : j ≢ i = λ same. omega (arith, same, less) in
      (can i first).apart.others j (slice_index_or pairs i d) (slice_index_or pairs j d) other
      (slice_get-get_or pairs i d first) (slice_get-get_or pairs j d within));
}
