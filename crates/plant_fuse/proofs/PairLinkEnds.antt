-- A link inside a pair joins components of one rate, and one to a controller comes from a plant; the link that an in
-- port reads goes to its component.
use Rattle.std.proofs.Common.{◌≡◌, ◌≢◌, ◌∙◌, inl, inr, ℕ, ◌<◌, true, false, List, length, Some, slice_get}
use Rattle.std.proofs.Common.{slice_index_or, sym, ap, subst}
use Rattle.std.specs.Prelude.{nat_eq}
use Rattle.std.proofs.lemmas.Bool.{eqb-true, eq-eqb, ne_eqb, and_parts, cases_order}
use Rattle.std.proofs.lemmas.List.Folds.{Any-from_list_any, list_any_at, list_any_none}
use Rattle.std.proofs.lemmas.List.{get_or_default}
use Rattle.pals_model.specs.declared.design.Link.{Link}
use Rattle.pals_model.specs.declared.design.DesignParts.{DesignParts}
use Rattle.pals_model.specs.declared.port_sources.PortSource.TheVariants as source
use Rattle.pals_model.specs.ComponentInputs.{source_of}
use Rattle.pals_model.specs.PortKindsAndRates.{rate_of}
use Rattle.pals_model.proofs.SourceLaws.{reads_link}
use Rattle.pals_runs.specs.declared.plant_pairs.Pair.{Pair}
use Rattle.plant_fuse.specs.FusedComposition.{goes, is_to_plant, is_to_controller, IsPair, ArePairs}
use Rattle.plant_fuse.proofs.StepRanks.{is_controller}

pub goes_parts : (a b : ℕ) (link : Link) → goes a b link ≡ true → (link.source.0 ≡ a) × (link.target.0 ≡ b)
goes_parts a b link is =
    let both = and_parts (nat_eq link.source.0 a) (nat_eq link.target.0 b) is in
    (eqb-true link.source.0 a both.0, eqb-true link.target.0 b both.1)

module _ (design : DesignParts) (pairs : List Pair) (are : ArePairs design pairs) where
  pair_is : (k : ℕ) (pair : Pair) → k < length pairs → slice_index_or pairs k pair ≡ pair → IsPair design pair
  pair_is k pair within is = subst (IsPair design) is (are.each k pair within)

  -- a link back has ends of one rate
  pub back_rates : (link : Link) → is_to_plant pairs link ≡ true
      → rate_of design link.source.0 ≡ rate_of design link.target.0
  back_rates link is =
      let found = Any-from_list_any (λ (pair : Pair). goes pair.controller.0 pair.plant.0 link) pairs is in
      let pair : Pair = found.1 in
      let ends = goes_parts pair.controller.0 pair.plant.0 link found.4 in
      let rules = pair_is found.0 pair found.2 found.3 in
      ap (rate_of design) ends.0 ∙ sym rules.rates ∙ sym (ap (rate_of design) ends.1)

  -- a plant controls nothing
  plant_is_none : (k : ℕ) (pair : Pair) → k < length pairs → slice_index_or pairs k pair ≡ pair
      → is_controller pairs pair.plant.0 ≡ false
  plant_is_none k pair within is =
      list_any_none (λ (other : Pair). nat_eq other.controller.0 pair.plant.0) pairs
      (λ j d inside. ne_eqb (slice_index_or pairs j d).controller.0 pair.plant.0 (λ same. none j d inside same))
    where
      none : (j : ℕ) (d : Pair) → j < length pairs → (slice_index_or pairs j d).controller.0 ≢ pair.plant.0
      none j d inside same =
          elim (cases_order j k) [
            | inl here ↦ (
                let rules = are.each k d within in
                let one : slice_index_or pairs k d ≡ pair = get_same k within d ∙ is in
                rules.two (ap (λ (p : Pair). p.plant.0) one ∙ sym same
                ∙ ap (λ n. (slice_index_or pairs n d).controller.0) here))
            | inr other ↦ elim other [
              | inl before ↦ (are.apart j k d before within).second
                  (same ∙ sym (ap (λ (p : Pair). p.plant.0) (get_same k within d ∙ is)))
              | inr after ↦ (are.apart k j d after inside).first
                  (ap (λ (p : Pair). p.plant.0) (get_same k within d ∙ is) ∙ sym same)
            ]
          ]
        where
          get_same : (n : ℕ) → n < length pairs → (e : Pair) → slice_index_or pairs n e ≡ slice_index_or pairs n pair
          get_same n low e = get_or_default pairs n e pair low

  -- a link forth goes to a controller, from a plant of the same rate that is not a controller
  pub record IsForth (link : Link) : Type 0 where
    pub rates : rate_of design link.source.0 ≡ rate_of design link.target.0
    pub plant : is_controller pairs link.source.0 ≡ false
    pub controller : is_controller pairs link.target.0 ≡ true

  pub forth_is : (link : Link) → is_to_controller pairs link ≡ true → IsForth link
  forth_is link is =
      let found = Any-from_list_any (λ (pair : Pair). goes pair.plant.0 pair.controller.0 link) pairs is in
      let pair : Pair = found.1 in
      let ends = goes_parts pair.plant.0 pair.controller.0 link found.4 in
      let rules = pair_is found.0 pair found.2 found.3 in
      record {
        rates = ap (rate_of design) ends.0 ∙ rules.rates ∙ sym (ap (rate_of design) ends.1);
        plant = ap (is_controller pairs) ends.0 ∙ plant_is_none found.0 pair found.2 found.3;
        controller = list_any_at (λ (other : Pair). nat_eq other.controller.0 link.target.0) pairs found.0 pair found.2
            (eq-eqb _ _ (ap (λ (p : Pair). p.controller.0) found.3 ∙ sym ends.1));
      }

-- ---- the link that an in port reads goes there
pub read_from_target : (design : DesignParts) (node port number : ℕ) (link : Link)
    → source_of design node port ≡ source.Link number → slice_get design.links number ≡ Some link → link.target.0 ≡ node
read_from_target design node port number link is there = (reads_link design node port number link is there).0
