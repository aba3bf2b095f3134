-- The two counters as a plant and its controller can be fused, and what they count, computed.
use Rattle.std.proofs.Common.{◌≡◌, ℕ, [], ◌∷◌, All, None, refl, arith}
use Rattle.std.proofs.lemmas.List.Elements.{All-nil, All-cons}
use Rattle.pals_base.specs.SingleStep.{fire}
use Rattle.pals_model.specs.declared.design.Link.{Link}
use Rattle.pals_model.specs.proof.TwoCounters.{two_counters}
use Rattle.pals_runs.specs.declared.plant_pairs.Pair.{Pair}
use Rattle.plant_fuse.specs.FusedComposition.{IsPair, reads}
use Rattle.plant_fuse.specs.proof.SolutionConfiguration.{fused}
use Rattle.plant_fuse.specs.proof.CounterPlant.{CountersArePairs, CountersFuse, FusedCountersCount}

pub counters_fuse : CountersFuse
unfolding reads fire
counters_fuse = refl

pub fused_counters_count : FusedCountersCount
unfolding fused fire
fused_counters_count = (refl, refl, refl)

abbrev linked : ℕ → ℕ → Link
linked source target =
    record { source = record { 0 = source }; out_port = 0; target = record { 0 = target }; in_port = 0; adaptor = None }

links_go : (P : Link → Type 0) → P (linked 1 0) → P (linked 0 1) → All P two_counters.links
links_go P first second =
    All-cons P (linked 1 0) (linked 0 1 ∷ []) first (All-cons P (linked 0 1) [] second (All-nil P))

abbrev the_pair : Pair
the_pair = record { plant = record { 0 = 0 }; controller = record { 0 = 1 } }

pub counters_are_pairs : CountersArePairs
counters_are_pairs = record {
  each = All-cons (IsPair two_counters) the_pair [] (record {
    plant = omega arith;
    controller = omega arith;
    two = λ same. omega (arith, same);
    rates = refl;
    from_plant =
        links_go (λ link. link.source.0 ≡ 0 → link.target.0 ≡ 1) (λ is. absurd (omega (arith, is))) (λ is. refl);
    to_plant = links_go (λ link. link.target.0 ≡ 0 → link.source.0 ≡ 1) (λ is. refl) (λ is. absurd (omega (arith, is)));
  }) (All-nil (IsPair two_counters));
  apart = λ i j d less within. absurd (omega (arith, less, within));
}
