use Rattle.std.proofs.Common.{◌≡◌, map, replicate, take}
use Rattle.pals_base.specs.declared.basic_types.PortValue.TheVariants.{Absent}
use Rattle.pals_model.specs.declared.design.Tap.{Tap}
use Rattle.pals_model.specs.PortKindsAndRates.{rate_of}
use Rattle.triple_vote.proofs.opening.opening_shown.Given as goal

abbrev pub invariant-loop-tap : goal.invariant-loop-tap
invariant-loop-tap l =
    l.shown ≡ map (λ (tap : Tap). replicate (rate_of l.design tap.source.0) Absent) (take l.tap-index l.tap-items)
