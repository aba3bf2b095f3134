-- The list of two counters with a short period, computed.
use Rattle.std.proofs.Common.{refl}
use Rattle.std.specs.Fmt.{digits}
use Rattle.pals_base.specs.SingleStep.{fire}
use Rattle.pals_model.specs.ComponentInputs.{input_vectors}
use Rattle.pals_model.specs.Composition.{comp, part, msg, state}
use Rattle.exact_bound.specs.proof.ShortPeriodStops.{ShortPeriodStops}

pub short_period_stops : ShortPeriodStops
unfolding digits fire comp part input_vectors msg state
short_period_stops = record {
  two_less = refl;
  within = (refl, (refl, (refl, (refl, (refl, (refl, (refl, (refl, (refl, (refl, tt))))))))));
  stop = refl;
}
