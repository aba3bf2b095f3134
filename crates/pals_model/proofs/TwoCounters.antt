-- The law of two counters: their first rounds, computed.
use Rattle.std.proofs.Common.{refl}
use Rattle.std.specs.Fmt.{digits}
use Rattle.pals_base.specs.SingleStep.{fire}
use Rattle.pals_model.specs.ComponentInputs.{input_vectors}
use Rattle.pals_model.specs.Composition.{comp, part}
use Rattle.pals_model.specs.proof.TwoCounters.{CountersCount}

pub counters_count : CountersCount
unfolding digits fire comp part input_vectors
counters_count = refl
