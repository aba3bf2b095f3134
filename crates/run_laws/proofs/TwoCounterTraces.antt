-- A trace of one round of the two counters is judged sound, and changed ones are judged wrong: the claim
-- TracesAreJudged, computed.
use Rattle.std.proofs.Common.{refl}
use Rattle.std.specs.Fmt.{digits}
use Rattle.pals_base.specs.SingleStep.{fire}
use Rattle.pals_model.specs.ComponentInputs.{input_vectors}
use Rattle.pals_model.specs.Composition.{comp, part}
use Rattle.run_laws.specs.proof.TwoCounterTraces.{TracesAreJudged}

pub traces_are_judged : TracesAreJudged
unfolding digits fire comp part input_vectors
traces_are_judged = record { sound = refl; row = refl; release = refl; unfinished = refl }
