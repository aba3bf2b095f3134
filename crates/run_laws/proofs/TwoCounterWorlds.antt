-- Worlds of the two counters: refused events, and the earliest and latest that the bounds allow, computed.
use Rattle.std.proofs.Common.{refl}
use Rattle.std.specs.Fmt.{digits}
use Rattle.pals_base.specs.SingleStep.{fire}
use Rattle.pals_model.specs.ComponentInputs.{input_vectors}
use Rattle.pals_model.specs.Composition.{comp, part, msg, state}
use Rattle.run_laws.specs.proof.TwoCounterWorlds.{EventsAreRefused, ArrivesTooSoon, EarliestSender, LatestSender}

pub events_are_refused : EventsAreRefused
unfolding digits fire
events_are_refused = record { late = refl; apart = refl; early = refl; phase = refl; message = refl }

pub arrives_too_soon : ArrivesTooSoon
unfolding digits fire
arrives_too_soon = refl

pub earliest : EarliestSender
unfolding digits fire comp part input_vectors msg state
earliest = record { within = refl; lines_are = refl }

pub latest : LatestSender
unfolding digits fire comp part input_vectors msg state
latest = record { within = refl; lines_are = refl }
