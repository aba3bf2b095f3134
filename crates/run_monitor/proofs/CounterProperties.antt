-- The properties of the two counters, computed.
use Rattle.std.proofs.Common.{refl}
use Rattle.std.specs.Fmt.{digits}
use Rattle.pals_base.specs.SingleStep.{fire}
use Rattle.pals_model.specs.Composition.{comp}
use Rattle.run_monitor.specs.FormulaSemantics.{holds}
use Rattle.run_monitor.specs.proof.CounterProperties.{SmallIsWatched, UpIsWatched, QuietIsWatched, TwoText, OneText}
use Rattle.run_monitor.specs.proof.CounterProperties.{AreViolated}

pub small_is_watched : SmallIsWatched
unfolding fire comp holds
small_is_watched = refl

pub up_is_watched : UpIsWatched
unfolding fire comp holds
up_is_watched = refl

pub quiet_is_watched : QuietIsWatched
unfolding fire comp holds
quiet_is_watched = refl

pub two_text : TwoText
unfolding digits fire comp holds
two_text = refl

pub one_text : OneText
unfolding digits fire comp holds
one_text = refl

pub are_violated : AreViolated
unfolding fire comp holds
are_violated = (refl, refl)
