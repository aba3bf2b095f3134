-- The jobs that a bus gives out have the codes of their nodes.
use Rattle.std.proofs.Common.{◌≡◌, Option, ℕ, refl, sym, subst}
use Rattle.pals_base.specs.declared.basic_types.NodeNo.{NodeNo}
use Rattle.pals_node.specs.proof.NodeAndJobValues.{JobValue}
use Rattle.pals_bus.specs.BusValues.{BusValue}
use Rattle.pals_bus.specs.proof.Answers.{StartsRound, StepsOn}
use Rattle.node_threads.specs.proof.OwnJobs.{IsOwn}

pub own_start : (old : BusValue) (node : NodeNo) (reading : Option ℕ) (new : BusValue) (job : JobValue)
    → StartsRound old node reading new job → IsOwn new.codes job
own_start old node reading new job starts = subst (IsOwn new.codes) (sym starts.node_starts.job_is) refl

pub own_step : (old : BusValue) (node : NodeNo) (reading : Option ℕ) (new : BusValue) (job : JobValue)
    → StepsOn old node reading new job → IsOwn new.codes job
own_step old node reading new job steps = subst (IsOwn new.codes) (sym steps.node_steps.job_is) refl
