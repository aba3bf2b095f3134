-- For `begin`: a ready node may start, step or send, whichever is next.
use Rattle.std.proofs.Common.{◌≡◌, ℕ, Some, ap, subst}
use Rattle.pals_base.specs.declared.basic_types.NodeNo.{NodeNo}
use Rattle.bus_machine.specs.declared.node_action.NodeAction.{NodeAction}
use Rattle.bus_machine.specs.declared.node_action.NodeAction.TheVariants as action
use Rattle.bus_machine.specs.NodeEvents.{is_waiting}
use Rattle.bus_machine.specs.Machine.{Step, Send}
use Rattle.run_laws.specs.Runs.{Does}
use Rattle.run_laws.proofs.NodePicksAndRunReplay.{runs_agree}
use Rattle.node_threads.specs.proof.SharedCourses.{CourseValue, IsCourse, IsReady, IsToStartIn, Allows}
use Rattle.node_threads.proofs.NextTargetsAndStarts.{start_waits}

starts : (c : CourseValue) (node : NodeNo) (round reading : ℕ) → IsCourse c
    → IsReady c node (action.Start round) reading → IsToStartIn c node reading
starts c node round reading course ready =
    let waits =
    start_waits c.bus.run c.bus.state node.0 round
    (runs_agree c.bus.run c.clocks c.bus.journal c.bus.state course.rules course.runs) ready.is_open.within
    ready.does.next in
    record {
      does =
          subst (λ (r : ℕ). Does c.bus.run c.clocks c.bus.state node (Some reading) (action.Start r))
          waits.round_is ready.does;
      waits = ap is_waiting waits.phase;
    }

pub to_start : (c : CourseValue) (node : NodeNo) (act : NodeAction) (round reading : ℕ) → IsCourse c
    → IsReady c node act reading → act ≡ action.Start round → IsToStartIn c node reading
to_start c node act round reading course ready same =
    starts c node round reading course (subst (λ (a : NodeAction). IsReady c node a reading) same ready)

pub to_step : (v : CourseValue) (node : NodeNo) (act : NodeAction) (round step reading : ℕ) → IsReady v node act reading
    → act ≡ action.Step round step → Allows v (Step node (Some reading))
to_step v node act round step reading ready same =
    (round, step, (subst (λ (a : NodeAction). IsReady v node a reading) same ready).does)

pub to_send : (v : CourseValue) (node : NodeNo) (act : NodeAction) (round reading : ℕ) → IsReady v node act reading
    → act ≡ action.Send round → Allows v (Send node (Some reading))
to_send v node act round reading ready same =
    (round, (subst (λ (a : NodeAction). IsReady v node a reading) same ready).does)
