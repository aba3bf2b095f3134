use Rattle.std.proofs.Common.{◌≡◌, ◌-◌, length}
use Rattle.pals_base.specs.SingleStep.{settled}
use Rattle.behaviour_sem.specs.proof.EvaluationFrames.{fresh}
use Rattle.behaviour_sem.specs.proof.PartialSteps.{fired}
use Rattle.behaviour_sem.proofs.transitions.settle.Given as goal

-- the remaining transitions, from here, lead to the same end as all
abbrev pub invariant-loop : goal.invariant-loop
invariant-loop l =
    let fresh' = fresh l.inputs in
    record {
      len : length l.place.vars.items ≡ length l.fn.place.vars.items;
      rest : settled (length l.behaviour.states - l.counter) l.behaviour fresh' (fired (l.place, l.outs) l.inputs)
          ≡ settled (length l.behaviour.states) l.behaviour fresh' (fired (l.fn.place, l.fn.outs) l.inputs);
    }
