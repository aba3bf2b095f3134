use Rattle.std.proofs.Common.{◌≡◌, ◌++◌, length, take, drop}
use Rattle.pals_base.specs.SingleStep.{holding}
use Rattle.behaviour_sem.proofs.step.hold.Given as goal

-- the held inputs so far, and of the remaining elements
abbrev pub invariant-loop-at : goal.invariant-loop-at
invariant-loop-at l =
    record {
      len : length l.held ≡ length l.fn.held;
      rest : take l.at l.held ++ holding (drop l.at l.held) (drop l.at l.inputs) ≡ holding l.fn.held l.inputs;
    }
