use Rattle.std.proofs.Common.{◌≡◌, ◌++◌, take, drop}
use Rattle.step_vm.proofs.steps.keep.Given as goal

abbrev pub invariant-loop-at : goal.invariant-loop-at
invariant-loop-at l = l.vars ≡ take l.at l.slots ++ drop l.at l.initial.vars
