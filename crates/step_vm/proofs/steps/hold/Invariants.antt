use Rattle.std.proofs.Common.{◌≡◌, take}
use Rattle.pals_base.specs.SingleStep.{holding}
use Rattle.step_vm.proofs.steps.hold.Given as goal

abbrev pub invariant-loop-at : goal.invariant-loop-at
invariant-loop-at l = l.held ≡ holding l.initial.held (take l.at l.inputs)
