use Rattle.std.proofs.Common.{◌≡◌, take}
use Rattle.step_code.specs.SuccessorsAndWeights.{weight}
use Rattle.step_code.specs.CappedWeights.{capped}
use Rattle.step_code.proofs.weights.most_weight.Given as goal

abbrev pub invariant-loop-entry : goal.invariant-loop-entry
invariant-loop-entry l = l.most ≡ capped (weight l.parts.instrs (take l.entry-index l.parts.entries))
