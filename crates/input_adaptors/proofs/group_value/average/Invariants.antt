use Rattle.input_adaptors.proofs.PresentNumbers.{IsSummed}
use Rattle.input_adaptors.proofs.group_value.average.Given as goal

abbrev pub invariant-loop-port : goal.invariant-loop-port
invariant-loop-port l = IsSummed l.group l.port-index l.sum l.count
