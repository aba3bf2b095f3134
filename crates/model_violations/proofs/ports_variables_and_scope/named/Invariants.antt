use Rattle.std.proofs.Common.{◌≡◌, map, take}
use Rattle.model_violations.specs.PortsAndVariables.{named_of}
use Rattle.model_violations.proofs.ports_variables_and_scope.named.Given as goal

abbrev pub invariant-loop-port : goal.invariant-loop-port
invariant-loop-port l = l.named ≡ map named_of (take l.port-index l.ports)
