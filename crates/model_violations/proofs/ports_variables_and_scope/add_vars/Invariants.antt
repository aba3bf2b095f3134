use Rattle.std.proofs.Common.{◌≡◌, ◌++◌, map, take}
use Rattle.std.specs.List.{enumerate_from}
use Rattle.model_violations.specs.PortsAndVariables.{variable_entry}
use Rattle.model_violations.proofs.ports_variables_and_scope.add_vars.Given as goal

abbrev pub invariant-loop-at : goal.invariant-loop-at
invariant-loop-at l = l.entries ≡ l.fn.entries ++ map variable_entry (enumerate_from 0 (take l.at l.variables))
