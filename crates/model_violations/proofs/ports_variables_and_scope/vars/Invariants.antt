use Rattle.std.proofs.Common.{◌≡◌, map, take}
use Rattle.model_violations.specs.PortsAndVariables.{var_of}
use Rattle.model_violations.proofs.ports_variables_and_scope.vars.Given as goal

abbrev pub invariant-loop-variable : goal.invariant-loop-variable
invariant-loop-variable l = l.vars ≡ map var_of (take l.variable-index l.variables)
