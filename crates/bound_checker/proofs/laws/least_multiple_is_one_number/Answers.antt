use Rattle.std.proofs.Common.{arith}
use Rattle.bound_checker.proofs.laws.least_multiple_is_one_number.Goals as goal

pub returns-clause-one : goal.returns-clause-one
returns-clause-one c g rates s t first second = omega (arith, first.least t second.suited, second.least s first.suited)

pub returns-clause-exclusive : goal.returns-clause-exclusive
returns-clause-exclusive c g rates t found none = none t found.within found.suited
