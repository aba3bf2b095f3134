use Rattle.bound_checker.proofs.DivisorsAndMultiples.{some_divisor, some_multiple, multiple_from_divisor}
use Rattle.bound_checker.proofs.common_multiple.lcm.Goals as goal

pub nonzero_div-result : goal.nonzero_div-result
nonzero_div-result c = some_divisor _ _ _ c.requires.left c.gcd.ensures

pub returns-clause-positive : goal.returns-clause-positive
returns-clause-positive c = some_multiple _ _ _ c.requires.left c.requires.right c.gcd.ensures

pub returns-clause-least : goal.returns-clause-least
returns-clause-least c = multiple_from_divisor _ _ _ c.requires.left c.gcd.ensures
