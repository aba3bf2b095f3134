use Rattle.plant_fuse.proofs.ExactlyOneSolution.{solution_exists, solution_is_one}
use Rattle.plant_fuse.proofs.SolutionPrefixes.{solution_goes_on}
use Rattle.plant_fuse.proofs.laws.one_solution.Goals as goal

pub returns : goal.returns
returns c = record { exists = solution_exists; one = solution_is_one; onward = solution_goes_on }
