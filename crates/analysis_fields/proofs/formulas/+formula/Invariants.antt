use Rattle.std.proofs.Common.{◌*◌, ◌+◌}
use Rattle.analysis_fields.proofs.formulas.+formula.Given as goal

abbrev pub decreases-one_part : goal.decreases-one_part
decreases-one_part l = 2 * l.levels + 1

abbrev pub decreases-two_parts : goal.decreases-two_parts
decreases-two_parts l = 2 * l.levels + 1

abbrev pub decreases-formula_in : goal.decreases-formula_in
decreases-formula_in l = 2 * l.levels
