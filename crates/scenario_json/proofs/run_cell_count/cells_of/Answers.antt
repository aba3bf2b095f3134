use Rattle.std.proofs.Common.{arith}
use Rattle.scenario_json.proofs.run_cell_count.cells_of.Goals as goal

pub overflow_mul-result : goal.overflow_mul-result
overflow_mul-result c = grind arith
