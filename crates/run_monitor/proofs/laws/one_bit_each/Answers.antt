use Rattle.run_monitor.proofs.FormulaLaws.{one_bit_each}
use Rattle.run_monitor.proofs.laws.one_bit_each.Goals as goal

pub returns : goal.returns
returns c = one_bit_each
