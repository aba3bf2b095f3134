use Rattle.std.proofs.Common.{rules}
use Rattle.round_budget.proofs.processor_load.fits.Goals as goal

pub returns : goal.returns
returns c = search rules
