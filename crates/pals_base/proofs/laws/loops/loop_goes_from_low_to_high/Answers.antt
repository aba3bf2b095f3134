use Rattle.pals_base.proofs.ForRanges.{length-numbers, get_or-numbers, numbers_within}
use Rattle.pals_base.proofs.laws.loops.loop_goes_from_low_to_high.Goals as goal

pub returns-clause-count : goal.returns-clause-count
returns-clause-count c = length-numbers

pub returns-clause-at : goal.returns-clause-at
returns-clause-at c = get_or-numbers

pub returns-clause-within : goal.returns-clause-within
returns-clause-within c = numbers_within
