use Rattle.aadl_tree.proofs.ExampleSpellings.{counting_plain, counting_ended, counting_canonical}
use Rattle.aadl_tree.proofs.laws.counting_is_spelled.Goals as goal

pub returns-clause-plain : goal.returns-clause-plain
returns-clause-plain c = counting_plain

pub returns-clause-ended : goal.returns-clause-ended
returns-clause-ended c = counting_ended

pub returns-clause-canonical : goal.returns-clause-canonical
returns-clause-canonical c = counting_canonical
