use Rattle.answer_laws.proofs.BundleSplits.{one_split, divided, split_or_not}
use Rattle.answer_laws.proofs.bundle_uniqueness.one_split.Goals as goal

pub returns-clause-one : goal.returns-clause-one
returns-clause-one c = one_split

pub returns-clause-divided : goal.returns-clause-divided
returns-clause-divided c = divided

pub returns-clause-either : goal.returns-clause-either
returns-clause-either c = split_or_not
