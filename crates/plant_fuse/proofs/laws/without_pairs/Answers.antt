use Rattle.plant_fuse.proofs.EquationsWithoutPairs.{without_pairs}
use Rattle.plant_fuse.proofs.laws.without_pairs.Goals as goal

pub returns : goal.returns
returns c = without_pairs
