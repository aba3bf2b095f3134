use Rattle.plant_fuse.proofs.StateSolutions.{states_follow}
use Rattle.plant_fuse.proofs.laws.products_follow.Goals as goal

pub returns : goal.returns
returns c = states_follow
