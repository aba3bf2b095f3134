use Rattle.design_laws.proofs.UniqueInstancesAndDesigns.{one_list}
use Rattle.design_laws.proofs.packages.one_list.Goals as goal

pub returns : goal.returns
returns c = one_list
