use Rattle.design_laws.proofs.UniqueInstancesAndDesigns.{one_instance}
use Rattle.design_laws.proofs.packages.one_instance.Goals as goal

pub returns : goal.returns
returns c = one_instance
