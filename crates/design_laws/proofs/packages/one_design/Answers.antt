use Rattle.design_laws.proofs.UniqueInstancesAndDesigns.{one_design}
use Rattle.design_laws.proofs.packages.one_design.Goals as goal

pub returns : goal.returns
returns c = one_design c.designs_are_one.ensures
