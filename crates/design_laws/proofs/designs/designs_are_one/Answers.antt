use Rattle.design_laws.proofs.AcceptedInstances.{one_design}
use Rattle.design_laws.proofs.designs.designs_are_one.Goals as goal

pub returns : goal.returns
returns c = λ tree s a b x y. one_design tree s a b x y
