use Rattle.design_laws.proofs.FaultsAtOnePlace.{rises}
use Rattle.design_laws.proofs.UniqueFirstFaults.{one_fault}
use Rattle.design_laws.proofs.unique_faults.one_fault.Goals as goal

pub returns : goal.returns
returns c = λ text tree root a b given x y. one_fault tree (rises text tree given) root a b x y
