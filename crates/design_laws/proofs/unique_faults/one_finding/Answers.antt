use Rattle.design_laws.proofs.FaultsAtOnePlace.{rises, one_finding}
use Rattle.design_laws.proofs.unique_faults.one_finding.Goals as goal

pub returns : goal.returns
returns c =
    λ text tree root a b given x y place number. one_finding tree (rises text tree given) root a b x y place number
