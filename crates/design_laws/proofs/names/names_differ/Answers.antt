use Rattle.design_laws.proofs.DistinctPackageNames.{differ_given}
use Rattle.design_laws.proofs.names.names_differ.Goals as goal

pub returns : goal.returns
returns c = λ tree root n x given none is. differ_given tree root n x given none is
