use Rattle.design_laws.proofs.PackageNames.{named}
use Rattle.design_laws.proofs.names.texts_name.Goals as goal

pub returns : goal.returns
returns c = λ tree. named tree
