use Rattle.design_laws.proofs.PackagesWithoutMemoryFault.{fault_named}
use Rattle.design_laws.proofs.instance_existence.first_faults_are_named.Goals as goal

pub returns : goal.returns
returns c = fault_named
