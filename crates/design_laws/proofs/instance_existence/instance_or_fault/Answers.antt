use Rattle.design_laws.proofs.FirstFaultOrInstance.{each_package_ends}
use Rattle.design_laws.proofs.instance_existence.instance_or_fault.Goals as goal

pub returns : goal.returns
returns c = each_package_ends
