use Rattle.design_laws.proofs.SortedFindings.{has_list}
use Rattle.design_laws.proofs.instance_existence.each_instance_has_its_list.Goals as goal

pub returns : goal.returns
returns c = has_list
