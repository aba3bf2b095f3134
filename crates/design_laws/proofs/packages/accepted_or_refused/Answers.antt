use Rattle.design_laws.proofs.UniqueInstancesAndDesigns.{no_list}
use Rattle.design_laws.proofs.packages.accepted_or_refused.Goals as goal

pub returns-clause-no_fault : goal.returns-clause-no_fault
returns-clause-no_fault c tree root design fault d f = d.flat.sound f.line fault f.here.found

pub returns-clause-nothing_wrong : goal.returns-clause-nothing_wrong
returns-clause-nothing_wrong c tree root design parts list = no_list tree root design parts list
