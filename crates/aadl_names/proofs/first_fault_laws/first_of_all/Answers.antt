use Rattle.std.proofs.Common.{refl}
use Rattle.aadl_names.proofs.FirstPackageFault.{first_fault}
use Rattle.aadl_names.proofs.first_fault_laws.first_of_all.Goals as goal

pub returns : goal.returns
returns c = λ tree root. first_fault tree root _ refl
