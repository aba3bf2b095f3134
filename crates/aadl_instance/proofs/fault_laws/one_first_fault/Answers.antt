use Rattle.aadl_instance.specs.Faults.{Found}
use Rattle.aadl_instance.proofs.FirstFaultUniqueness.{one_by_line}
use Rattle.aadl_instance.proofs.fault_laws.one_first_fault.Goals as goal

pub returns : goal.returns
returns c = λ tree name a b x y. one_by_line (Found tree name) a b x y
