use Rattle.aadl_instance.proofs.fault_laws.not_both.Goals as goal

pub returns : goal.returns
returns c = λ tree name parts fault flat f. flat.sound f.line fault f.here.found
