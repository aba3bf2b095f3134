use Rattle.design_laws.proofs.AcceptedInstances.{has_design}
use Rattle.design_laws.proofs.designs.accepted_instances_have_designs.Goals as goal

pub returns : goal.returns
returns c =
    λ tree s named shown nothing. has_design c.no_findings_make_a_thread_behave.ensures tree s named shown nothing
