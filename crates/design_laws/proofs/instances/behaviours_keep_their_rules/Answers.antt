use Rattle.design_laws.proofs.InstanceBehaviourRules.{all_rules}
use Rattle.design_laws.proofs.instances.behaviours_keep_their_rules.Goals as goal

pub returns : goal.returns
returns c =
    λ tree s named shown nothing. all_rules c.no_findings_make_a_thread_behave.ensures tree s named shown nothing
