use Rattle.design_laws.proofs.DesignExistenceAndRules.{keeps}
use Rattle.design_laws.proofs.designs.designs_keep_their_rules.Goals as goal

pub returns : goal.returns
returns c =
    λ tree s named shown nothing design is.
    keeps c.no_findings_make_a_thread_behave.ensures tree s named shown nothing design is
