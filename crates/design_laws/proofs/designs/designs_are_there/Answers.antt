use Rattle.design_laws.proofs.DesignExistenceAndRules.{there_is}
use Rattle.design_laws.proofs.designs.designs_are_there.Goals as goal

pub returns : goal.returns
returns c =
    λ tree s named shown nothing never.
    there_is c.no_findings_make_a_thread_behave.ensures tree s named shown nothing never
