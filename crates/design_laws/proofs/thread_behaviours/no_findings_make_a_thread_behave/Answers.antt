use Rattle.design_laws.proofs.SoundThreadBehaviour.{behaves}
use Rattle.design_laws.proofs.thread_behaviours.no_findings_make_a_thread_behave.Goals as goal

pub returns : goal.returns
returns c =
    λ tree root n x words differ clean is thread ports none. behaves tree root n x words differ clean is thread ports
    c.no_findings_make_a_behaviour.ensures none
