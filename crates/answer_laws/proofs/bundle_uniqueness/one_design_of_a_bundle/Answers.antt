use Rattle.answer_laws.proofs.UniqueDesignsAndRefusals.{one_accepted}
use Rattle.answer_laws.proofs.bundle_uniqueness.one_design_of_a_bundle.Goals as goal

pub returns : goal.returns
returns c = one_accepted c.one_design.ensures
