use Rattle.answer_laws.proofs.UniqueDesignsAndRefusals.{accepted_or_refused}
use Rattle.answer_laws.proofs.bundle_uniqueness.accepted_is_not_refused.Goals as goal

pub returns : goal.returns
returns c = accepted_or_refused
