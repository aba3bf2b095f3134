use Rattle.kind_laws.proofs.FusedKinds.{solutions_fit}
use Rattle.kind_laws.proofs.laws.fused_rounds_keep_kinds.Goals as goal

pub returns : goal.returns
returns c = solutions_fit
