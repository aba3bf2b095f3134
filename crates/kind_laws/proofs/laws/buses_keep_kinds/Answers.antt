use Rattle.kind_laws.proofs.BusKinds.{buses_fit}
use Rattle.kind_laws.proofs.laws.buses_keep_kinds.Goals as goal

pub returns : goal.returns
returns c = buses_fit
