use Rattle.design_laws.proofs.UniqueChainStarts.{one_start}
use Rattle.design_laws.proofs.chains.ports_have_one_start.Goals as goal

pub returns : goal.returns
returns c = λ tree name parts flat first second from other to a b l m. one_start flat first second from other to a b l m
