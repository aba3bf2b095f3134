use Rattle.std.proofs.Common.{length}
use Rattle.annex_resolve.proofs.StateReachability.{way_reaches, reached_by_way}
use Rattle.annex_resolve.proofs.cycle_laws.cycles_are_found.Goals as goal

pub returns : goal.returns
returns c = λ b s. (λ on. reached_by_way (length b.states) b s s on, λ (n, way). way_reaches n b s s way)
