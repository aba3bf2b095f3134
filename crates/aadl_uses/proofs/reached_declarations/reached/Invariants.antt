use Rattle.aadl_uses.proofs.GraphSearches.{Searched}
use Rattle.aadl_uses.proofs.reached_declarations.reached.Given as goal

abbrev pub invariant-loop-at : goal.invariant-loop-at
invariant-loop-at l = Searched l.graph l.from l.at l.found.keys
