use Rattle.pals_bus.specs.proof.OpeningNodes.{AreOpening}
use Rattle.pals_bus.proofs.opening.opening_nodes.Given as goal

-- the nodes of the codes so far are there
abbrev pub invariant-loop-code : goal.invariant-loop-code
invariant-loop-code l = AreOpening l.design l.yielded l.rounds l.nodes.items
