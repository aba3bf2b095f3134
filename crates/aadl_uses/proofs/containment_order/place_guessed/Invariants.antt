use Rattle.aadl_uses.specs.proof.ContainmentOrders.{ArePlaced}
use Rattle.aadl_uses.proofs.containment_order.place_guessed.Given as goal

abbrev pub invariant-loop-number : goal.invariant-loop-number
invariant-loop-number l = ArePlaced l.graph 0 l.fn.order.keys l.order.keys
