use Rattle.std.proofs.Common.{◌≤◌, length}
use Rattle.aadl_uses.specs.proof.ContainmentOrders.{IsSequence}
use Rattle.aadl_uses.proofs.containment_order.order.Given as goal

-- each iteration places one more, until all are placed
abbrev pub invariant-loop-turn : goal.invariant-loop-turn
invariant-loop-turn l = record {
  sequence : IsSequence l.graph l.order.keys;
  rounds : l._turn ≤ length l.order.keys;
}
