use Rattle.aadl_uses.proofs.ContainmentOrders.{placed_any}
use Rattle.aadl_uses.proofs.containment_order.place_guessed.Goals as goal

pub loop-number-preserved : goal.loop-number-preserved
loop-number-preserved c =
    placed_any c.args.graph.now 0 _ c.args.order.now.keys c.loop-number.order.keys c.place.new.order.keys
    c.loop-number.invariant c.in_ok-place.ensures
