use Rattle.aadl_uses.proofs.ContainmentOrders.{placed_more}
use Rattle.aadl_uses.proofs.containment_order.place_each.Goals as goal

pub loop-number-preserved : goal.loop-number-preserved
loop-number-preserved c =
    placed_more c.args.graph.now c.loop-number.number c.args.order.now.keys c.loop-number.order.keys
    c.place.new.order.keys c.loop-number.invariant c.in_ok-place.ensures
