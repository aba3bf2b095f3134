use Rattle.std.proofs.Common.{length, ap, arith}
use Rattle.link_buffers.proofs.OldestCopies.{few_copies}
use Rattle.link_buffers.proofs.flight.Flight.flight_add.Goals as goal

pub append_to_round-requires-clause-few : goal.append_to_round-requires-clause-few
append_to_round-requires-clause-few c =
    let f = c.self.inside in
    let few = few_copies f.rounds.items f.order.copies c.self.invariant.1 c.args.round in
    let one = ap length c.take-node.ensures.node in
    omega (arith, few, one, c.self.invariant.2, c.self.invariant.3)
