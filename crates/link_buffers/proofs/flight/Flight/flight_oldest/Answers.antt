use Rattle.std.proofs.Common.{sym, ◌∙◌}
use Rattle.link_buffers.proofs.OldestCopies.{oldest_is}
use Rattle.link_buffers.proofs.flight.Flight.flight_oldest.Goals as goal

pub returns : goal.returns
returns c =
    let f = c.self.inside in
    rw (← c.self.view_is)
    (c.oldest_of_round.ensures ∙ sym (oldest_is f.rounds.items f.order.copies c.self.invariant.1 c.args.round))
