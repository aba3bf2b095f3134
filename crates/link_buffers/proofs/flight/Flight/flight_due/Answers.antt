use Rattle.std.proofs.Common.{◌∙◌}
use Rattle.link_buffers.proofs.LeastDue.{first_is_least}
use Rattle.link_buffers.proofs.flight.Flight.flight_due.Goals as goal

pub returns : goal.returns
returns c =
    let f = c.self.inside in
    rw (← c.self.view_is) (c.first_due.ensures
    ∙ first_is_least c.args.reading f.rounds.items f.order.copies c.self.invariant.0 c.self.invariant.1)
