use Rattle.pals_model.specs.declared.design.Link.{Link}
use Rattle.bus_machine.specs.Plans.{no_link}
use Rattle.pals_bus.specs.proof.OutOfRangeDefaults.{no_flight}
use Rattle.pals_bus.proofs.Openings.{map_more}
use Rattle.pals_bus.proofs.opening.empty_flights.Goals as goal

pub loop-link-preserved : goal.loop-link-preserved
loop-link-preserved c =
    map_more (λ (_ : Link). no_flight) c.links-link-items.result.now c.loop-link._link-index no_link c.loop-link.flights
    c.push.new.self c.in_ok-new.field-0 c.loop-link-test.true c.loop-link.invariant c.in_ok-new.ensures
    c.in_ok-push.ensures.ok
