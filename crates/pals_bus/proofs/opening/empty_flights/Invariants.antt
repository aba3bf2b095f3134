use Rattle.std.proofs.Common.{◌≡◌, map, take}
use Rattle.pals_model.specs.declared.design.Link.{Link}
use Rattle.pals_bus.specs.proof.OutOfRangeDefaults.{no_flight}
use Rattle.pals_bus.proofs.opening.empty_flights.Given as goal

-- the flight of each link so far is empty
abbrev pub invariant-loop-link : goal.invariant-loop-link
invariant-loop-link l = l.flights ≡ map (λ (_ : Link). no_flight) (take l._link-index l._link-items)
