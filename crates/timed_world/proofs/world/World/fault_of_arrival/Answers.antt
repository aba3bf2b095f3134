use Rattle.std.proofs.Common.{◌≡◌, Option, Some, None, Bor, refl, ap, ◌∙◌, sym, subst, arith}
use Rattle.std.specs.Prelude.{is_some, option_copied}
use Rattle.pals_base.specs.declared.period_bound_and_releases.Gamma.{Gamma}
use Rattle.pals_model.specs.declared.flight_copy.FlightCopy.{FlightCopy}
use Rattle.pals_model.specs.declared.design.DesignParts.{DesignParts}
use Rattle.bus_machine.specs.LinkEvents.{is_in_flight}
use Rattle.bus_machine.specs.BusStates.{flight_at}
use Rattle.timed_world.specs.proof.WorldValuesAndMoves.{WorldValue, KeepsWorld, world_of}
use Rattle.timed_world.proofs.SingleCopiesInFlight.{arrival_fits}
use Rattle.timed_world.proofs.world.World.fault_of_arrival.Goals as goal

some_copied : (o : Option (Bor FlightCopy)) → is_some (option_copied o) ≡ is_some o
some_copied None = refl
some_copied (Some copy) = refl

pub overflow_add-earliest : goal.overflow_add-earliest
overflow_add-earliest c =
    let v = c.args.self.now in
    let link = c.args.link.0 in
    let round = c.args.round in
    let keeps = subst KeepsWorld c.self.view_is c.self.invariant in
    let same = ap (λ (x : WorldValue). is_in_flight round (flight_at x.bus.state link)) c.self.view_is in
    let flies =
    sym same ∙ sym (ap is_some c.in_flight.ensures) ∙ some_copied c.in_flight.result ∙ c.if-is_none.ensures in
    let fits = arrival_fits v.bus.run (world_of v) keeps.rules keeps.keeps link c.requires keeps.few round flies in
    let gamma =
    c.gamma-least.ensures.value ∙ ap (λ (d : DesignParts). d.gamma) c.design.ensures
    ∙ ap (λ (x : WorldValue). x.bus.run.design.gamma) c.self.view_is in
    let least = ap (λ (g : Gamma). g.mu_min) gamma in
    let since = c.flight_since.ensures in
    omega (arith, fits, least, since)
