use Rattle.std.proofs.Common.{◌≡◌, ℕ, ◌-◌, ap, sym, ◌∙◌, subst, arith}
use Rattle.std.proofs.lemmas.Grind.{common_steps}
use Rattle.bus_machine.specs.BusStates.{node_at}
use Rattle.bus_machine.specs.Plans.{link_at}
use Rattle.timed_world.specs.proof.MessagesPastDeadline.{flying_past}
use Rattle.timed_world.specs.proof.WorldValuesAndMoves.{WorldValue, KeepsWorld, world_of}
use Rattle.timed_world.proofs.SingleCopiesInFlight.{first_is_past, first_is_not}
use Rattle.timed_world.proofs.world.World.link_past.Goals as goal

pub returns-in-Some : goal.returns-in-Some
returns-in-Some c =
    let v = c.args.self.now in
    let link = c.args.link.0 in
    let keeps = subst KeepsWorld c.self.view_is c.self.invariant in
    let count = (node_at v.bus.state (link_at v.bus.run.design link).target.0).count in
    let counted : c.count-count.result ≡ count = grind (arith, common_steps)
    ∙ ap (λ (x : WorldValue). (node_at x.bus.state (link_at x.bus.run.design link).target.0).count)
    c.self.view_is in
    let before : c.saturating_sub.result ≡ count - 1 = c.saturating_sub.ensures ∙ ap (λ (n : ℕ). n - 1) counted in
    first_is_past v.bus.run (world_of v) keeps.rules keeps.keeps link c.requires c.args.time c.saturating_sub.result
    c.in-Some.why before (sym c.flying_past.ensures ∙ c.in-Some.is)

pub returns : goal.returns
returns c =
    let v = c.args.self.now in
    let link = c.args.link.0 in
    let keeps = subst KeepsWorld c.self.view_is c.self.invariant in
    let count = (node_at v.bus.state (link_at v.bus.run.design link).target.0).count in
    let counted : c.count-count.result ≡ count = grind (arith, common_steps)
    ∙ ap (λ (x : WorldValue). (node_at x.bus.state (link_at x.bus.run.design link).target.0).count)
    c.self.view_is in
    let before : c.saturating_sub.result ≡ count - 1 = c.saturating_sub.ensures ∙ ap (λ (n : ℕ). n - 1) counted in
    c.flying_past-2.ensures
    ∙ ap (flying_past v.bus.run (world_of v) c.args.time link) counted
    ∙ first_is_not v.bus.run (world_of v) keeps.rules keeps.keeps link c.requires c.args.time c.saturating_sub.result
    before (sym c.flying_past.ensures ∙ c.in_default.is)
