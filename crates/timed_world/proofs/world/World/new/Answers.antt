use Rattle.std.proofs.Common.{false, length, refl, ap, ◌∙◌, sym, subst}
use Rattle.std.specs.Arc.{arc_value}
use Rattle.pals_model.specs.declared.design.DesignParts.{DesignParts}
use Rattle.pals_model.specs.declared.delays.Delays.{Delays}
use Rattle.pals_model.specs.Delays.{AreDelays}
use Rattle.pals_model.specs.DesignRules.{IsDesign}
use Rattle.pals_bus.specs.proof.OpeningNodes.{opening_bus}
use Rattle.run_laws.specs.Worlds.{zeros}
use Rattle.timed_world.specs.proof.WorldValuesAndMoves.{KeepsWorld, opening_value}
use Rattle.timed_world.proofs.OpeningWorlds.{least_delays, no_sendings, opening_kept, same_world}
use Rattle.timed_world.proofs.world.World.new.Goals as goal

pub new-requires-clause-delays : goal.new-requires-clause-delays
new-requires-clause-delays c =
    subst (λ (d : DesignParts). AreDelays (length d.links) c.in_ok-delays.delays) c.deref.ensures
    c.in_ok-delays.ensures.fits

pub invariant_of-result : goal.invariant_of-result
invariant_of-result c =
    let design = arc_value c.args.design in
    let old = opening_value design c.args.codes c.args.env c.args.rounds in
    let delays = c.in_ok-delays.ensures.value ∙ ap (λ (d : DesignParts). least_delays d) c.deref.ensures in
    let bus =
    c.in_ok-bus.ensures ∙ ap
    (λ (l : Delays). opening_bus (record { design = design; env = c.args.env; rounds = c.args.rounds; delays = l })
    c.args.codes false) delays in
    let readings = c.in_ok-readings.ensures ∙ ap zeros c.deref-2.ensures in
    let since = c.in_ok-since.ensures ∙ ap zeros c.deref-3.ensures in
    let ready = c.in_ok-ready.ensures ∙ ap zeros c.deref-4.ensures in
    let sent_at = c.in_ok-sent_at.ensures ∙ ap no_sendings c.deref-5.ensures in
    let same =
    same_world old c.in_ok-bus.bus 0 c.in_ok-readings.readings c.in_ok-since.since c.in_ok-ready.ready
    c.in_ok-sent_at.sent_at bus refl readings since ready sent_at in
    let rules = subst IsDesign c.deref.ensures c.least_delays.ensures.rules in
    subst KeepsWorld (sym same)
    (opening_kept design c.args.codes c.args.env c.args.rounds rules c.requires.some c.requires.most)

pub returns : goal.returns
returns c =
    let design = arc_value c.args.design in
    let old = opening_value design c.args.codes c.args.env c.args.rounds in
    let delays = c.in_ok-delays.ensures.value ∙ ap (λ (d : DesignParts). least_delays d) c.deref.ensures in
    let bus =
    c.in_ok-bus.ensures ∙ ap
    (λ (l : Delays). opening_bus (record { design = design; env = c.args.env; rounds = c.args.rounds; delays = l })
    c.args.codes false) delays in
    let readings = c.in_ok-readings.ensures ∙ ap zeros c.deref-2.ensures in
    let since = c.in_ok-since.ensures ∙ ap zeros c.deref-3.ensures in
    let ready = c.in_ok-ready.ensures ∙ ap zeros c.deref-4.ensures in
    let sent_at = c.in_ok-sent_at.ensures ∙ ap no_sendings c.deref-5.ensures in
    let same =
    same_world old c.in_ok-bus.bus 0 c.in_ok-readings.readings c.in_ok-since.since c.in_ok-ready.ready
    c.in_ok-sent_at.sent_at bus refl readings since ready sent_at in
    same
