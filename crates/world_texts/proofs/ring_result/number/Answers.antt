use Rattle.std.proofs.Common.{◌∙◌, length, None, refl, ap, arith, rules}
use Rattle.std.proofs.lemmas.Int.{to_z-of_z}
use mir.Syntax.{w64}
use mir.Val.{SFits}
use Rattle.pals_base.proofs.UpwardNumbers.{length-map_upwards}
use Rattle.bus_machine.specs.RunParameters.{Run}
use Rattle.world_gen.specs.Rings.{ring_component}
use Rattle.world_texts.proofs.DoneRings.{part_is_there, last_number}
use Rattle.world_texts.proofs.ring_result.number.Goals as goal

pub part-requires : goal.part-requires
part-requires c =
    let count =
    ap (λ (r : Run). length r.design.components) c.requires.done.run
    ∙ length-map_upwards ring_component 0 c.args.nodes in
    let within = c.requires.within in
    omega (arith, count, within)

pub unreachable-requires : goal.unreachable-requires
unreachable-requires c =
    part_is_there c.args.nodes c.args.rounds c.args.node.0 c.args.bus.now None c.requires.done
    c.agreement.ensures.agrees c.requires.some c.requires.within
    c.in-None.ensures refl

pub returns : goal.returns
returns c =
    let is =
    last_number c.args.nodes c.args.rounds c.args.node.0 c.args.bus.now c.in-Some.part.now c.requires.done
    c.agreement.ensures.agrees c.requires.some c.requires.within c.in-Some.ensures in
    let fits : SFits w64 c.number_in.result = search rules in
    to_z-of_z w64 c.number_in.result fits ∙ c.number_in.ensures ∙ is
