use Rattle.std.proofs.Common.{◌∙◌, ap}
use Rattle.std.specs.Prelude.{slice_index_or}
use Rattle.pals_base.specs.declared.basic_types.NodeNo.{NodeNo}
use Rattle.pals_model.specs.declared.design.DesignParts.{DesignParts}
use Rattle.bus_machine.specs.LinkEvents.{is_in_flight}
use Rattle.bus_machine.specs.Plans.{no_link}
use Rattle.pals_bus.specs.proof.BusInvariant.{copies_in_option}
use Rattle.pals_bus.proofs.MissedMessageCauses.{cause_told}
use Rattle.pals_bus.proofs.bus_fields.BusFields.cause_of.Goals as goal

pub returns : goal.returns
returns c =
    let f = c.args.self.now in
    let source =
    ap (λ (n : NodeNo). n.0) c.source_of-source.ensures
    ∙ ap (λ ls. (slice_index_or ls c.args.link.0 no_link).source.0)
    (c.links.ensures.value ∙ ap (λ (d : DesignParts). d.links) c.deref.ensures) in
    c.cause_by.ensures
    ∙ cause_told f c.args.link.0 c.args.round c.source_of-source.result.0 c.sent_rounds-sent.result c.index.result.now
    c.is_in_flight-flying.result c.requires.keeps c.requires.some source c.index.ensures c.sent_rounds-sent.ensures
    (c.is_in_flight-flying.ensures ∙ ap (λ o. is_in_flight c.args.round (copies_in_option o)) c.get.ensures)
