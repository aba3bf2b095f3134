use Rattle.std.proofs.Common.{◌≡◌, ◌∙◌, List, ap, sym, refl, length, map, slice_get, arith}
use Rattle.std.proofs.lemmas.List.{length-map}
use Rattle.std.proofs.lemmas.Option.{slice_get-get_or}
use Rattle.list_lemmas.proofs.ListOperations.{filled_more}
use Rattle.pals_base.specs.declared.basic_types.PortValue.{PortValue}
use Rattle.pals_base.specs.PeriodBoundAndReleases.{sent_steps}
use Rattle.pals_base.proofs.ColumnsAndCutTuples.{length-cut}
use Rattle.pals_model.specs.declared.design.Component.{Component}
use Rattle.pals_model.specs.declared.design.Link.{Link}
use Rattle.pals_model.specs.DesignRules.{IsLink}
use Rattle.pals_model.proofs.FirstMatches.{at_element}
use Rattle.sync_product.specs.proof.ProductSizes.{stage_size, stage_size_of, stage_sizes, message_sizes}
use Rattle.sync_product.specs.proof.Rounds.{sent_by}
use Rattle.sync_product.proofs.SizePreservingWrites.{same_sizes}
use Rattle.sync_product.proofs.ComponentLists.{count_of_sized, within_same}
use Rattle.sync_product.proofs.LinkMessages.{sized_message, sent_item}
use Rattle.sync_product.proofs.PortColumns.{length-column}
use Rattle.pals_model.specs.PortKindsAndRates.{rate_of}
use Rattle.sync_product.proofs.messages.send_all.Goals as goal

pub write_port_tuple-requires : goal.write_port_tuple-requires
write_port_tuple-requires c =
    let design = c.args.design.now in
    let items = c.links-link-items.result.now in
    let number = c.loop-number.number in
    let same = c.links-link-items.ensures.value in
    let is = ap (λ l. slice_get l number) (sym same) ∙ slice_get-get_or items number _ c.loop-number-test.true in
    let kept = at_element (IsLink design) design.links number _ c.links-link-items.ensures.rules.links.each is in
    sized_message design c.args.stages.now c.loop-number.messages number _ _ c.index_mut-message.result.now
    c.index-stages-link.result c.requires.stages c.loop-number.invariant.sizes is refl kept.source.node_is
    c.index_mut-message.ensures.value c.index-stages-link.is
    ∙ ap length (sym c.as_slice.ensures.value)

pub loop-number-preserved : goal.loop-number-preserved
loop-number-preserved c =
    let design = c.args.design.now in
    let stages = c.args.stages.now in
    let items = c.links-link-items.result.now in
    let messages = c.loop-number.messages in
    let number = c.loop-number.number in
    let message = c.index_mut-message.result.now in
    let written = c.write_port_tuple.new.to in
    let same = c.links-link-items.ensures.value in
    let is = ap (λ l. slice_get l number) (sym same) ∙ slice_get-get_or items number _ c.loop-number-test.true in
    let kept = at_element (IsLink design) design.links number _ c.links-link-items.ensures.rules.links.each is in
    let sized =
    sized_message design stages messages number _ _ message c.index-stages-link.result c.requires.stages
    c.loop-number.invariant.sizes is refl kept.source.node_is c.index_mut-message.ensures.value
    c.index-stages-link.is in
    let size : length written ≡ length message =
    (ap length c.write_port_tuple.ensures ∙ length-cut _ _ ∙ length-column c.as_slice.result.now _
    ∙ ap length c.as_slice.ensures.value ∙ sym sized) in
    let many : length (message_sizes design) ≡ length design.links =
    length-map design.links (λ (l : Link). rate_of design l.source.0) in
    let count =
    count_of_sized (λ (tuple : List PortValue). length tuple) messages (message_sizes design)
    c.loop-number.invariant.sizes in
    let linked : length items ≡ length design.links = ap length same in
    let rooms = count_of_sized stage_size stages (stage_sizes design) c.requires.stages in
    let staged =
    length-map design.components
    (λ (d : Component). stage_size_of (sent_steps design.gamma design.period d.rate) d) in
    let inside = within_same kept.source.node_is rooms staged in
    let wanted = map (sent_by stages) items in
    let wants : length wanted ≡ length items = length-map items (sent_by stages) in
    let item =
    sent_item stages items number _ c.as_slice.result.now c.index-stages-link.result written c.loop-number-test.true
    inside c.index-stages-link.is c.as_slice.ensures.value c.write_port_tuple.ensures in
    record {
      sizes =
          same_sizes (λ (tuple : List PortValue). length tuple) messages number message written (omega arith)
          c.index_mut-message.ensures.value size ∙ c.loop-number.invariant.sizes;
      done = filled_more messages wanted number written (omega arith) (omega arith) item c.loop-number.invariant.done;
    }
