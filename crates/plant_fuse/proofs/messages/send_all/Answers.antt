use Rattle.std.proofs.Common.{◌≡◌, ◌∙◌, ℕ, ◌<◌, List, None, Some, ap, sym, refl, length, map, slice_get, slice_index_or}
use Rattle.std.proofs.Common.{arith}
use Rattle.std.proofs.lemmas.List.{length-map}
use Rattle.std.proofs.lemmas.Option.{slice_get-get_or}
use Rattle.list_lemmas.proofs.ListOperations.{filled_more}
use Rattle.pals_base.specs.declared.basic_types.PortValue.{PortValue}
use Rattle.pals_base.proofs.ColumnsAndCutTuples.{length-cut}
use Rattle.pals_model.specs.declared.design.DesignParts.{DesignParts}
use Rattle.pals_model.specs.declared.design.Link.{Link}
use Rattle.pals_model.specs.PortKindsAndRates.{rate_of}
use Rattle.pals_model.specs.DesignRules.{IsLink}
use Rattle.pals_model.proofs.FirstMatches.{at_element}
use Rattle.sync_product.specs.proof.ProductSizes.{message_sizes}
use Rattle.sync_product.proofs.SizePreservingWrites.{same_sizes}
use Rattle.sync_product.proofs.ComponentLists.{count_of_sized}
use Rattle.sync_product.proofs.LinkMessages.{sized_message}
use Rattle.sync_product.proofs.PortColumns.{length-column}
use Rattle.plant_fuse.specs.proof.PartnersAndPairLinks.{is_inside}
use Rattle.plant_fuse.specs.proof.Messages.{sent_on}
use Rattle.sync_product.proofs.ComponentSizes.{count_of_stages}
use Rattle.plant_fuse.proofs.PartnerListLength.{count_of_partners}
use Rattle.plant_fuse.proofs.RoundWork.{partner_entry}
use Rattle.plant_fuse.proofs.LinkMessages.{sent_item}
use Rattle.plant_fuse.proofs.messages.send_all.Goals as goal

abbrev no_link : Link
no_link = record { source = record { 0 = 0 }; out_port = 0; target = record { 0 = 0 }; in_port = 0; adaptor = None }

-- the link of a turn is one of the design
link_is : (design : DesignParts) (items : List Link) (number : ℕ) → items ≡ design.links → number < length items
    → slice_get design.links number ≡ Some (slice_index_or items number no_link)
link_is design items number same within =
    ap (λ (l : List Link). slice_get l number) (sym same) ∙ slice_get-get_or items number no_link within

pub index-requires : goal.index-requires
index-requires c =
    let design = c.args.design.now in
    let rules = c.links-link-items.ensures.rules in
    let kept =
    at_element (IsLink design) design.links c.loop-number.number _ rules.links.each
    (link_is design c.links-link-items.result.now c.loop-number.number c.links-link-items.ensures.value
    c.loop-number-test.true) in
    let inside = kept.source.node_is in
    omega (arith, inside, count_of_partners design c.args.tables.now.pairs c.args.tables.now c.requires.tables)

pub write_port_tuple-requires : goal.write_port_tuple-requires
write_port_tuple-requires c =
    let design = c.args.design.now in
    let number = c.loop-number.number in
    let link = slice_index_or c.links-link-items.result.now number no_link in
    let is =
    link_is design c.links-link-items.result.now number c.links-link-items.ensures.value c.loop-number-test.true in
    let kept = at_element (IsLink design) design.links number link c.links-link-items.ensures.rules.links.each is in
    sized_message design c.args.stages.now c.loop-number.messages number link.source.0 link
    c.index_mut-message.result.now c.index-stages-source.result c.requires.stages c.loop-number.invariant.sizes is
    refl kept.source.node_is c.index_mut-message.ensures.value c.index-stages-source.is
    ∙ ap length (sym c.as_slice.ensures.value)

pub loop-number-preserved : goal.loop-number-preserved
loop-number-preserved c =
    let design = c.args.design.now in
    let stages = c.args.stages.now in
    let pairs = c.args.tables.now.pairs in
    let items = c.links-link-items.result.now in
    let messages = c.loop-number.messages in
    let number = c.loop-number.number in
    let link = slice_index_or items number no_link in
    let message = c.index_mut-message.result.now in
    let written = c.write_port_tuple.new.to in
    let is = link_is design items number c.links-link-items.ensures.value c.loop-number-test.true in
    let kept = at_element (IsLink design) design.links number link c.links-link-items.ensures.rules.links.each is in
    let node = kept.source.node_is in
    let sized =
    sized_message design stages messages number link.source.0 link message c.index-stages-source.result
    c.requires.stages c.loop-number.invariant.sizes is refl node c.index_mut-message.ensures.value
    c.index-stages-source.is in
    let size : length written ≡ length message =
    (ap length c.write_port_tuple.ensures
    ∙ length-cut c.sent_count-count.result _
    ∙ length-column c.as_slice.result.now link.out_port
    ∙ ap length c.as_slice.ensures.value
    ∙ sym sized) in
    let many : length (message_sizes design) ≡ length design.links =
    length-map design.links (λ (l : Link). rate_of design l.source.0) in
    let count =
    count_of_sized (λ (tuple : List PortValue). length tuple) messages (message_sizes design)
    c.loop-number.invariant.sizes in
    let linked : length items ≡ length design.links = ap length c.links-link-items.ensures.value in
    let rooms = count_of_stages design stages c.requires.stages in
    let wanted = map (sent_on pairs stages) items in
    let wants : length wanted ≡ length items = length-map items (sent_on pairs stages) in
    let within : number < length messages = omega (arith, c.loop-number-test.true, linked, many, count) in
    let partner =
    partner_entry design pairs c.args.tables.now link.source.0 c.index.result.now c.requires.tables node
    c.index.ensures in
    let item =
    sent_item pairs stages items number no_link c.as_slice.result.now c.index-stages-source.result written
    c.is_inside-inside.result c.sent_count-count.result
    c.loop-number-test.true (omega (arith, node, rooms)) c.index-stages-source.is c.as_slice.ensures.value
    (c.is_inside-inside.ensures ∙ ap (λ o. is_inside o link) partner) c.sent_count-count.ensures
    c.write_port_tuple.ensures in
    record {
      sizes =
          same_sizes (λ (tuple : List PortValue). length tuple) messages number message written within
          c.index_mut-message.ensures.value size ∙ c.loop-number.invariant.sizes;
      done =
          filled_more messages wanted number written (omega (arith, wants, linked, many, count))
          (omega (arith, wants, c.loop-number-test.true)) item c.loop-number.invariant.done;
    }
