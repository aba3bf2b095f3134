use Rattle.std.proofs.Common.{◌≡◌, ◌∙◌, ◌<◌, List, [], ◌∷◌, ◌++◌, length, take, slice_index_or, refl, sym, ap, subst}
use Rattle.std.proofs.Common.{arith}
use Rattle.std.proofs.lemmas.List.{get_or_default}
use Rattle.pals_base.specs.declared.basic_types.LinkNo.{LinkNo}
use Rattle.pals_model.specs.declared.design.Component.{Component}
use Rattle.pals_model.specs.declared.design.Link.{Link}
use Rattle.bus_machine.specs.Plans.{no_link}
use Rattle.pals_bus.specs.proof.LinksFromNodes.{AreOutgoing, no_numbers}
use Rattle.pals_bus.proofs.LinksFromNodes.{numbered, outgoing_none, outgoing_more, source_within}
use Rattle.pals_bus.proofs.outgoing_links.Outgoing.new.Goals as goal

pub loop-number-init : goal.loop-number-init
loop-number-init c =
    let components = c.components.ensures.value in
    subst (λ (cs : List Component).
    AreOutgoing (length cs) (take 0 c.links-links.result.now) c.in_ok-lists.lists) components
    (outgoing_none c.components.result.now c.links-links.result.now c.in_ok-lists.lists c.in_ok-lists.ensures)

pub loop-number-preserved : goal.loop-number-preserved
loop-number-preserved c =
    let design = c.args.design.now in
    let links = c.links-links.result.now in
    let k = c.loop-number.number in
    let lists = c.loop-number.lists in
    let source = (slice_index_or links k no_link).source.0 in
    let within = c.loop-number-test.true in
    let there : k < length design.links =
    subst (λ (ls : List Link). k < length ls) c.links-links.ensures.value within in
    let of_design = source_within design k c.links-links.ensures.rules there in
    let inside : source < length design.components =
    subst (λ (ls : List Link). (slice_index_or ls k no_link).source.0 < length design.components)
    (sym c.links-links.ensures.value) of_design in
    let count = c.loop-number.invariant.count in
    let here : source < length lists = omega (arith, count, inside) in
    let was : c.index_mut.result.now ≡ slice_index_or lists source no_numbers = c.index_mut.ensures.value
    ∙ get_or_default lists source c.index_mut.result.now no_numbers here in
    outgoing_more (length design.components) k source links lists c.push.new.self c.loop-number.invariant within refl
    inside (c.in_ok-push.ensures.ok ∙ ap (λ (ns : List LinkNo). ns ++ numbered k ∷ []) was)
