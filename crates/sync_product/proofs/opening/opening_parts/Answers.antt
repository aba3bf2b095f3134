use Rattle.std.proofs.Common.{◌∙◌, ◌+◌, ◌++◌, ◌∷◌, ℕ, List, ap, ap₂, sym, map, drop, replicate, append_assoc}
use Rattle.std.specs.List.{enumerate_from}
use Rattle.std.proofs.lemmas.List.{drop_more}
use Rattle.list_lemmas.proofs.ElementPositions.{slice_get-map_enumerate}
use Rattle.pals_base.specs.declared.basic_types.PortValue.{PortValue}
use Rattle.pals_base.specs.declared.basic_types.PortValue.TheVariants.{Absent}
use Rattle.pals_base.specs.declared.frames.Frame.{Frame}
use Rattle.pals_model.specs.declared.design.Component.{Component}
use Rattle.pals_model.specs.declared.part.Part.{Part}
use Rattle.sync_product.specs.proof.ProductStates.{opening_part}
use Rattle.sync_product.specs.proof.ComponentWiring.{tap_ports}
use Rattle.sync_product.proofs.ComponentLists.{entry_at, within_table, item_at}
use Rattle.sync_product.proofs.opening.opening_parts.Goals as goal

pub bounds-taps-node : goal.bounds-taps-node
bounds-taps-node c =
    let design = c.args.design.now in
    within_table (λ (numbered : ℕ × Component). tap_ports design.taps numbered.0) c.args.taps.now design.components
    c.components-component-items.result.now c.loop-node.node c.requires c.components-component-items.ensures.value
    c.loop-node-test.true

pub loop-node-preserved : goal.loop-node-preserved
loop-node-preserved c =
    let design = c.args.design.now in
    let node = c.loop-node.node in
    let items = c.components-component-items.result.now in
    let item = c.component-item.result in
    let is =
    item_at design.components items node item c.components-component-items.ensures.value c.loop-node-test.true
    c.component-item.is in
    let taps =
    c.as_slice.ensures.value
    ∙ entry_at c.args.taps.now _ node c.index-taps-node.result (tap_ports design.taps node) c.requires
    (slice_get-map_enumerate (λ (numbered : ℕ × Component). tap_ports design.taps numbered.0) design.components
    node item is)
    c.index-taps-node.is in
    let opened = λ (numbered : ℕ × Component). opening_part design numbered.0 numbered.1 in
    let later = map opened (enumerate_from (node + 1) (drop (node + 1) items)) in
    let part =
    ap₂ (λ (f : Frame) (os : List (List PortValue)). let p : Part = record { frame = f; outs = os } in p)
    c.in_ok-initial.ensures
    (c.in_ok-absent_each.ensures ∙ ap (map (λ (port : ℕ). replicate item.rate Absent)) taps) in
    ap (λ l. l ++ later) c.in_ok-push.ensures.ok
    ∙ append_assoc c.loop-node.parts _ later
    ∙ ap (λ p. c.loop-node.parts ++ p ∷ later) (part ∙ ap (opening_part design node) c.component-item.is)
    ∙ ap (λ l. c.loop-node.parts ++ map opened (enumerate_from node l))
    (sym (drop_more items node item c.loop-node-test.true))
    ∙ c.loop-node.invariant
