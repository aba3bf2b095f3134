use Rattle.std.proofs.Common.{◌∙◌, ◌++◌, ◌∷◌, ℕ, List, [], ap, sym, length, map, take, set, slice_index_or, arith}
use Rattle.std.proofs.lemmas.List.{take_all, take_more}
use Rattle.list_lemmas.proofs.ListOperations.{length-map_enumerate_from}
use Rattle.pals_model.specs.declared.design.Component.{Component}
use Rattle.pals_model.specs.DesignRules.{IsTap}
use Rattle.pals_model.proofs.FirstMatches.{at_element}
use Rattle.sync_product.specs.proof.ComponentWiring.{tap_ports}
use Rattle.sync_product.proofs.ComponentLists.{item_at}
use Rattle.sync_product.proofs.TapPortTable.{table_from, no_taps, with_tap}
use Rattle.sync_product.proofs.taps.all_taps.Goals as goal

pub loop-tap-init : goal.loop-tap-init
loop-tap-init c =
    let items = c.components-component-items.result.now in
    let none = λ (d : Component). let ports : List ℕ = [] in ports in
    c.loop-component.invariant
    ∙ ap (map none) (take_all c.loop-component._component-index items c.loop-component-test.false
    ∙ c.components-component-items.ensures.value)
    ∙ no_taps 0 c.args.design.now.components

pub index_mut-ports-requires : goal.index_mut-ports-requires
index_mut-ports-requires c =
    let design = c.args.design.now in
    let items = c.taps-tap-items.result.now in
    let at = c.loop-tap.tap-index in
    let tap = c.tap-item.result in
    let kept =
    at_element (IsTap design) design.taps at tap c.taps-tap-items.ensures.rules.taps.each
    (item_at design.taps items at tap c.taps-tap-items.ensures.value c.loop-tap-test.true c.tap-item.is) in
    omega (
      arith,
      ap length c.loop-tap.invariant,
      length-map_enumerate_from (λ (numbered : ℕ × Component). tap_ports (take at items) numbered.0) 0
          design.components,
      kept.source.node_is,
    )

pub loop-tap-preserved : goal.loop-tap-preserved
loop-tap-preserved c =
    let components = c.args.design.now.components in
    let items = c.taps-tap-items.result.now in
    let at = c.loop-tap.tap-index in
    let tap = c.tap-item.result in
    let source = tap.source.0 in
    let ports = c.index_mut-ports.result.now in
    ap (set c.loop-tap.table source) c.in_ok-push-2.ensures.ok
    ∙ ap (λ t. set t source (ports ++ tap.out_port ∷ [])) c.loop-tap.invariant
    ∙ with_tap 0 source components (take at items) tap ports (omega arith)
    (c.index_mut-ports.ensures.value ∙ ap (λ t. slice_index_or t source ports) c.loop-tap.invariant)
    ∙ ap (λ t. table_from 0 components (take at items ++ t ∷ [])) c.tap-item.is
    ∙ sym (ap (table_from 0 components) (take_more items at tap c.loop-tap-test.true))

pub returns : goal.returns
returns c =
    c.loop-tap.invariant
    ∙ ap (table_from 0 c.args.design.now.components)
    (take_all c.loop-tap.tap-index c.taps-tap-items.result.now c.loop-tap-test.false
    ∙ c.taps-tap-items.ensures.value)
