use Rattle.std.proofs.Common.{◌∙◌, ℕ, ◌<◌, ap, length, arith}
use Rattle.list_lemmas.proofs.ElementPositions.{slice_get-map_enumerate}
use Rattle.pals_model.specs.declared.design.Component.{Component}
use Rattle.pals_model.specs.ComponentInputs.{sources_of}
use Rattle.sync_product.specs.proof.ComponentWiring.{tap_ports}
use Rattle.sync_product.proofs.ComponentLists.{entry_at, item_at, within_table}
use Rattle.sync_product.proofs.wiring.Wiring.component.Goals as goal

pub index-requires : goal.index-requires
index-requires c =
    let design = c.args.design.now in
    within_table (λ (numbered : ℕ × Component). sources_of design numbered.0 numbered.1) c.args.self.now.sources
    design.components c.components.result.now c.args.node c.requires.wiring.sources_are c.components.ensures.value
    (omega (arith, c.requires.node, ap length c.components.ensures.value))

pub index-requires-2 : goal.index-requires-2
index-requires-2 c =
    let design = c.args.design.now in
    within_table (λ (numbered : ℕ × Component). tap_ports design.taps numbered.0) c.args.self.now.taps
    design.components c.components.result.now c.args.node c.requires.wiring.taps_are c.components.ensures.value
    (omega (arith, c.requires.node, ap length c.components.ensures.value))

pub returns : goal.returns
returns c =
    let design = c.args.design.now in
    let node = c.args.node in
    let items = c.components.result.now in
    let item = c.index-components-node.result in
    let same = c.components.ensures.value in
    let within : node < length items = omega (arith, c.requires.node, ap length same) in
    let is = item_at design.components items node item same within c.index-components-node.is in
    record {
      component_is = is;
      sources_are =
          c.as_slice.ensures.value
          ∙ entry_at c.args.self.now.sources _ node c.index.result.now (sources_of design node item)
          c.requires.wiring.sources_are
          (slice_get-map_enumerate (λ (numbered : ℕ × Component). sources_of design numbered.0 numbered.1)
          design.components node item is) c.index.ensures;
      taps_are =
          c.as_slice-2.ensures.value
          ∙ entry_at c.args.self.now.taps _ node c.index-2.result.now (tap_ports design.taps node)
          c.requires.wiring.taps_are
          (slice_get-map_enumerate (λ (numbered : ℕ × Component). tap_ports design.taps numbered.0) design.components
          node item is)
          c.index-2.ensures;
    }
