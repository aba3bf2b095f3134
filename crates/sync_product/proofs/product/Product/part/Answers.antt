use Rattle.std.proofs.Common.{◌∙◌, ℕ, ◌<◌, ap, sym, refl, length, slice_get, arith}
use Rattle.std.proofs.lemmas.Option.{slice_get_read}
use Rattle.std.specs.Arc.{arc_value}
use Rattle.list_lemmas.proofs.ListOperations.{length-map_enumerate_from}
use Rattle.pals_model.specs.declared.design.Component.{Component}
use Rattle.sync_product.specs.proof.ProductStates.{ProductState}
use Rattle.sync_product.specs.proof.ProductSizes.{part_size, part_size_of, part_sizes}
use Rattle.sync_product.specs.proof.ComponentWiring.{tap_ports}
use Rattle.sync_product.proofs.ComponentLists.{count_of_sized}
use Rattle.sync_product.proofs.product.Product.part.Goals as goal

pub bounds-as_slice-node : goal.bounds-as_slice-node
bounds-as_slice-node c =
    let design = arc_value c.self.inside.design in
    omega (
      arith,
      count_of_sized part_size c.self.inside.parts (part_sizes design) c.self.invariant.1.parts_fit,
      length-map_enumerate_from
          (λ (numbered : ℕ × Component). part_size_of numbered.1 (tap_ports design.taps numbered.0)) 0
          design.components,
      ap (λ (s : ProductState). length s.design.components) c.self.view_is,
      c.as_slice.ensures.len,
      c.requires,
    )

pub returns : goal.returns
returns c =
    let node = c.args.node.0 in
    let parts = c.as_slice.result.now in
    let design = arc_value c.self.inside.design in
    let within : node < length parts = omega (
      arith,
      count_of_sized part_size c.self.inside.parts (part_sizes design) c.self.invariant.1.parts_fit,
      length-map_enumerate_from
          (λ (numbered : ℕ × Component). part_size_of numbered.1 (tap_ports design.taps numbered.0)) 0
          design.components,
      ap (λ (s : ProductState). length s.design.components) c.self.view_is,
      c.as_slice.ensures.len,
      c.requires,
    ) in
    ap (λ (s : ProductState). slice_get s.parts node) (sym c.self.view_is)
    ∙ ap (λ l. slice_get l node) (sym c.as_slice.ensures.value)
    ∙ slice_get_read parts (length parts) node c.index-as_slice-node.result refl within c.index-as_slice-node.is
