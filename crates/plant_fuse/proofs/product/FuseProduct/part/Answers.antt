use Rattle.std.proofs.Common.{◌∙◌, ◌<◌, ap, sym, refl, length, slice_get, arith}
use Rattle.std.proofs.lemmas.Option.{slice_get_read}
use Rattle.std.specs.Arc.{arc_value}
use Rattle.plant_fuse.specs.proof.FuseState.{FuseState}
use Rattle.sync_product.proofs.ComponentSizes.{count_of_parts}
use Rattle.plant_fuse.proofs.product.FuseProduct.part.Goals as goal

pub bounds-as_slice-node : goal.bounds-as_slice-node
bounds-as_slice-node c =
    omega (
      arith,
      count_of_parts (arc_value c.self.inside.design) c.self.inside.parts c.self.invariant.1.parts_fit,
      ap (λ (s : FuseState). length s.design.components) c.self.view_is,
      c.as_slice.ensures.len,
      c.requires,
    )

pub returns : goal.returns
returns c =
    let node = c.args.node.0 in
    let parts = c.as_slice.result.now in
    let within : node < length parts = omega (
      arith,
      count_of_parts (arc_value c.self.inside.design) c.self.inside.parts c.self.invariant.1.parts_fit,
      ap (λ (s : FuseState). length s.design.components) c.self.view_is,
      c.as_slice.ensures.len,
      c.requires,
    ) in
    ap (λ (s : FuseState). slice_get s.parts node) (sym c.self.view_is)
    ∙ ap (λ l. slice_get l node) (sym c.as_slice.ensures.value)
    ∙ slice_get_read parts (length parts) node c.index-as_slice-node.result refl within c.index-as_slice-node.is
