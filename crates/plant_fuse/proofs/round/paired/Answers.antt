use Rattle.std.proofs.Common.{◌<◌, sym, length, refl, arith}
use Rattle.std.proofs.lemmas.List.{get_or-map}
use Rattle.pals_model.specs.declared.part.Part.{Part}
use Rattle.pals_model.specs.Composition.{no_frame}
use Rattle.sync_product.proofs.ComponentSizes.{count_of_parts}
use Rattle.plant_fuse.proofs.round.paired.Goals as goal

pub bounds-parts-at : goal.bounds-parts-at
bounds-parts-at c = omega (arith, c.requires.node, count_of_parts c.args.design.now c.args.parts.now c.requires.parts)

pub returns : goal.returns
returns c =
    let parts = c.args.parts.now in
    let node = c.args.node.0 in
    let inside : node < length parts =
    omega (arith, c.requires.node, count_of_parts c.args.design.now parts c.requires.parts) in
    record {
      wired_is = c.component.ensures;
      partner_is = refl;
      from_is = sym (get_or-map (λ (p : Part). p.frame) parts node c.index-parts-at.result no_frame inside);
    }
