use Rattle.std.proofs.Common.{◌∙◌, ap, subst, map, length, List}
use Rattle.std.specs.Arc.{arc_value}
use Rattle.pals_base.specs.declared.basic_types.PortValue.{PortValue}
use Rattle.pals_base.specs.declared.frames.Frame.{Frame}
use Rattle.pals_model.specs.declared.design.DesignParts.{DesignParts}
use Rattle.pals_model.specs.declared.part.Part.{Part}
use Rattle.pals_model.specs.Composition.{opening}
use Rattle.sync_product.specs.proof.ProductSizes.{part_size, stage_sizes}
use Rattle.sync_product.specs.proof.ComponentWiring.{IsWiring}
use Rattle.sync_product.specs.proof.Rounds.{frames_of}
use Rattle.sync_product.specs.proof.ProductStates.{ProductState, opening_parts}
use Rattle.sync_product.proofs.OpeningProducts.{opening_fits, opening_frames, opening_messages_fit}
use Rattle.sync_product.proofs.product.Product.new.Goals as goal

pub invariant_of-result : goal.invariant_of-result
invariant_of-result c =
    let design = arc_value c.args.design in
    let sizes = λ (tuples : List (List PortValue)). map (λ (tuple : List PortValue). length tuple) tuples in (
      record {
        wiring_is = subst (λ (d : DesignParts). IsWiring d c.in_ok-wiring.wiring) c.deref.ensures
            c.in_ok-wiring.ensures;
        stages_fit = c.in_ok-stages.ensures ∙ ap stage_sizes c.deref-2.ensures;
      },
      record {
        parts_fit =
            ap (map part_size) (c.in_ok-parts.ensures ∙ ap opening_parts c.deref-3.ensures)
            ∙ opening_fits design 0 design.components;
        messages_fit =
            ap sizes (c.in_ok-messages.ensures ∙ ap (λ (d : DesignParts). (opening d).messages) c.deref-4.ensures)
            ∙ opening_messages_fit design design.links;
      },
      record {
        parts_fit =
            ap (map part_size) (c.in_ok-next_parts.ensures ∙ ap opening_parts c.deref-5.ensures)
            ∙ opening_fits design 0 design.components;
        messages_fit =
            ap sizes (c.in_ok-next_messages.ensures ∙ ap (λ (d : DesignParts). (opening d).messages) c.deref-6.ensures)
            ∙ opening_messages_fit design design.links;
      },
    )

pub returns : goal.returns
returns c =
    let design = arc_value c.args.design in
    let stands : List Part → List Frame → List (List PortValue) → ProductState =
    λ ps fs ms. record { design = design; configuration = record { frames = fs; messages = ms }; parts = ps } in
    let parts = c.in_ok-parts.ensures ∙ ap opening_parts c.deref-3.ensures in
    ap (λ ps. stands ps (frames_of ps) c.in_ok-messages.messages) parts
    ∙ ap (λ fs. stands (opening_parts design) fs c.in_ok-messages.messages) (opening_frames design 0 design.components)
    ∙ ap (stands (opening_parts design) (opening design).frames)
    (c.in_ok-messages.ensures ∙ ap (λ (d : DesignParts). (opening d).messages) c.deref-4.ensures)
