use Rattle.std.proofs.Common.{◌∙◌, ap, map, length, List, subst, sym}
use Rattle.std.specs.Arc.{arc_value}
use Rattle.pals_base.specs.declared.basic_types.PortValue.{PortValue}
use Rattle.pals_base.specs.declared.frames.Frame.{Frame}
use Rattle.pals_model.specs.declared.design.DesignParts.{DesignParts}
use Rattle.pals_model.specs.declared.part.Part.{Part}
use Rattle.pals_model.specs.Composition.{opening}
use Rattle.pals_runs.specs.declared.plant_pairs.Pair.{Pair}
use Rattle.sync_product.specs.proof.ProductSizes.{part_size, stage_sizes}
use Rattle.sync_product.specs.proof.Rounds.{frames_of}
use Rattle.sync_product.specs.proof.ProductStates.{opening_parts}
use Rattle.sync_product.proofs.OpeningProducts.{opening_fits, opening_frames, opening_messages_fit}
use Rattle.plant_fuse.specs.FusedComposition.{ArePairs}
use Rattle.plant_fuse.specs.proof.DesignTables.{AreTables}
use Rattle.plant_fuse.specs.proof.FuseState.{FuseState}
use Rattle.plant_fuse.proofs.product.FuseProduct.begun.Goals as goal

pub invariant_of-result : goal.invariant_of-result
invariant_of-result c =
    let design = arc_value c.args.design in
    let tables = c.in_ok-tables.tables in
    let sizes = λ (tuples : List (List PortValue)). map (λ (tuple : List PortValue). length tuple) tuples in
    let are : AreTables design c.args.pairs tables =
    subst (λ (d : DesignParts). AreTables d c.args.pairs tables) c.deref.ensures c.in_ok-tables.ensures in (
      record {
        tables_are = subst (λ (ps : List Pair). AreTables design ps tables) (sym are.pairs_are) are;
        pairs_fit = subst (ArePairs design) (sym are.pairs_are) c.requires;
        stages_fit = c.in_ok-stages.ensures ∙ ap stage_sizes c.deref-2.ensures;
      },
      record {
        parts_fit =
            ap (map part_size) (c.in_ok-parts.ensures ∙ ap opening_parts c.deref-3.ensures)
            ∙ opening_fits design 0 design.components;
        messages_fit =
            ap sizes (c.in_ok-messages.ensures ∙ ap (λ (d : DesignParts). (opening d).messages) c.deref-4.ensures)
            ∙ opening_messages_fit design design.links;
      },
      record {
        parts_fit =
            ap (map part_size) (c.in_ok-next_parts.ensures ∙ ap opening_parts c.deref-5.ensures)
            ∙ opening_fits design 0 design.components;
        messages_fit =
            ap sizes (c.in_ok-next_messages.ensures ∙ ap (λ (d : DesignParts). (opening d).messages) c.deref-6.ensures)
            ∙ opening_messages_fit design design.links;
      },
    )

pub returns : goal.returns
returns c =
    let design = arc_value c.args.design in
    let tables = c.in_ok-tables.tables in
    let stands : List Pair → List Part → List Frame → List (List PortValue) → FuseState =
    λ pairs ps fs ms. record {
      design = design;
      pairs = pairs;
      configuration = record { frames = fs; messages = ms };
      parts = ps;
    } in
    let parts = c.in_ok-parts.ensures ∙ ap opening_parts c.deref-3.ensures in
    ap (λ pairs. stands pairs c.in_ok-parts.parts (frames_of c.in_ok-parts.parts) c.in_ok-messages.messages)
    c.in_ok-tables.ensures.pairs_are
    ∙ ap (λ ps. stands c.args.pairs ps (frames_of ps) c.in_ok-messages.messages) parts
    ∙ ap (λ fs. stands c.args.pairs (opening_parts design) fs c.in_ok-messages.messages)
    (opening_frames design 0 design.components)
    ∙ ap (stands c.args.pairs (opening_parts design) (opening design).frames)
    (c.in_ok-messages.ensures ∙ ap (λ (d : DesignParts). (opening d).messages) c.deref-4.ensures)
