-- The lists of a pair's component have room for its steps.
use Rattle.std.proofs.Common.{◌≡◌, ◌∙◌, ℕ, ◌<◌, List, [], length, map, Some, slice_get, slice_index_or, sym, ap, arith}
use Rattle.std.proofs.lemmas.List.{get_or-map, get_or_default}
use Rattle.std.proofs.lemmas.Option.{slice_get_within, get_or_from_slice_get}
use Rattle.pals_model.specs.declared.design.DesignParts.{DesignParts}
use Rattle.pals_model.specs.declared.part.Part.{Part}
use Rattle.pals_model.specs.Composition.{no_frame}
use Rattle.sync_product.specs.declared.component_stage.Stage.{Stage}
use Rattle.sync_product.specs.proof.ProductSizes.{frame_size, part_size, part_sizes, stage_size, stage_sizes}
use Rattle.sync_product.proofs.ComponentSizes.{count_of_parts, fits_sources, fits_part, fits_frame, fits_stage}
use Rattle.plant_fuse.specs.declared.pair_steps.PairedComponent.{PairedComponent}
use Rattle.plant_fuse.specs.proof.PairSteps.{FitsSteps}
use Rattle.plant_fuse.specs.proof.RoundWork.{IsPaired}

abbrev no_part : Part
no_part = record { frame = no_frame; outs = [] }

-- the elements of the lists fit its steps
pub paired_fits : (design : DesignParts) (parts next : List Part) (stages : List Stage) (node partner : ℕ)
    (side : PairedComponent) (stage : Stage) (part : Part)
    → IsPaired design parts node partner side
    → map part_size parts ≡ part_sizes design → map part_size next ≡ part_sizes design
    → map stage_size stages ≡ stage_sizes design
    → slice_get stages node ≡ Some stage → slice_get next node ≡ Some part → FitsSteps side stage part
paired_fits design parts next stages node partner side stage part is parts_fit next_fit stages_fit at_stage at_part =
    let wired = is.wired_is in
    let inside = slice_get_within design.components node side.wired.component.now wired.component_is in
    let within : node < length parts = omega (arith, inside, count_of_parts design parts parts_fit) in
    let old = slice_index_or parts node no_part in
    record {
      sources_fit = fits_sources design node side.wired wired;
      from_fits =
          ap frame_size (is.from_is ∙ get_or-map (λ (p : Part). p.frame) parts node no_part no_frame within)
          ∙ fits_frame design node side.wired wired parts old parts_fit
          (get_or_default parts node no_part old within);
      stage_fits =
          fits_stage design node side.wired wired stages stage stages_fit
          (sym (get_or_from_slice_get stages node stage stage at_stage));
      part_fits =
          fits_part design node side.wired wired next part next_fit
          (sym (get_or_from_slice_get next node part part at_part));
    }
