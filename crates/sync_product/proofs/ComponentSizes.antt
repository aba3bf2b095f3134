-- The sizes of each component's frame, part and stage in a product are the sizes that its steps need.
use Rattle.std.proofs.Common.{◌≡◌, ◌∙◌, ℕ, List, length, map, slice_index_or, sym, ap}
use Rattle.std.proofs.lemmas.List.{length-map}
use Rattle.list_lemmas.proofs.ListOperations.{length-map_enumerate_from}
use Rattle.list_lemmas.proofs.ElementPositions.{slice_get-map_some, slice_get-map_enumerate}
use Rattle.pals_base.specs.PeriodBoundAndReleases.{sent_steps}
use Rattle.pals_base.specs.UpwardNumbers.{upwards}
use Rattle.pals_base.proofs.UpwardNumbers.{length-upwards}
use Rattle.pals_model.specs.declared.design.Component.{Component}
use Rattle.pals_model.specs.declared.design.DesignParts.{DesignParts}
use Rattle.pals_model.specs.declared.part.Part.{Part}
use Rattle.pals_model.specs.ComponentInputs.{source_of}
use Rattle.sync_product.specs.declared.component_stage.Stage.{Stage}
use Rattle.sync_product.specs.declared.wiring.WiredComponent.{WiredComponent}
use Rattle.sync_product.specs.proof.ProductSizes.{PartSize, StageSize, frame_size, frame_size_of, part_size}
use Rattle.sync_product.specs.proof.ProductSizes.{part_size_of, part_sizes, stage_size, stage_size_of, stage_sizes}
use Rattle.sync_product.specs.proof.ComponentWiring.{tap_ports, IsWired}
use Rattle.sync_product.proofs.ComponentLists.{sized_at, count_of_sized}

-- ---- one for each component
pub count_of_parts : (design : DesignParts) (parts : List Part) → map part_size parts ≡ part_sizes design
    → length parts ≡ length design.components
count_of_parts design parts fit =
    count_of_sized part_size parts (part_sizes design) fit
    ∙ length-map_enumerate_from
    (λ (numbered : ℕ × Component). part_size_of numbered.1 (tap_ports design.taps numbered.0)) 0 design.components

pub count_of_stages : (design : DesignParts) (stages : List Stage) → map stage_size stages ≡ stage_sizes design
    → length stages ≡ length design.components
count_of_stages design stages fit =
    count_of_sized stage_size stages (stage_sizes design) fit
    ∙ length-map design.components (λ (c : Component). stage_size_of (sent_steps design.gamma design.period c.rate) c)

-- ---- which fits it
module _ (design : DesignParts) (node : ℕ) (wired : WiredComponent) (is : IsWired design node wired) where
  pub fits_sources : length wired.sources.now ≡ length wired.component.now.behaviour.ins
  fits_sources =
      let ins = length wired.component.now.behaviour.ins in
      ap length is.sources_are ∙ length-map (upwards 0 ins) (source_of design node) ∙ length-upwards 0 ins

  pub fits_part : (parts : List Part) (part : Part) → map part_size parts ≡ part_sizes design
      → part ≡ slice_index_or parts node part → part_size part ≡ part_size_of wired.component.now wired.taps.now
  fits_part parts part fit at =
      let c = wired.component.now in
      sized_at part_size parts (part_sizes design) node part (part_size_of c (tap_ports design.taps node)) fit
      (slice_get-map_enumerate
      (λ (numbered : ℕ × Component). part_size_of numbered.1 (tap_ports design.taps numbered.0))
      design.components node c is.component_is) at
      ∙ ap (part_size_of c) (sym is.taps_are)

  pub fits_frame : (parts : List Part) (part : Part) → map part_size parts ≡ part_sizes design
      → part ≡ slice_index_or parts node part → frame_size part.frame ≡ frame_size_of wired.component.now
  fits_frame parts part fit at = ap (λ (s : PartSize). s.frame) (fits_part parts part fit at)

  pub fits_stage : (stages : List Stage) (stage : Stage) → map stage_size stages ≡ stage_sizes design
      → stage ≡ slice_index_or stages node stage → stage_size stage ≡ stage_size_of stage.sent wired.component.now
  fits_stage stages stage fit at =
      let c = wired.component.now in
      let sent = sent_steps design.gamma design.period c.rate in
      let sized = sized_at stage_size stages (stage_sizes design) node stage (stage_size_of sent c) fit
      (slice_get-map_some (λ (d : Component). stage_size_of (sent_steps design.gamma design.period d.rate) d)
      design.components node c is.component_is) at in
      sized ∙ ap (λ n. stage_size_of n c) (sym (ap (λ (s : StageSize). s.sent) sized))
