-- The first components of a layer have completed their steps: their frames and rows, and one more component.
use Rattle.std.proofs.Common.{◌≡◌, ◌∙◌, ℕ, ◌+◌, ◌<◌, ◌≤◌, inl, inr, Bool, true, false, List, [], length, map, set}
use Rattle.std.proofs.Common.{slice_get, slice_index_or, Some, sym, ap, ap₂, arith, eq-or-lt_of_le}
use Rattle.std.proofs.lemmas.Bool.{false≢true}
use Rattle.std.proofs.lemmas.List.{map-set, length-map, get_or-map}
use Rattle.list_lemmas.proofs.ElementPositions.{slice_get-map_some, slice_get-map_enumerate}
use Rattle.pals_base.specs.declared.basic_types.PortValue.{PortValue}
use Rattle.pals_base.specs.declared.frames.Frame.{Frame}
use Rattle.pals_base.specs.PeriodBoundAndReleases.{sent_steps}
use Rattle.pals_base.specs.StepSequences.{frame_after, outputs}
use Rattle.pals_base.specs.UpwardNumbers.{upwards}
use Rattle.pals_base.proofs.UpwardNumbers.{length-upwards}
use Rattle.pals_model.specs.declared.design.Component.{Component}
use Rattle.pals_model.specs.declared.design.DesignParts.{DesignParts}
use Rattle.pals_model.specs.declared.part.Part.{Part}
use Rattle.pals_model.specs.declared.port_sources.PortSource.{PortSource}
use Rattle.pals_model.specs.ComponentInputs.{inputs_of, source_of, sources_of, all_sources}
use Rattle.pals_model.specs.Composition.{no_frame}
use Rattle.sync_product.specs.declared.component_stage.Stage.{Stage}
use Rattle.sync_product.specs.proof.ProductSizes.{PartSize, StageSize, part_size, part_size_of, stage_size}
use Rattle.sync_product.specs.proof.ProductSizes.{stage_size_of, stage_sizes}
use Rattle.sync_product.specs.proof.Rounds.{frames_of}
use Rattle.sync_product.proofs.ComponentLists.{entry_at, sized_at, within_table, count_of_sized, item_at}
use Rattle.sync_product.proofs.ComponentLists.{slice_get-set_same, slice_get-set_other}
use Rattle.triple_vote.specs.proof.ReplicaLayers.{frame_sizes, has_replica, frame_made, rows_made, IsRun}

abbrev rows_of : List Stage → List (List (List PortValue))
rows_of stages = map (λ (s : Stage). s.rows) stages

-- the existing components before a place have completed their steps
abbrev pub RunTo : DesignParts → List PortValue → List (List PortValue) → List Bool → List Frame → List Part
    → List Stage → ℕ → Type 0
RunTo design values received_messages there frames next stages at =
    (k : ℕ) (c : Component) → k < at → slice_get design.components k ≡ Some c → has_replica there k ≡ true
    → IsRun design values received_messages frames next stages k c

module _ (design : DesignParts) (values : List PortValue) (received_messages : List (List PortValue))
    (there : List Bool)
    (frames : List Frame) (next : List Part) (stages : List Stage)
    (at : ℕ) (item : Component) (is : slice_get design.components at ≡ Some item)
    (so_far : RunTo design values received_messages there frames next stages at) where
  pub run_skip : has_replica there at ≡ false → RunTo design values received_messages there frames next stages (at + 1)
  run_skip absent k c below is_c present =
      let upto : k ≤ at = omega (arith, below) in
      elim (eq-or-lt_of_le upto) [
        | inl here ↦ absurd (false≢true (sym absent ∙ ap (has_replica there) (sym here) ∙ present))
        | inr before ↦ so_far k c before is_c present
      ]

  pub run_more : (part : Part) (stage : Stage) → at < length next → at < length stages
      → part.frame ≡ frame_made design values received_messages frames at item
      → stage.rows ≡ rows_made design values received_messages frames at item
      → RunTo design values received_messages there frames (set next at part) (set stages at stage) (at + 1)
  run_more part stage within inside frame_is rows_are k c below is_c present =
      let upto : k ≤ at = omega (arith, below) in
      elim (eq-or-lt_of_le upto) [
        | inl here ↦
            let both : Some item ≡ Some c = sym is ∙ ap (slice_get design.components) (sym here) ∙ is_c in
            let same : item ≡ c = cc in
            record {
              frame = ap (slice_get (frames_of (set next at part))) here
                  ∙ ap (λ l. slice_get l at) (map-set (λ (p : Part). p.frame) next at part)
                  ∙ slice_get-set_same (frames_of next) at part.frame
                  (omega (arith, within, length-map next (λ (p : Part). p.frame)))
                  ∙ ap Some (frame_is ∙ ap₂ (frame_made design values received_messages frames) (sym here) same);
              rows = ap (slice_get (rows_of (set stages at stage))) here
                  ∙ ap (λ l. slice_get l at) (map-set (λ (s : Stage). s.rows) stages at stage)
                  ∙ slice_get-set_same (rows_of stages) at stage.rows
                  (omega (arith, inside, length-map stages (λ (s : Stage). s.rows)))
                  ∙ ap Some (rows_are ∙ ap₂ (rows_made design values received_messages frames) (sym here) same);
            }
        | inr before ↦
            let old = so_far k c before is_c present in
            record {
              frame = ap (λ l. slice_get l k) (map-set (λ (p : Part). p.frame) next at part)
                  ∙ slice_get-set_other (frames_of next) at k part.frame before ∙ old.frame;
              rows = ap (λ l. slice_get l k) (map-set (λ (s : Stage). s.rows) stages at stage)
                  ∙ slice_get-set_other (rows_of stages) at k stage.rows before ∙ old.rows;
            }
      ]

-- what a component's steps leave, by the frame that its part has and the sources that its stage is given
module _ (design : DesignParts) (values : List PortValue) (received_messages : List (List PortValue))
    (parts : List Part) (node : ℕ)
    (item : Component) (from : Part)
    (within : node < length parts) (from_is : from ≡ slice_index_or parts node from) where
  abbrev inputs : List (List PortValue)
  inputs = inputs_of design values received_messages node item

  own_frame : from.frame ≡ slice_index_or (frames_of parts) node no_frame
  own_frame =
      ap (λ (p : Part). p.frame) from_is ∙ sym (get_or-map (λ (p : Part). p.frame) parts node from no_frame within)

  pub frame_by : (frame : Frame) → frame ≡ frame_after item.behaviour from.frame inputs
      → frame ≡ frame_made design values received_messages (frames_of parts) node item
  frame_by frame is = is ∙ ap (λ (f : Frame). frame_after item.behaviour f inputs) own_frame

  pub rows_by : (rows : List (List PortValue)) → rows ≡ outputs item.behaviour from.frame inputs
      → rows ≡ rows_made design values received_messages (frames_of parts) node item
  rows_by rows is = is ∙ ap (λ (f : Frame). outputs item.behaviour f inputs) own_frame

-- ---- room
module _ (design : DesignParts) (items : List Component) (node : ℕ) (item : Component)
    (same : items ≡ design.components) (within : node < length items)
    (item_is : item ≡ slice_index_or items node item) where
  pub component_is : slice_get design.components node ≡ Some item
  component_is = item_at design.components items node item same within item_is

  pub node_within : node < length design.components
  node_within = omega (arith, ap length same, within)

  abbrev frame_room : Component → PartSize
  frame_room d = part_size_of d []

  pub part_within : (parts : List Part) → map part_size parts ≡ frame_sizes design → node < length parts
  part_within parts fit =
      omega (
        arith,
        count_of_sized part_size parts (frame_sizes design) fit,
        length-map design.components frame_room,
        node_within,
      )

  pub part_room : (parts : List Part) (part : Part) → map part_size parts ≡ frame_sizes design
      → part ≡ slice_index_or parts node part → part_size part ≡ part_size_of item []
  part_room parts part fit is =
      sized_at part_size parts (frame_sizes design) node part (part_size_of item []) fit
      (slice_get-map_some frame_room design.components node item component_is) is

  pub stage_room : (stages : List Stage) (stage : Stage) → map stage_size stages ≡ stage_sizes design
      → stage ≡ slice_index_or stages node stage
      → stage_size stage ≡ stage_size_of stage.sent item
  stage_room stages stage fit is =
      let size_of : Component → StageSize = λ d. stage_size_of (sent_steps design.gamma design.period d.rate) d in
      let sized =
      sized_at stage_size stages (stage_sizes design) node stage (size_of item) fit
      (slice_get-map_some size_of design.components node item component_is) is in
      sized ∙ ap (λ n. stage_size_of n item) (sym (ap (λ (s : StageSize). s.sent) sized))

  pub sources_within : (table : List (List PortSource)) → table ≡ all_sources design → node < length table
  sources_within table is =
      within_table (λ (numbered : ℕ × Component). sources_of design numbered.0 numbered.1) table design.components items
      node is same within

  pub sources_are : (table : List (List PortSource)) (sources : List PortSource) → table ≡ all_sources design
      → sources ≡ slice_index_or table node sources
      → sources ≡ sources_of design node item
  sources_are table sources is sources_is =
      entry_at table (all_sources design) node sources (sources_of design node item) is
      (slice_get-map_enumerate (λ (numbered : ℕ × Component). sources_of design numbered.0 numbered.1) design.components
      node item component_is) sources_is

  pub sources_count : (sources : List PortSource) → sources ≡ sources_of design node item
      → length sources ≡ length item.behaviour.ins
  sources_count sources is =
      ap length is ∙ length-map (upwards 0 (length item.behaviour.ins)) (λ port. source_of design node port)
      ∙ length-upwards 0 (length item.behaviour.ins)
