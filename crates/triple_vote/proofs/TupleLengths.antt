-- The tuples that a layer sends and shows have as many values as the steps of their components, and keep their
-- lengths when they are written over.
use Rattle.std.proofs.Common.{◌≡◌, ◌∙◌, ℕ, ◌<◌, inl, inr, List, length, map, slice_get, slice_set, slice_index_or, Some}
use Rattle.std.proofs.Common.{sym, ap, arith}
use Rattle.std.proofs.lemmas.List.{length-map}
use Rattle.std.proofs.lemmas.Option.{slice_get_cases}
use Rattle.list_lemmas.proofs.ElementPositions.{slice_get-map_some}
use Rattle.pals_base.specs.declared.basic_types.PortValue.{PortValue}
use Rattle.pals_base.specs.PeriodBoundAndReleases.{sent_steps}
use Rattle.pals_base.specs.Tuples.{column, cut}
use Rattle.pals_base.proofs.ColumnsAndCutTuples.{length-cut}
use Rattle.pals_model.specs.declared.design.Component.{Component}
use Rattle.pals_model.specs.declared.design.DesignParts.{DesignParts}
use Rattle.pals_model.specs.PortKindsAndRates.{rate_of, rate_in}
use Rattle.sync_product.specs.declared.component_stage.Stage.{Stage}
use Rattle.sync_product.specs.proof.ProductSizes.{StageSize, stage_size, stage_size_of, stage_sizes}
use Rattle.sync_product.proofs.PortColumns.{length-column}
use Rattle.sync_product.proofs.SizePreservingWrites.{same_sizes}
use Rattle.sync_product.proofs.TupleLengths.{count_of_rows}
use Rattle.sync_product.proofs.ComponentLists.{sized_at, count_of_sized}
use Rattle.triple_vote.specs.proof.ReplicaLayers.{lengths}

-- ---- stages
module _ (design : DesignParts) (stages : List Stage) (fit : map stage_size stages ≡ stage_sizes design) where
  abbrev size_of : Component → StageSize
  size_of c = stage_size_of (sent_steps design.gamma design.period c.rate) c

  pub stage_within : (source : ℕ) → source < length design.components → source < length stages
  stage_within source within =
      omega (
        arith,
        count_of_sized stage_size stages (stage_sizes design) fit,
        length-map design.components size_of,
        within,
      )

  -- a stage has a row for each step
  pub stage_rows : (source : ℕ) (stage : Stage) → source < length design.components
      → stage ≡ slice_index_or stages source stage → length stage.rows ≡ rate_of design source
  stage_rows source stage within is =
      elim (slice_get_cases design.components source).1 [
        | inl found ↦
            let c : Component = found.0 in
            let room =
            sized_at stage_size stages (stage_sizes design) source stage (size_of c) fit
            (slice_get-map_some size_of design.components source c found.2) is in
            count_of_rows stage.rows c.rate (length c.behaviour.outs) (ap (λ (s : StageSize). s.rows) room)
            ∙ sym (ap rate_in found.2)
        | inr past ↦ absurd (omega (arith, past.0, within))
      ]

-- ---- tuples, one for each link or root out port
module _ {L : Type 0} (size : L → ℕ) (items : List L) (tuples : List (List PortValue))
    (fit : lengths tuples ≡ map size items) where
  pub tuple_within : (at : ℕ) → at < length items → at < length tuples
  tuple_within at within =
      omega (arith, length-map tuples (λ (t : List PortValue). length t), ap length fit, length-map items size, within)

  pub tuple_size : (at : ℕ) (item : L) (tuple : List PortValue) → slice_get items at ≡ Some item
      → tuple ≡ slice_index_or tuples at tuple → length tuple ≡ size item
  tuple_size at item tuple is tuple_is =
      sized_at (λ (t : List PortValue). length t) tuples (map size items) at tuple (size item) fit
      (slice_get-map_some size items at item is) tuple_is

  pub sizes_stay : (at : ℕ) (old new : List PortValue) → at < length items → old ≡ slice_index_or tuples at old
      → length new ≡ length old
      → lengths (slice_set tuples at new) ≡ map size items
  sizes_stay at old new within is same =
      same_sizes (λ (t : List PortValue). length t) tuples at old new (tuple_within at within) is same ∙ fit

pub length-written : (count port : ℕ) (rows : List (List PortValue))
    → length (cut count (column port rows)) ≡ length rows
length-written count port rows = length-cut count (column port rows) ∙ length-column rows port
