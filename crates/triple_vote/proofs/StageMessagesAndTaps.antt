-- The messages and shown tuples of a layer, read off the rows of its stages, link by link and root out port by root
-- out port.
use Rattle.std.proofs.Common.{◌≡◌, ◌∙◌, ℕ, ◌+◌, ◌<◌, Bool, List, length, map, set, slice_get, slice_index_or, Some}
use Rattle.std.proofs.Common.{refl, sym, ap, arith}
use Rattle.std.proofs.lemmas.Option.{slice_get-get_or, slice_get_read}
use Rattle.pals_base.specs.declared.basic_types.PortValue.{PortValue}
use Rattle.pals_base.specs.Tuples.{column, cut}
use Rattle.pals_base.proofs.ColumnsAndCutTuples.{cut_whole}
use Rattle.pals_model.specs.declared.design.Link.{Link}
use Rattle.pals_model.specs.declared.design.Tap.{Tap}
use Rattle.pals_model.specs.declared.design.DesignParts.{DesignParts}
use Rattle.pals_model.specs.PortKindsAndRates.{rate_of}
use Rattle.pals_model.specs.DesignRules.{IsDesign, IsLink, IsTap}
use Rattle.pals_model.proofs.FirstMatches.{at_element}
use Rattle.sync_product.specs.declared.component_stage.Stage.{Stage}
use Rattle.sync_product.specs.proof.ProductSizes.{stage_size, stage_sizes, message_sizes}
use Rattle.sync_product.specs.proof.Rounds.{sent_by, sent_from}
use Rattle.sync_product.proofs.PortColumns.{length-column}
use Rattle.sync_product.proofs.ComponentLists.{item_at}
use Rattle.triple_vote.specs.proof.ReplicaLayers.{lengths, tap_sizes, has_replica, whole_from}
use Rattle.triple_vote.proofs.SelectiveListWrites.{Filled, filled_put}
use Rattle.triple_vote.proofs.TupleLengths.{stage_within, stage_rows, tuple_within, tuple_size, sizes_stay}
use Rattle.triple_vote.proofs.TupleLengths.{length-written}

module _ (design : DesignParts) (rules : IsDesign design) (there : List Bool) (stages : List Stage)
    (fit : map stage_size stages ≡ stage_sizes design) where
  -- ---- a link
  module _ (sent : List (List PortValue)) (sizes : lengths sent ≡ message_sizes design) (items : List Link) (number : ℕ)
      (d : Link) (message : List PortValue) (stage : Stage)
      (same : items ≡ design.links) (within : number < length items)
      (message_is : message ≡ slice_index_or sent number message)
      (stage_is : stage ≡ slice_index_or stages (slice_index_or items number d).source.0 stage) where
    abbrev link : Link
    link = slice_index_or items number d

    abbrev link_size : Link → ℕ
    link_size x = rate_of design x.source.0

    link_is : slice_get design.links number ≡ Some link
    link_is = ap (λ l. slice_get l number) (sym same) ∙ slice_get-get_or items number d within

    link_source : link.source.0 < length design.components
    link_source = let kept = at_element (IsLink design) design.links number link rules.links.each link_is in
        kept.source.node_is

    link_within : number < length design.links
    link_within = omega (arith, ap length same, within)

    pub message_fits : length message ≡ length stage.rows
    message_fits =
        tuple_size link_size design.links sent sizes number link message link_is message_is
        ∙ sym (stage_rows design stages fit link.source.0 stage link_source stage_is)

    pub message_sizes_stay : (rows : List (List PortValue)) (written : List PortValue) → rows ≡ stage.rows
        → written ≡ cut stage.sent (column link.out_port rows)
        → lengths (set sent number written) ≡ message_sizes design
    message_sizes_stay rows written rows_are is =
        sizes_stay link_size design.links sent sizes number message written link_within message_is
        (ap length is ∙ length-written stage.sent link.out_port rows ∙ ap length rows_are ∙ sym message_fits)

    pub message_sent : (rows : List (List PortValue)) (written : List PortValue) → rows ≡ stage.rows
        → written ≡ cut stage.sent (column link.out_port rows)
        → Filled design.links (λ (x : Link). has_replica there x.source.0) (λ at (x : Link). sent_by stages x) sent
        number
        → Filled design.links (λ (x : Link). has_replica there x.source.0) (λ at (x : Link). sent_by stages x)
        (set sent number written) (number + 1)
    message_sent rows written rows_are is =
        filled_put design.links (λ (x : Link). has_replica there x.source.0) (λ at (x : Link). sent_by stages x) sent
        number link written link_is
        (tuple_within link_size design.links sent sizes number link_within)
        (is ∙ ap (λ rs. cut stage.sent (column link.out_port rs)) rows_are
        ∙ sym (ap (λ o. sent_from o link.out_port)
        (slice_get_read stages (length stages) link.source.0 stage refl
        (stage_within design stages fit link.source.0 link_source) stage_is)))

  -- ---- a root out port
  module _ (shown : List (List PortValue)) (sizes : lengths shown ≡ tap_sizes design) (items : List Tap) (number : ℕ)
      (tap : Tap) (tuple : List PortValue) (stage : Stage)
      (same : items ≡ design.taps) (within : number < length items) (item_is : tap ≡ slice_index_or items number tap)
      (tuple_is : tuple ≡ slice_index_or shown number tuple)
      (stage_is : stage ≡ slice_index_or stages tap.source.0 stage) where
    abbrev tap_size : Tap → ℕ
    tap_size x = rate_of design x.source.0

    tap_is : slice_get design.taps number ≡ Some tap
    tap_is = item_at design.taps items number tap same within item_is

    tap_source : tap.source.0 < length design.components
    tap_source = let kept = at_element (IsTap design) design.taps number tap rules.taps.each tap_is in
        kept.source.node_is

    tap_within : number < length design.taps
    tap_within = omega (arith, ap length same, within)

    pub tuple_fits : length tuple ≡ length stage.rows
    tuple_fits =
        tuple_size tap_size design.taps shown sizes number tap tuple tap_is tuple_is
        ∙ sym (stage_rows design stages fit tap.source.0 stage tap_source stage_is)

    -- all of a tuple is written
    whole : (rows : List (List PortValue)) (written : List PortValue) (count : ℕ) → count ≡ length rows
        → written ≡ cut count (column tap.out_port rows) → written ≡ column tap.out_port rows
    whole rows written count all is =
        is ∙ cut_whole count (column tap.out_port rows) (omega (arith, all, length-column rows tap.out_port))

    pub tuple_sizes_stay : (rows : List (List PortValue)) (written : List PortValue) (count : ℕ) → rows ≡ stage.rows
        → count ≡ length rows
        → written ≡ cut count (column tap.out_port rows) → lengths (set shown number written) ≡ tap_sizes design
    tuple_sizes_stay rows written count rows_are all is =
        sizes_stay tap_size design.taps shown sizes number tuple written tap_within tuple_is
        (ap length is ∙ length-written count tap.out_port rows ∙ ap length rows_are ∙ sym tuple_fits)

    pub tuple_shown : (rows : List (List PortValue)) (written : List PortValue) (count : ℕ) → rows ≡ stage.rows
        → count ≡ length rows
        → written ≡ cut count (column tap.out_port rows)
        → Filled design.taps (λ (x : Tap). has_replica there x.source.0)
        (λ at (x : Tap). whole_from (slice_get stages x.source.0) x.out_port) shown number
        → Filled design.taps (λ (x : Tap). has_replica there x.source.0)
        (λ at (x : Tap). whole_from (slice_get stages x.source.0) x.out_port) (set shown number written)
        (number + 1)
    tuple_shown rows written count rows_are all is =
        filled_put design.taps (λ (x : Tap). has_replica there x.source.0)
        (λ at (x : Tap). whole_from (slice_get stages x.source.0) x.out_port) shown number tap written tap_is
        (tuple_within tap_size design.taps shown sizes number tap_within)
        (whole rows written count all is ∙ ap (column tap.out_port) rows_are
        ∙ sym (ap (λ o. whole_from o tap.out_port)
        (slice_get_read stages (length stages) tap.source.0 stage refl
        (stage_within design stages fit tap.source.0 tap_source) stage_is)))
