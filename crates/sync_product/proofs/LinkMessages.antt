-- Each link's message is made of the out values that its source's steps left, cut to the steps that are sent.
use Rattle.std.proofs.Common.{◌≡◌, ◌∙◌, ℕ, ◌<◌, inl, inr, List, length, map, slice_get, slice_index_or, refl, sym, ap}
use Rattle.std.proofs.Common.{arith, Some}
use Rattle.std.proofs.lemmas.Option.{slice_get_cases, slice_get_read}
use Rattle.std.proofs.lemmas.List.{get_or-map}
use Rattle.pals_base.specs.Tuples.{column, cut}
use Rattle.sync_product.specs.proof.Rounds.{sent_by, sent_from}
use Rattle.pals_base.specs.declared.basic_types.PortValue.{PortValue}
use Rattle.pals_base.specs.PeriodBoundAndReleases.{sent_steps}
use Rattle.pals_model.specs.declared.design.Component.{Component}
use Rattle.pals_model.specs.declared.design.Link.{Link}
use Rattle.pals_model.specs.declared.design.DesignParts.{DesignParts}
use Rattle.pals_model.specs.PortKindsAndRates.{rate_of, rate_in}
use Rattle.sync_product.specs.declared.component_stage.Stage.{Stage}
use Rattle.sync_product.specs.proof.ProductSizes.{StageSize, stage_size, stage_size_of, stage_sizes, message_sizes}
use Rattle.sync_product.proofs.TupleLengths.{count_of_rows}
use Rattle.sync_product.proofs.ComponentLists.{sized_at}
use Rattle.list_lemmas.proofs.ElementPositions.{slice_get-map_some}

-- a message has a place for each row of its source
pub sized_message : (design : DesignParts) (stages : List Stage) (messages : List (List PortValue)) (number source : ℕ)
    (link : Link) (message : List PortValue) (stage : Stage)
    → map stage_size stages ≡ stage_sizes design
    → map (λ (tuple : List PortValue). length tuple) messages ≡ message_sizes design
    → slice_get design.links number ≡ Some link → source ≡ link.source.0 → source < length design.components
    → message ≡ slice_index_or messages number message → stage ≡ slice_index_or stages source stage
    → length message ≡ length stage.rows
sized_message design stages messages number source link message stage stages_fit messages_fit is_link from within
    message_is stage_is =
    let size =
    sized_at (λ (tuple : List PortValue). length tuple) messages (message_sizes design) number message
    (rate_of design link.source.0) messages_fit
    (slice_get-map_some (λ (l : Link). rate_of design l.source.0) design.links number link is_link) message_is in
    elim (slice_get_cases design.components source).1 [
      | inl found ↦
          let comp = found.0 in
          let sent = sent_steps design.gamma design.period comp.rate in
          let room = sized_at stage_size stages (stage_sizes design) source stage (stage_size_of sent comp) stages_fit
          (slice_get-map_some (λ (d : Component). stage_size_of (sent_steps design.gamma design.period d.rate) d)
          design.components source comp found.2) stage_is in
          size
          ∙ ap (rate_of design) (sym from)
          ∙ ap rate_in found.2
          ∙ sym (count_of_rows stage.rows comp.rate (length comp.behaviour.outs) (ap (λ (s : StageSize). s.rows) room))
      | inr past ↦ absurd (omega (arith, past.0))
    ]

-- what a link's message has to be
pub sent_item : (stages : List Stage) (links : List Link) (number : ℕ) (d : Link) (rows : List (List PortValue))
    (stage : Stage) (message : List PortValue)
    → number < length links → (slice_index_or links number d).source.0 < length stages
    → stage ≡ slice_index_or stages (slice_index_or links number d).source.0 stage → rows ≡ stage.rows
    → message ≡ cut stage.sent (column (slice_index_or links number d).out_port rows)
    → message ≡ slice_index_or (map (sent_by stages) links) number message
sent_item stages links number d rows stage message within inside stage_is rows_are is =
    let link = slice_index_or links number d in
    is
    ∙ ap (λ rs. cut stage.sent (column link.out_port rs)) rows_are
    ∙ sym (ap (λ o. sent_from o link.out_port)
    (slice_get_read stages (length stages) link.source.0 stage refl inside stage_is))
    ∙ sym (get_or-map (sent_by stages) links number d message within)
