-- A layer's messages and shown tuples are the results of its components' steps.
use Rattle.std.proofs.Common.{◌≡◌, ◌∙◌, ℕ, inl, inr, true, List, length, map, slice_get, Some, sym, ap, ap₂, arith}
use Rattle.std.proofs.lemmas.List.{length-map}
use Rattle.std.proofs.lemmas.Option.{slice_get_cases, slice_get_within}
use Rattle.list_lemmas.proofs.ElementPositions.{slice_get-map_some}
use Rattle.pals_base.specs.declared.basic_types.PortValue.{PortValue}
use Rattle.pals_base.specs.PeriodBoundAndReleases.{sent_steps}
use Rattle.pals_base.specs.Tuples.{column, cut}
use Rattle.pals_model.specs.declared.design.Component.{Component}
use Rattle.pals_model.specs.declared.design.DesignParts.{DesignParts}
use Rattle.sync_product.specs.declared.component_stage.Stage.{Stage}
use Rattle.sync_product.specs.proof.ProductSizes.{StageSize, stage_size, stage_size_of, stage_sizes}
use Rattle.sync_product.specs.proof.Rounds.{frames_of, sent_from}
use Rattle.sync_product.proofs.ComponentLists.{sized_at}
use Rattle.triple_vote.specs.declared.replica_layer.Layer.{Layer}
use Rattle.triple_vote.specs.proof.ReplicaLayers.{whole_from, has_replica, rows_made, AreRun, AreSent, AreWhole, IsMade}

module _ (design : DesignParts) (values : List PortValue) (received_messages : List (List PortValue)) (layer : Layer)
    (stages : List Stage)
    (run : AreRun design values received_messages layer.there (frames_of layer.parts) layer.next stages)
    (fit : map stage_size stages ≡ stage_sizes design) where
  abbrev rows : ℕ → Component → List (List PortValue)
  rows node c = rows_made design values received_messages (frames_of layer.parts) node c

  -- the stage of a component that is there has its rows, and sends as many steps as end in time
  record IsStaged (node : ℕ) (c : Component) : Type 0 where
    stage : Stage
    is : slice_get stages node ≡ Some stage
    rows_are : stage.rows ≡ rows node c
    sent_is : stage.sent ≡ sent_steps design.gamma design.period c.rate

  staged : (node : ℕ) (c : Component) → slice_get design.components node ≡ Some c → has_replica layer.there node ≡ true
      → IsStaged node c
  staged node c is present =
      let size_of : Component → StageSize = λ d. stage_size_of (sent_steps design.gamma design.period d.rate) d in
      let wanted = slice_get-map_some size_of design.components node c is in
      let rows_there = (run node c is present).rows in
      elim (slice_get_cases stages node).1 [
        | inl found ↦
            let stage : Stage = found.0 in
            let both : Some stage.rows ≡ Some (rows node c) =
            sym (slice_get-map_some (λ (s : Stage). s.rows) stages node stage found.2) ∙ rows_there in
            let room =
            sized_at stage_size stages (stage_sizes design) node stage (size_of c) fit wanted (sym found.3) in
            record { stage = stage; is = found.2; rows_are = cc; sent_is = ap (λ (s : StageSize). s.sent) room }
        | inr past ↦
            let many = length-map stages stage_size in
            let all = length-map design.components size_of in
            let within = slice_get_within design.components node c is in
            absurd (omega (arith, past.0, many, all, ap length fit, within))
      ]

  pub is_made : AreSent design layer.there stages layer.sent → AreWhole design layer.there stages layer.shown
      → IsMade design values received_messages layer
  is_made sent shown = record {
    frames = λ node c is present. (let at = run node c is present in at.frame);
    sent = λ l link c is_link is present.
        (let at = staged link.source.0 c is present in
        sent l link is_link present
        ∙ ap (λ o. Some (sent_from o link.out_port)) at.is
        ∙ ap₂ (λ n (rs : List (List PortValue)). Some (cut n (column link.out_port rs))) at.sent_is at.rows_are);
    shown = λ n tap c is_tap is present.
        (let at = staged tap.source.0 c is present in
        shown n tap is_tap present
        ∙ ap (λ o. Some (whole_from o tap.out_port)) at.is
        ∙ ap (λ (rs : List (List PortValue)). Some (column tap.out_port rs)) at.rows_are);
  }
