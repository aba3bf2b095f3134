-- After a round, the frames, messages and parts of the fused product are the solution of the round's equations.
use Rattle.std.proofs.Common.{◌≡◌, ◌∙◌, ◌⊎◌, inl, inr, ℕ, ◌+◌, Bool, true, false, List, [], ◌∷◌, length, map, Some}
use Rattle.std.proofs.Common.{slice_get, slice_index_or, All, refl, sym, ap, ap₂, arith}
use Rattle.std.specs.Prelude.{if◌then◌else◌}
use Rattle.std.specs.List.{enumerate_from}
use Rattle.std.proofs.lemmas.Bool.{cases_Bool}
use Rattle.std.proofs.lemmas.List.{length-map}
use Rattle.std.proofs.lemmas.List.Elements.{All-head, All-tail}
use Rattle.std.proofs.lemmas.Option.{slice_get_cases, get_or_from_slice_get}
use Rattle.list_lemmas.proofs.ElementPositions.{slice_get-map_some, slice_get-map_enumerate}
use Rattle.list_lemmas.proofs.ListOperations.{length-map_enumerate_from, same_from_places, map-map}
use Rattle.pals_base.proofs.CycleSearchMarks.{map-same}
use Rattle.pals_base.proofs.UpwardNumbers.{length-map_upwards}
use Rattle.pals_base.proofs.ColumnsAndCutTuples.{cut_whole}
use Rattle.pals_base.specs.declared.basic_types.PortValue.{PortValue}
use Rattle.pals_base.specs.declared.basic_types.PortValue.TheVariants.{Absent}
use Rattle.pals_base.specs.declared.frames.Frame.{Frame}
use Rattle.pals_base.specs.PeriodBoundAndReleases.{sent_steps}
use Rattle.pals_base.specs.StepSequences.{frame_after}
use Rattle.pals_base.specs.Tuples.{column, cut}
use Rattle.pals_base.specs.UpwardNumbers.{upwards}
use Rattle.pals_model.specs.declared.design.Component.{Component}
use Rattle.pals_model.specs.declared.design.Link.{Link}
use Rattle.pals_model.specs.declared.design.Tap.{Tap}
use Rattle.pals_model.specs.declared.design.DesignParts.{DesignParts}
use Rattle.pals_model.specs.declared.part.Part.{Part}
use Rattle.pals_model.specs.PortKindsAndRates.{rate_of, rate_in}
use Rattle.pals_model.specs.Composition.{Configuration, taps_of}
use Rattle.pals_model.specs.DesignRules.{IsDesign, IsLink}
use Rattle.pals_model.proofs.ShapeLaws.{component_at, length-outputs}
use Rattle.pals_runs.specs.declared.plant_pairs.Pair.{Pair}
use Rattle.sync_product.specs.declared.round_inputs.RoundInputs.{RoundInputs}
use Rattle.sync_product.specs.declared.component_stage.Stage.{Stage}
use Rattle.sync_product.specs.proof.ProductSizes.{StageSize, stage_size, stage_size_of, stage_sizes}
use Rattle.sync_product.specs.proof.Rounds.{frames_of}
use Rattle.sync_product.proofs.PortColumns.{length-column}
use Rattle.sync_product.proofs.ComponentLists.{sized_at}
use Rattle.plant_fuse.specs.FusedComposition.{is_to_plant, is_to_controller, ArePairs, Inputs, inputs_to}
use Rattle.plant_fuse.specs.proof.PartnersAndPairLinks.{partner_of, is_inside}
use Rattle.plant_fuse.specs.proof.Messages.{sent_from, sent_on}
use Rattle.plant_fuse.specs.proof.RoundEquations.{frame_at, place_at, left_in, tuple_from, tuple_in, message_in}
use Rattle.plant_fuse.specs.proof.RoundEquations.{after_round}
use Rattle.plant_fuse.specs.proof.RoundWork.{rows_of, AreRun}
use Rattle.plant_fuse.specs.proof.FuseState.{FuseState, part_after, parts_after, IsAdvanced}
use Rattle.plant_fuse.proofs.EquationsWithoutPairs.{by_place}
use Rattle.sync_product.proofs.ComponentSizes.{count_of_stages}
use Rattle.plant_fuse.proofs.PartnersAndPairLinks.{inside_goes, outside_back, outside_forth}
use Rattle.plant_fuse.proofs.SolvedRoundEquations.{before, all_read, inputs_at, reads_round, rows_at_node, left_at_node}
use Rattle.plant_fuse.proofs.SolvedRoundEquations.{part_at_node}

either_same : (t u : List PortValue) (b f : Bool) → (b ≡ true) ⊎ (f ≡ true) → (if b then t else if f then t else u) ≡ t
either_same t u true f either = refl
either_same t u false true either = refl
either_same t u false false (inl is) = absurd (cc)
either_same t u false false (inr is) = absurd (cc)

abbrev pub standing : DesignParts → List Pair → List Frame → List (List PortValue) → List Part → FuseState
standing design pairs frames messages parts =
    record {
      design = design;
      pairs = pairs;
      configuration = record { frames = frames; messages = messages };
      parts = parts;
    }

module _ (round : RoundInputs) (pairs : List Pair) (are : ArePairs round.design.now pairs) (frames : List Frame)
    (next : List Part) (stages : List Stage)
    (run : AreRun round pairs frames next stages) (sound : IsDesign round.design.now)
    (fit : map stage_size stages ≡ stage_sizes round.design.now)
    (count : length next ≡ length round.design.now.components) where
  abbrev design : DesignParts
  design = round.design.now

  abbrev at : Configuration
  at = before round pairs are frames next stages run

  abbrev vs : Inputs
  vs = all_read round pairs are frames next stages run

  abbrev rows : ℕ → List (List PortValue)
  rows node = slice_index_or (rows_of stages) node []

  many : length stages ≡ length design.components
  many = count_of_stages design stages fit

  -- ---- tuples
  rows_size : (node : ℕ) (c : Component) → slice_get design.components node ≡ Some c → length (rows node) ≡ c.rate
  rows_size node c is_c =
      ap length (rows_at_node round pairs are frames next stages run many node c is_c)
      ∙ length-outputs c.behaviour (frame_at at node) (inputs_to vs node)
      ∙ ap length (inputs_at round pairs are frames next stages run node c is_c)
      ∙ length-map_upwards _ 0 c.rate

  tuple_is : (node : ℕ) (c : Component) (port : ℕ) → slice_get design.components node ≡ Some c
      → tuple_from design at vs node port ≡ column port (rows node)
  tuple_is node c port is_c =
      ap (λ n. map (left_in design at vs node port) (upwards 0 n)) (ap rate_in is_c ∙ sym (rows_size node c is_c))
      ∙ by_place (λ (row : List PortValue). slice_index_or row port Absent) [] (rows node)
      (left_in design at vs node port) 0
      (λ i below.
      let same : 0 + i ≡ i = omega arith in
      left_at_node round pairs are frames next stages run many node port (0 + i) ∙ ap (place_at (rows node) port) same)

  -- ---- frames and parts
  part_is : (node : ℕ) (c : Component) → slice_get design.components node ≡ Some c
      → slice_get next node ≡ Some (part_after design at vs node c)
  part_is node c is_c =
      part_at_node round pairs are frames next stages run many node c is_c
      ∙ ap (λ (outs : List (List PortValue)). let p : Part =
      record { frame = frame_after c.behaviour (frame_at at node) (inputs_to vs node); outs = outs } in Some p)
      (map-map (λ port. column port (rows node)) (λ (tap : Tap). tap.out_port) (taps_of design node)
      ∙ map-same (λ (tap : Tap). column tap.out_port (rows node))
      (λ (tap : Tap). tuple_from design at vs node tap.out_port) (λ tap. sym (tuple_is node c tap.out_port is_c))
      (taps_of design node))

  frames_stand : frames_of next ≡ (after_round design pairs at vs).frames
  frames_stand =
      let f =
      λ (numbered : ℕ × Component).
      frame_after numbered.1.behaviour (frame_at at numbered.0) (inputs_to vs numbered.0) in
      let size = length-map next (λ (p : Part). p.frame) in
      let all = length-map_enumerate_from f 0 design.components in
      same_from_places (frames_of next) (map f (enumerate_from 0 design.components)) (size ∙ count ∙ sym all)
      (λ k within.
      elim (slice_get_cases design.components k).1 [
        | inl found ↦ slice_get-map_some (λ (p : Part). p.frame) next k _ (part_is k found.0 found.2)
            ∙ sym (slice_get-map_enumerate f design.components k found.0 found.2)
        | inr past ↦ absurd (let low = past.0 in omega (arith, low, within, size, count))
      ])

  parts_stand : next ≡ parts_after design at vs
  parts_stand =
      let f = λ (numbered : ℕ × Component). part_after design at vs numbered.0 numbered.1 in
      let all = length-map_enumerate_from f 0 design.components in
      same_from_places next (map f (enumerate_from 0 design.components)) (count ∙ sym all)
      (λ k within.
      elim (slice_get_cases design.components k).1 [
        | inl found ↦ part_is k found.0 found.2 ∙ sym (slice_get-map_enumerate f design.components k found.0 found.2)
        | inr past ↦ absurd (let low = past.0 in omega (arith, low, within, count))
      ])

  -- ---- messages
  message_is : (link : Link) → IsLink design link → sent_on pairs stages link ≡ message_in design pairs at vs link
  message_is link kept =
      let node = link.source.0 in
      let port = link.out_port in
      let found = component_at design node kept.source.node_is in
      let c : Component = found.0 in
      let is_c = found.1 in
      elim (slice_get_cases stages node).1 [
        | inl staged ↦ (
            let stage : Stage = staged.0 in
            let rows_are : rows node ≡ stage.rows =
            get_or_from_slice_get (rows_of stages) node stage.rows []
            (slice_get-map_some (λ (s : Stage). s.rows) stages node stage staged.2) in
            let sent = sent_steps design.gamma design.period c.rate in
            let room = sized_at stage_size stages (stage_sizes design) node stage (stage_size_of sent c) fit
            (slice_get-map_some (λ (d : Component). stage_size_of (sent_steps design.gamma design.period d.rate) d)
            design.components node c is_c) (sym staged.3) in
            let tuple : tuple_in design at vs link ≡ column port stage.rows = tuple_is node c port is_c
            ∙ ap (column port) rows_are in
            let inside = is_inside (partner_of pairs node) link in
            elim (cases_Bool inside) [
              | inl is ↦
                  ap₂ (λ b o. sent_from b o port) is staged.2
                  ∙ cut_whole (length stage.rows) (column port stage.rows)
                  (let size = length-column stage.rows port in omega (arith, size))
                  ∙ sym tuple
                  ∙ sym (either_same (tuple_in design at vs link)
                  (cut (sent_steps design.gamma design.period (rate_of design node)) (tuple_in design at vs link))
                  (is_to_plant pairs link) (is_to_controller pairs link) (inside_goes design pairs are link is))
              | inr not ↦
                  ap₂ (λ b o. sent_from b o port) not staged.2
                  ∙ ap₂ cut (ap (λ (s : StageSize). s.sent) room
                  ∙ ap (sent_steps design.gamma design.period) (sym (ap rate_in is_c))) (sym tuple)
                  ∙ sym
                  (ap (λ b. if b then tuple_in design at vs link else if is_to_controller pairs link then tuple_in
                  design at vs
                  link else cut (sent_steps design.gamma design.period (rate_of design node))
                  (tuple_in design at vs link)) (outside_back design pairs are link not)
                  ∙ ap (λ b. if b then tuple_in design at vs link else cut
                  (sent_steps design.gamma design.period (rate_of design node)) (tuple_in design at vs link))
                  (outside_forth design pairs are link not))
            ])
        | inr past ↦ absurd (let low = past.0 in let inside = kept.source.node_is in omega (arith, low, inside, many))
      ]

  messages_are : (links : List Link) → All (IsLink design) links
      → map (sent_on pairs stages) links ≡ map (message_in design pairs at vs) links
  messages_are [] kept = refl
  messages_are (link ∷ links) kept =
      ap₂ (λ m ms. m ∷ ms) (message_is link (All-head (IsLink design) link links kept))
      (messages_are links (All-tail (IsLink design) link links kept))

  -- ---- the whole
  pub advanced_by : (messages : List (List PortValue)) (parts : List Part)
      → messages ≡ map (sent_on pairs stages) design.links
      → IsAdvanced (standing design pairs frames round.messages.now parts) round.values.now
      (standing design pairs (frames_of next) messages next)
  advanced_by messages parts sent = record {
    vectors = vs;
    reads = reads_round round pairs are frames next stages run many;
    leaves =
        ap (λ fs. standing design pairs fs messages next) frames_stand
        ∙ ap (λ ms. standing design pairs (after_round design pairs at vs).frames ms next)
        (sent ∙ messages_are design.links sound.links.each)
        ∙ ap (standing design pairs (after_round design pairs at vs).frames (after_round design pairs at vs).messages)
        parts_stand;
  }
