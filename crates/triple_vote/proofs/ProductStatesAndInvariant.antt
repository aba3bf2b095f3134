-- The model of a product with votes, before the first round, after one more and when it is read; and the invariant of
-- each product.
use Rattle.std.proofs.Common.{◌≡◌, ◌∙◌, ℕ, ◌-◌, ◌<◌, ◌≤◌, Bool, List, [], length, map, replicate, slice_get}
use Rattle.std.proofs.Common.{slice_index_or, Some, sym, ap, ap₂, subst, arith}
use Rattle.std.proofs.lemmas.List.{length-map, get_or-map, get_or-replicate, get_or_default}
use Rattle.std.proofs.lemmas.Option.{get_or_from_slice_get}
use Rattle.list_lemmas.proofs.ElementPositions.{slice_get-map_some}
use Rattle.pals_base.specs.declared.basic_types.PortValue.{PortValue}
use Rattle.pals_base.specs.declared.basic_types.PortValue.TheVariants.{Absent}
use Rattle.pals_base.specs.declared.frames.Frame.{Frame}
use Rattle.pals_base.specs.SingleStep.{initial}
use Rattle.pals_model.specs.declared.design.Component.{Component}
use Rattle.pals_model.specs.declared.design.Link.{Link}
use Rattle.pals_model.specs.declared.design.Tap.{Tap}
use Rattle.pals_model.specs.declared.design.DesignParts.{DesignParts}
use Rattle.pals_model.specs.declared.part.Part.{Part}
use Rattle.pals_model.specs.declared.port_sources.PortSource.{PortSource}
use Rattle.pals_model.specs.PortKindsAndRates.{rate_of}
use Rattle.pals_model.specs.Composition.{no_frame, opening}
use Rattle.pals_model.specs.DesignRules.{IsDesign}
use Rattle.pals_model.proofs.ShapeLaws.{component_at}
use Rattle.pals_runs.specs.declared.replica_faults.VoteFault.{VoteFault}
use Rattle.sync_product.specs.declared.component_stage.Stage.{Stage}
use Rattle.sync_product.specs.proof.ProductSizes.{part_size, part_size_of, stage_size}
use Rattle.sync_product.specs.proof.Rounds.{frames_of}
use Rattle.sync_product.proofs.ComponentLists.{count_of_sized}
use Rattle.triple_vote.specs.declared.replica_layer.Layer.{Layer}
use Rattle.triple_vote.specs.VotedComposition.{copies_of, VotedConfiguration, frame_at, received_at, first_frame}
use Rattle.triple_vote.specs.VotedComposition.{first_tuple, voted_opening}
use Rattle.triple_vote.specs.VotedComposition.{voted_tap_by}
use Rattle.triple_vote.specs.proof.VotedStates.{VotedState, voted_begun, voted_advanced}
use Rattle.triple_vote.specs.proof.ReplicaLayers.{lengths, frame_sizes, tap_sizes}
use Rattle.triple_vote.specs.proof.ThreeLayers.{there_in, parts_in, frame_of, tuple_of, voted_of, AreThree}
use Rattle.triple_vote.specs.proof.ThreeLayers.{HaveReplicas, AreOpened, StayPut, AreMade, AllReceived, AreShown}
use Rattle.triple_vote.specs.proof.ThreeLayers.{AreSwapped, HasReceivedSizes}
use Rattle.triple_vote.specs.proof.ProductInvariant.{HasTables, HasReplicas}
use Rattle.triple_vote.proofs.ReplicaRounds.{replica_at, receiver_at}
use Rattle.triple_vote.proofs.ThreeLayerUpdates.{room_at}
use Rattle.triple_vote.proofs.VotedRounds.{replicas-same, receivers-same, within_three, voted_is, shown_is}

abbrev pub voted_state_of : DesignParts → List Bool → VotedConfiguration → List (List PortValue) → VotedState
voted_state_of design replicated voted shown =
    record { design = design; replicated = replicated; voted = voted; shown = shown }

-- ---- before the first round
voted_opened : (design : DesignParts) (replicated : List Bool) (layers : List Layer)
    (received_messages : List (List (List PortValue))) → AreOpened design replicated layers
    → received_messages ≡ replicate 3 (opening design).messages
    → voted_of design replicated (parts_in layers) received_messages ≡ voted_opening design replicated
voted_opened design replicated layers received_messages opened silent =
    let begins : Component → Frame = λ (c : Component). initial c.behaviour in
    let first : Link → List PortValue = λ (x : Link). replicate (rate_of design x.source.0) Absent in
    let messages : List (List PortValue) = (opening design).messages in
    ap₂ (λ frames tuples. let w : VotedConfiguration = record { frames = frames; received = tuples } in w)
    (replicas-same design replicated (λ node replica. frame_of (parts_in layers) replica node)
    (λ node replica. first_frame (slice_get design.components node))
    (λ node replica within below.
    let found = component_at design node within in
    let c : Component = found.0 in
    ap (λ frames. slice_index_or frames node no_frame)
    (opened.frames replica (within_three replicated node replica below))
    ∙ get_or_from_slice_get (map begins design.components) node (begins c) no_frame
    (slice_get-map_some begins design.components node c found.1)
    ∙ sym (ap first_frame found.1)))
    (receivers-same design replicated (λ l target. tuple_of received_messages target l)
    (λ l target. first_tuple design (slice_get design.links l))
    (λ l target link is below.
    ap (λ hs. slice_index_or (slice_index_or hs target []) l []) silent
    ∙ ap (λ ts. slice_index_or ts l [])
    (get_or-replicate 3 target messages [] (within_three replicated link.target.0 target below))
    ∙ get_or_from_slice_get messages l (first link) [] (slice_get-map_some first design.links l link is)
    ∙ sym (ap (first_tuple design) is)))

pub state_begun : (design : DesignParts) (replicated : List Bool) (layers : List Layer)
    (received_messages : List (List (List PortValue))) (shown : List (List PortValue))
    → AreOpened design replicated layers → received_messages ≡ replicate 3 (opening design).messages
    → shown ≡ map (λ (tap : Tap). replicate (rate_of design tap.source.0) Absent) design.taps
    → voted_state_of design replicated (voted_of design replicated (parts_in layers) received_messages) shown
    ≡ voted_begun design replicated
state_begun design replicated layers received_messages shown opened silent absent =
    ap₂ (voted_state_of design replicated) (voted_opened design replicated layers received_messages opened silent)
    absent

-- ---- one more
pub state_advanced : (design : DesignParts) (replicated : List Bool) (values : List PortValue) (faults : List VoteFault)
    (received_messages next : List (List (List PortValue)))
    (old layers turned : List Layer) (shown_before shown : List (List PortValue)) → IsDesign design
    → AreThree design layers → HaveReplicas design replicated (there_in old)
    → StayPut old layers → AreMade design values received_messages layers
    → AllReceived design replicated faults layers next
    → AreShown design replicated layers shown
    → lengths shown ≡ tap_sizes design → AreSwapped layers turned
    → voted_state_of design replicated (voted_of design replicated (parts_in turned) next) shown
    ≡ voted_advanced (voted_state_of design replicated (voted_of design replicated (parts_in old) received_messages)
    shown_before) values faults
state_advanced design replicated values faults received_messages next old layers turned shown_before shown rules are
    replicas stay
    made received shows sizes turns =
    let there : HaveReplicas design replicated (there_in layers) =
    subst (HaveReplicas design replicated) (sym stay.there) replicas in
    let count : length shown ≡ length design.taps
    =
    sym (length-map shown (λ (t : List PortValue). length t)) ∙ ap length sizes
    ∙ length-map design.taps (λ (tap : Tap). rate_of design tap.source.0) in
    let before : (List (List (List PortValue)))
    → VotedConfiguration = λ hs. voted_of design replicated (parts_in layers) hs in
    ap₂ (λ ps sh. voted_state_of design replicated (voted_of design replicated ps next) sh) turns.parts
    (shown_is design replicated values received_messages layers rules are.three there made shown count shows)
    ∙ ap (λ w. voted_state_of design replicated w
    (map (voted_tap_by design replicated values (before received_messages)) design.taps))
    (voted_is design replicated values received_messages layers rules are.three there made faults next received)
    ∙ ap (λ ps. voted_advanced (voted_state_of design replicated (voted_of design replicated ps received_messages)
    shown_before) values
    faults) stay.parts

-- ---- its observers
pub frame_read : (design : DesignParts) (replicated : List Bool) (layers : List Layer)
    (received_messages : List (List (List PortValue))) (node replica : ℕ) (layer : Layer) (part : Part)
    → node < length design.components → replica < copies_of replicated node → replica < length layers
    → layer ≡ slice_index_or layers replica layer
    → node < length layer.parts → part ≡ slice_index_or layer.parts node part
    → part.frame ≡ frame_at (voted_of design replicated (parts_in layers) received_messages) node replica
frame_read design replicated layers received_messages node replica layer part within below inside layer_is there
    part_is =
    ap (λ (p : Part). p.frame) part_is
    ∙ sym (get_or-map (λ (p : Part). p.frame) layer.parts node part no_frame there)
    ∙ ap (λ (l : Layer). slice_index_or (frames_of l.parts) node no_frame) layer_is
    ∙ ap (λ ps. slice_index_or (frames_of ps) node no_frame)
    (sym (get_or-map (λ (l : Layer). l.parts) layers replica layer [] inside))
    ∙ sym (replica_at design replicated (λ n r. frame_of (parts_in layers) r n) node replica within below)

pub received_read : (design : DesignParts) (replicated : List Bool) (parts : List (List Part))
    (received_messages : List (List (List PortValue))) (l target : ℕ) (link : Link) (tuples : List (List PortValue))
    (tuple : List PortValue)
    → slice_get design.links l ≡ Some link → target < copies_of replicated link.target.0
    → target < length received_messages
    → tuples ≡ slice_index_or received_messages target tuples
    → l < length tuples → tuple ≡ slice_index_or tuples l tuple
    → tuple ≡ received_at (voted_of design replicated parts received_messages) l target
received_read design replicated parts received_messages l target link tuples tuple is below inside tuples_are there
    tuple_is =
    tuple_is ∙ get_or_default tuples l tuple [] there
    ∙ ap (λ ts. slice_index_or ts l []) (tuples_are ∙ get_or_default received_messages target tuples [] inside)
    ∙ sym (receiver_at design replicated (λ k t. tuple_of received_messages t k) l target link is below)

-- there are layers and lists for all replicas
pub before_three : (replicated : List Bool) (node replica : ℕ) → 1 ≤ replica → replica ≤ copies_of replicated node
    → replica - 1 < 3
before_three replicated node replica low high =
    let below : replica - 1 < copies_of replicated node = omega (arith, low, high) in
    within_three replicated node (replica - 1) below

-- a layer has a part for each component
pub parts_there : (design : DesignParts) (layers : List Layer) (at node : ℕ) (layer : Layer) → AreThree design layers
    → at < length layers
    → layer ≡ slice_index_or layers at layer → node < length design.components → node < length layer.parts
parts_there design layers at node layer are within is below =
    let room = room_at design layers at layer are within is in
    omega (
      arith,
      count_of_sized part_size layer.parts (frame_sizes design) room.parts_fit,
      length-map design.components (λ (c : Component). part_size_of c []),
      below,
    )

-- ---- the invariant of each product with votes
pub tables_stay : (design : DesignParts) (replicated : List Bool) (sources : List (List PortSource))
    (old new : List Stage) → HasTables design replicated sources old
    → map stage_size new ≡ map stage_size old → HasTables design replicated sources new
tables_stay design replicated sources old new tables same =
    record {
      replicated_fit = tables.replicated_fit;
      sources_are = tables.sources_are;
      stages_fit = same ∙ tables.stages_fit;
    }

pub replicas_stay : (design : DesignParts) (replicated : List Bool) (old new : List Layer)
    (received_messages : List (List (List PortValue))) (shown : List (List PortValue))
    → HasReplicas design replicated old received_messages shown → StayPut old new → AreThree design new
    → HasReplicas design replicated new received_messages shown
replicas_stay design replicated old new received_messages shown kept stay are = record {
  layers_fit = are;
  layers_are = subst (HaveReplicas design replicated) (sym stay.there) kept.layers_are;
  heard_fit = kept.heard_fit;
  shown_fit = kept.shown_fit;
}

pub replicas_turn : (design : DesignParts) (replicated : List Bool) (old layers turned : List Layer)
    (received_messages next : List (List (List PortValue))) (shown_before shown : List (List PortValue))
    → HasReplicas design replicated old received_messages shown_before → StayPut old layers → AreThree design layers
    → AreSwapped layers turned → HasReceivedSizes design next
    → lengths shown ≡ tap_sizes design → HasReplicas design replicated turned next shown
replicas_turn design replicated old layers turned received_messages next shown_before shown kept stay are turns hear
    sizes = record {
      layers_fit = turns.rooms design are;
      layers_are = subst (HaveReplicas design replicated) (sym (turns.there ∙ stay.there)) kept.layers_are;
      heard_fit = hear;
      shown_fit = sizes;
    }

-- one round more, where each part of it reads the same design, replicas and layers
pub state_advanced_by : (design d1 d2 d3 : DesignParts) (replicated marked : List Bool) (values : List PortValue)
    (faults : List VoteFault) (received_messages before next : List (List (List PortValue)))
    (old layers seen turned : List Layer) (shown_before shown : List (List PortValue)) → d1 ≡ design → d2 ≡ design
    → d3 ≡ design → marked ≡ replicated → before ≡ received_messages
    → seen ≡ layers → IsDesign d3 → AreThree d1 layers → HaveReplicas design replicated (there_in old)
    → StayPut old layers → AreMade d1 values before layers
    → AllReceived d2 marked faults seen next → AreShown d3 marked seen shown → lengths shown ≡ tap_sizes d3
    → AreSwapped layers turned
    → voted_state_of design replicated (voted_of design replicated (parts_in turned) next) shown
    ≡ voted_advanced (voted_state_of design replicated (voted_of design replicated (parts_in old) received_messages)
    shown_before) values faults
state_advanced_by design d1 d2 d3 replicated marked values faults received_messages before next old layers seen turned
    shown_before
    shown e1 e2 e3 marks reads sees rules are replicas stay made received
    shows sizes turns =
    state_advanced design replicated values faults received_messages next old layers turned shown_before shown
    (subst IsDesign e3 rules) (subst (λ (d : DesignParts). AreThree d layers) e1 are) replicas stay
    (subst (λ (d : DesignParts). AreMade d values received_messages layers) e1
    (subst (λ hs. AreMade d1 values hs layers) reads made))
    (subst (λ (d : DesignParts). AllReceived d replicated faults layers next) e2
    (subst (λ (r : List Bool). AllReceived d2 r faults layers next) marks
    (subst (λ ls. AllReceived d2 marked faults ls next) sees received)))
    (subst (λ (d : DesignParts). AreShown d replicated layers shown) e3
    (subst (λ (r : List Bool). AreShown d3 r layers shown) marks
    (subst (λ ls. AreShown d3 marked ls shown) sees shows)))
    (sizes ∙ ap tap_sizes e3) turns
