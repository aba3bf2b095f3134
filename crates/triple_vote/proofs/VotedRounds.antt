-- The results of three layers, and the votes on them, are one round of *votes*.
use Rattle.std.proofs.Common.{◌≡◌, ◌∙◌, ℕ, suc, ◌<◌, inl, inr, Bool, true, false, if◌then◌else◌, List, [], length, map}
use Rattle.std.proofs.Common.{find, slice_get, slice_index_or, Some, refl, sym, ap, ap₂, subst, arith}
use Rattle.std.proofs.lemmas.Bool.{lt-ltb}
use Rattle.std.proofs.lemmas.List.{length-map, ext_get_or}
use Rattle.std.proofs.lemmas.Option.{slice_get_within, slice_get_cases, get_or_from_slice_get}
use Rattle.list_lemmas.proofs.ElementPositions.{slice_get-map_some, get_or-map_some}
use Rattle.pals_base.specs.declared.basic_types.PortValue.{PortValue}
use Rattle.pals_base.specs.declared.frames.Frame.{Frame}
use Rattle.pals_base.specs.PeriodBoundAndReleases.{sent_steps}
use Rattle.pals_base.specs.StepSequences.{steps, Stepped}
use Rattle.pals_base.specs.Tuples.{column, columns, cut}
use Rattle.pals_base.specs.UpwardNumbers.{upwards}
use Rattle.pals_base.proofs.ColumnsAndCutTuples.{slice_get-columns}
use Rattle.pals_base.proofs.UpwardNumbers.{map_upwards_same}
use Rattle.pals_model.specs.declared.design.Component.{Component}
use Rattle.pals_model.specs.declared.design.Link.{Link}
use Rattle.pals_model.specs.declared.design.Tap.{Tap}
use Rattle.pals_model.specs.declared.design.DesignParts.{DesignParts}
use Rattle.pals_model.specs.ComponentInputs.{inputs_of}
use Rattle.pals_model.specs.PortKindsAndRates.{rate_in, outs_in}
use Rattle.pals_model.specs.Composition.{no_frame}
use Rattle.pals_model.specs.DesignRules.{IsDesign, IsLink, IsTap, IsSource}
use Rattle.pals_model.proofs.FirstMatches.{at_element}
use Rattle.pals_model.proofs.ShapeLaws.{component_at}
use Rattle.pals_runs.specs.declared.replica_faults.VoteFault.{VoteFault}
use Rattle.sync_product.specs.proof.Rounds.{frames_of}
use Rattle.triple_vote.specs.declared.replica_layer.Layer.{Layer}
use Rattle.triple_vote.specs.Votes.{votes}
use Rattle.triple_vote.specs.VotedComposition.{is_replicated, copies_of, receivers_in, VotedConfiguration, for_replicas}
use Rattle.triple_vote.specs.VotedComposition.{for_receivers}
use Rattle.triple_vote.specs.VotedComposition.{steps_in, replica_steps, tuple_at, is_fault, fault_or, own_message}
use Rattle.triple_vote.specs.VotedComposition.{sent_to}
use Rattle.triple_vote.specs.VotedComposition.{vote_of, receives_on, next_voted, voted_tap_by}
use Rattle.triple_vote.specs.proof.ReplicaLayers.{has_replica, frame_made, rows_made}
use Rattle.triple_vote.specs.proof.ThreeLayers.{there_in, parts_in, next_in, sent_in, shown_in, frame_of, tuple_of}
use Rattle.triple_vote.specs.proof.ThreeLayers.{voted_of, received_of, AllReceived, shown_of, AreShown, AreMade}
use Rattle.triple_vote.specs.proof.ThreeLayers.{HaveReplicas}
use Rattle.triple_vote.proofs.ReplicaInputs.{same_inputs}
use Rattle.triple_vote.proofs.ReplicaRounds.{replica_at, receiver_at, has_first, has_three}

-- ---- lists by numbers
pub replicas-same : (design : DesignParts) (replicated : List Bool) (f g : ℕ → ℕ → Frame)
    → ((node replica : ℕ) → node < length design.components → replica < copies_of replicated node
    → f node replica ≡ g node replica)
    → for_replicas design replicated f ≡ for_replicas design replicated g
replicas-same design replicated f g each =
    map_upwards_same (λ node. map (f node) (upwards 0 (copies_of replicated node)))
    (λ node. map (g node) (upwards 0 (copies_of replicated node))) 0 (length design.components)
    (λ node above within. map_upwards_same (f node) (g node) 0 (copies_of replicated node)
    (λ replica over below. each node replica (omega arith) (omega arith)))

pub receivers-same : (design : DesignParts) (replicated : List Bool) (f g : ℕ → ℕ → List PortValue)
    → ((l target : ℕ) (link : Link) → slice_get design.links l ≡ Some link → target < copies_of replicated link.target.0
    → f l target ≡ g l target)
    → for_receivers design replicated f ≡ for_receivers design replicated g
receivers-same design replicated f g each =
    let count : ℕ → ℕ = λ l. receivers_in replicated (slice_get design.links l) in
    map_upwards_same (λ l. map (f l) (upwards 0 (count l))) (λ l. map (g l) (upwards 0 (count l))) 0
    (length design.links)
    (λ l above within. elim (slice_get_cases design.links l).1 [
      | inl found ↦ map_upwards_same (f l) (g l) 0 (count l) (λ target over below.
          (let there : target < receivers_in replicated (Some found.0)
          = subst (λ o. target < receivers_in replicated o) found.2 (omega (arith, below)) in
          each l target found.0 found.2 there))
      | inr past ↦ absurd (omega (arith, past.0, within))
    ])

at_most_three : (b : Bool) (replica : ℕ) → replica < (if b then 3 else 1) → replica < 3
at_most_three true replica below = below
at_most_three false replica below = omega (arith, below)

pub within_three : (replicated : List Bool) (node replica : ℕ) → replica < copies_of replicated node → replica < 3
within_three replicated node replica below = at_most_three (is_replicated replicated node) replica below

module _ (design : DesignParts) (replicated : List Bool) (values : List PortValue)
    (received_messages : List (List (List PortValue))) (layers : List Layer)
    (rules : IsDesign design) (three : length layers ≡ 3) (are : HaveReplicas design replicated (there_in layers))
    (made : AreMade design values received_messages layers) where
  abbrev v : VotedConfiguration
  v = voted_of design replicated (parts_in layers) received_messages

  abbrev heard_of : ℕ → List (List PortValue)
  heard_of replica = slice_index_or received_messages replica []

  -- ---- layers
  record HasLayer (replica : ℕ) : Type 0 where
    layer : Layer
    is : slice_get layers replica ≡ Some layer

  has_layer : (replica : ℕ) → replica < 3 → HasLayer replica
  has_layer replica below =
      elim (slice_get_cases layers replica).1 [
        | inl found ↦ record { layer = found.0; is = found.2 }
        | inr past ↦ absurd (omega (arith, past.0, three, below))
      ]

  present : (node replica : ℕ) (at : HasLayer replica) → node < length design.components
      → replica < copies_of replicated node → has_replica at.layer.there node ≡ true
  present node replica at within below =
      ap (λ there. has_replica there node)
      (sym (get_or-map_some (λ (l : Layer). l.there) layers replica at.layer [] at.is))
      ∙ are replica node (within_three replicated node replica below) within
      ∙ lt-ltb replica (copies_of replicated node) below

  -- ---- the steps of a replica are the steps of its layer
  abbrev layer_steps : ℕ → Component → ℕ → Stepped
  layer_steps node c replica =
      steps c.behaviour (frame_of (parts_in layers) replica node) (inputs_of design values (heard_of replica) node c)

  same_steps : (node replica : ℕ) (c : Component) → slice_get design.components node ≡ Some c
      → replica < copies_of replicated node
      → replica_steps design values v node replica ≡ layer_steps node c replica
  same_steps node replica c is below =
      let within = slice_get_within design.components node c is in
      ap (steps_in design values v node replica) is
      ∙ ap₂ (steps c.behaviour)
      (replica_at design replicated (λ n r. frame_of (parts_in layers) r n) node replica within below)
      (same_inputs design values v (heard_of replica) replica node c
      (λ l link is_link goes.
      receiver_at design replicated (λ k t. tuple_of received_messages t k) l replica link is_link
      (subst (λ n. replica < copies_of replicated n) (sym goes) below)))

  -- its frame, as its layer has it
  own_frame : (node replica : ℕ) (at : HasLayer replica)
      → frame_of (parts_in layers) replica node ≡ slice_index_or (frames_of at.layer.parts) node no_frame
  own_frame node replica at =
      ap (λ parts. slice_index_or (frames_of parts) node no_frame)
      (get_or-map_some (λ (l : Layer). l.parts) layers replica at.layer [] at.is)

  layer_frame : (node replica : ℕ) (c : Component) (at : HasLayer replica) → (layer_steps node c replica).frame
      ≡ frame_made design values (heard_of replica) (frames_of at.layer.parts) node c
  layer_frame node replica c at =
      ap (λ (f : Frame). (steps c.behaviour f (inputs_of design values (heard_of replica) node c)).frame)
      (own_frame node replica at)

  -- and its tuple of an out port
  layer_tuple : (node port replica : ℕ) (c : Component) (at : HasLayer replica)
      → slice_get design.components node ≡ Some c → replica < copies_of replicated node
      → port < length c.behaviour.outs
      → tuple_at design values v node port replica
      ≡ column port (rows_made design values (heard_of replica) (frames_of at.layer.parts) node c)
  layer_tuple node port replica c at is below within =
      let rows = rows_made design values (heard_of replica) (frames_of at.layer.parts) node c in
      ap (λ (s : Stepped). slice_index_or s.tuples port []) (same_steps node replica c is below)
      ∙ ap (λ (f : Frame). slice_index_or
      (steps c.behaviour f (inputs_of design values (heard_of replica) node c)).tuples port [])
      (own_frame node replica at)
      ∙ get_or_from_slice_get (columns (length c.behaviour.outs) rows) port (column port rows) []
      (slice_get-columns (length c.behaviour.outs) rows port within)

  -- an out port of a component
  port_within : (node port : ℕ) (c : Component) → IsSource design node port → slice_get design.components node ≡ Some c
      → port < length c.behaviour.outs
  port_within node port c source is = omega (arith, source.port_is, ap outs_in is)

  -- ---- frames
  frame_turned : (node replica : ℕ) → node < length design.components → replica < copies_of replicated node
      → frame_of (next_in layers) replica node ≡ (replica_steps design values v node replica).frame
  frame_turned node replica within below =
      let found = component_at design node within in
      let c : Component = found.0 in
      let at = has_layer replica (within_three replicated node replica below) in
      let layer_made = made replica at.layer at.is in
      ap (λ parts. slice_index_or (frames_of parts) node no_frame)
      (get_or-map_some (λ (l : Layer). l.next) layers replica at.layer [] at.is)
      ∙ get_or_from_slice_get (frames_of at.layer.next) node _ no_frame
      (layer_made.frames node c found.1 (present node replica at within below))
      ∙ sym (ap (λ (s : Stepped). s.frame) (same_steps node replica c found.1 below) ∙ layer_frame node replica c at)

  -- ---- messages
  own_sent : (l replica : ℕ) (link : Link) → slice_get design.links l ≡ Some link
      → replica < copies_of replicated link.source.0
      → tuple_of (sent_in layers) replica l ≡ own_message design values v link replica
  own_sent l replica link is below =
      let kept = at_element (IsLink design) design.links l link rules.links.each is in
      let found = component_at design link.source.0 kept.source.node_is in
      let c : Component = found.0 in
      let at = has_layer replica (within_three replicated link.source.0 replica below) in
      let layer_made = made replica at.layer at.is in
      let rows = rows_made design values (heard_of replica) (frames_of at.layer.parts) link.source.0 c in
      ap (λ tuples. slice_index_or tuples l [])
      (get_or-map_some (λ (x : Layer). x.sent) layers replica at.layer [] at.is)
      ∙ get_or_from_slice_get at.layer.sent l _ []
      (layer_made.sent l link c is found.1 (present link.source.0 replica at kept.source.node_is below))
      ∙ ap (cut (sent_steps design.gamma design.period c.rate))
      (sym (layer_tuple link.source.0 link.out_port replica c at found.1 below
      (port_within link.source.0 link.out_port c kept.source found.1)))
      ∙ sym (ap (λ o. cut (sent_steps design.gamma design.period (rate_in o))
      (tuple_at design values v link.source.0 link.out_port replica)) found.1)

  received_by : (faults : List VoteFault) (l target : ℕ) (link : Link) (b : Bool) → slice_get design.links l ≡ Some link
      → is_replicated replicated link.source.0 ≡ b
      → received_of b faults (sent_in layers) l target
      ≡ (if b then vote_of (sent_to design values faults v l link target) else own_message design values v link 0)
  received_by faults l target link true is replicas =
      let sends : ℕ → List PortValue → List PortValue =
      λ replica own. fault_or (find (is_fault l (suc replica) (suc target)) faults) own in
      let own : (replica : ℕ) → replica < 3 → tuple_of (sent_in layers) replica l
      ≡ own_message design values v link replica
      = λ replica below. own_sent l replica link is (has_three replicated link.source.0 replica replicas below) in
      ap₂ (λ x y. votes (sends 0 x) (sends 1 y) (sends 2 (tuple_of (sent_in layers) 2 l))) (own 0 (omega arith))
      (own 1 (omega arith))
      ∙ ap (λ z. votes (sends 0 (own_message design values v link 0)) (sends 1 (own_message design values v link 1))
      (sends 2 z)) (own 2 (omega arith))
  received_by faults l target link false is alone = own_sent l 0 link is (has_first replicated link.source.0)

  -- ---- root out ports
  own_shown : (n replica : ℕ) (tap : Tap) → slice_get design.taps n ≡ Some tap
      → replica < copies_of replicated tap.source.0
      → tuple_of (shown_in layers) replica n ≡ tuple_at design values v tap.source.0 tap.out_port replica
  own_shown n replica tap is below =
      let kept = at_element (IsTap design) design.taps n tap rules.taps.each is in
      let found = component_at design tap.source.0 kept.source.node_is in
      let c : Component = found.0 in
      let at = has_layer replica (within_three replicated tap.source.0 replica below) in
      let layer_made = made replica at.layer at.is in
      ap (λ tuples. slice_index_or tuples n [])
      (get_or-map_some (λ (x : Layer). x.shown) layers replica at.layer [] at.is)
      ∙ get_or_from_slice_get at.layer.shown n _ []
      (layer_made.shown n tap c is found.1 (present tap.source.0 replica at kept.source.node_is below))
      ∙ sym (layer_tuple tap.source.0 tap.out_port replica c at found.1 below
      (port_within tap.source.0 tap.out_port c kept.source found.1))

  shown_by : (n : ℕ) (tap : Tap) (b : Bool) → slice_get design.taps n ≡ Some tap
      → is_replicated replicated tap.source.0 ≡ b
      → shown_of b (shown_in layers) n
      ≡ (if b then vote_of (tuple_at design values v tap.source.0 tap.out_port) else tuple_at design values v
      tap.source.0 tap.out_port 0)
  shown_by n tap true is replicas =
      let tuple = tuple_at design values v tap.source.0 tap.out_port in
      let own : (replica : ℕ) → replica < 3 → tuple_of (shown_in layers) replica n ≡ tuple replica
      = λ replica below. own_shown n replica tap is (has_three replicated tap.source.0 replica replicas below) in
      ap₂ (λ x y. votes x y (tuple_of (shown_in layers) 2 n)) (own 0 (omega arith)) (own 1 (omega arith))
      ∙ ap (votes (tuple 0) (tuple 1)) (own 2 (omega arith))
  shown_by n tap false is alone = own_shown n 0 tap is (has_first replicated tap.source.0)

  -- ---- the round
  pub voted_is : (faults : List VoteFault) (next : List (List (List PortValue)))
      → AllReceived design replicated faults layers next
      → voted_of design replicated (next_in layers) next ≡ next_voted design replicated values faults v
  voted_is faults next received =
      ap₂ (λ frames tuples. let w : VotedConfiguration = record { frames = frames; received = tuples } in w)
      (replicas-same design replicated (λ node replica. frame_of (next_in layers) replica node)
      (λ node replica. (replica_steps design values v node replica).frame)
      (λ node replica within below. frame_turned node replica within below))
      (receivers-same design replicated (λ l target. tuple_of next target l)
      (λ l target. receives_on design replicated values faults v l target (slice_get design.links l))
      (λ l target link is below.
      let kept = at_element (IsLink design) design.links l link rules.links.each is in
      let at = has_layer target (within_three replicated link.target.0 target below) in
      let here =
      ap (λ there. has_replica there link.target.0)
      (get_or-map_some (λ (x : Layer). x.there) layers target at.layer [] at.is)
      ∙ present link.target.0 target at kept.target.node_is below in
      get_or_from_slice_get (slice_index_or next target []) l _ []
      (received target (within_three replicated link.target.0 target below) l link is here)
      ∙ received_by faults l target link (is_replicated replicated link.source.0) is refl
      ∙ sym (ap (receives_on design replicated values faults v l target) is)))

  pub shown_is : (shown : List (List PortValue)) → length shown ≡ length design.taps
      → AreShown design replicated layers shown
      → shown ≡ map (voted_tap_by design replicated values v) design.taps
  shown_is shown size shows =
      let shows_tap : Tap → List PortValue = voted_tap_by design replicated values v in
      let many : length (map shows_tap design.taps) ≡ length design.taps = length-map design.taps shows_tap in
      ext_get_or [] shown (map shows_tap design.taps) (size ∙ sym many)
      (λ n within. elim (slice_get_cases design.taps n).1 [
        | inl found ↦
            let tap : Tap = found.0 in
            get_or_from_slice_get shown n _ [] (shows n tap found.2)
            ∙ shown_by n tap (is_replicated replicated tap.source.0) found.2 refl
            ∙ sym (get_or_from_slice_get (map shows_tap design.taps) n (shows_tap tap) []
            (slice_get-map_some shows_tap design.taps n tap found.2))
        | inr past ↦ absurd (omega (arith, past.0, within, size))
      ])
