-- The three layers together, which represent all replicas, and the votes on their results.
use Rattle.std.specs.Prelude.{◌≡◌, ℕ, suc, ◌<◌, nat_lt, Bool, true, if◌then◌else◌, List, [], length, map, All, find}
use Rattle.std.specs.Prelude.{Some, slice_get, slice_index_or}
use Rattle.pals_base.specs.declared.basic_types.PortValue.{PortValue}
use Rattle.pals_base.specs.declared.frames.Frame.{Frame}
use Rattle.pals_model.specs.declared.design.Link.{Link}
use Rattle.pals_model.specs.declared.design.Tap.{Tap}
use Rattle.pals_model.specs.declared.design.DesignParts.{DesignParts}
use Rattle.pals_model.specs.declared.part.Part.{Part}
use Rattle.pals_model.specs.Composition.{no_frame, opening}
use Rattle.pals_runs.specs.declared.replica_faults.VoteFault.{VoteFault}
use Rattle.sync_product.specs.proof.ProductSizes.{message_sizes}
use Rattle.sync_product.specs.proof.Rounds.{frames_of}
use Rattle.triple_vote.specs.declared.replica_layer.Layer.{Layer}
use Rattle.triple_vote.specs.VotedComposition.{is_replicated, copies_of, VotedConfiguration, for_replicas}
use Rattle.triple_vote.specs.VotedComposition.{for_receivers, is_fault, fault_or}
use Rattle.triple_vote.specs.VotedComposition.{vote_of}
use Rattle.triple_vote.specs.proof.ReplicaLayers.{lengths, HasRoom, has_replica, IsMade}

-- ---- by the number of the replica
abbrev pub there_in : List Layer → List (List Bool)
there_in layers = map (λ (l : Layer). l.there) layers

abbrev pub parts_in : List Layer → List (List Part)
parts_in layers = map (λ (l : Layer). l.parts) layers

abbrev pub next_in : List Layer → List (List Part)
next_in layers = map (λ (l : Layer). l.next) layers

abbrev pub sent_in : List Layer → List (List (List PortValue))
sent_in layers = map (λ (l : Layer). l.sent) layers

abbrev pub shown_in : List Layer → List (List (List PortValue))
shown_in layers = map (λ (l : Layer). l.shown) layers

abbrev pub frame_of : List (List Part) → ℕ → ℕ → Frame
frame_of parts replica node = slice_index_or (frames_of (slice_index_or parts replica [])) node no_frame

abbrev pub tuple_of : List (List (List PortValue)) → ℕ → ℕ → List PortValue
tuple_of tuples replica at = slice_index_or (slice_index_or tuples replica []) at []

abbrev pub voted_of : DesignParts → List Bool → List (List Part) → List (List (List PortValue)) → VotedConfiguration
voted_of design replicated parts received_messages = record {
  frames = for_replicas design replicated (λ node replica. frame_of parts replica node);
  received = for_receivers design replicated (λ l target. tuple_of received_messages target l);
}

-- ---- the votes
-- the message that a replica receives on a link from the replicas of its source, three or one
abbrev pub received_of : Bool → List VoteFault → List (List (List PortValue)) → ℕ → ℕ → List PortValue
received_of three faults sent l target =
    if three then vote_of (λ replica.
    fault_or (find (is_fault l (suc replica) (suc target)) faults) (tuple_of sent replica l))
    else tuple_of sent 0 l

-- the messages of all links whose target has this replica
abbrev pub AreReceived : DesignParts → List Bool → List VoteFault → List Layer → ℕ → List (List PortValue) → Type 0
AreReceived design replicated faults layers target received_messages =
    (l : ℕ) (link : Link) → slice_get design.links l ≡ Some link
    → has_replica (slice_index_or (there_in layers) target []) link.target.0 ≡ true
    → slice_get received_messages l ≡ Some (received_of (is_replicated replicated link.source.0) faults
    (sent_in layers) l target)

-- what a root out port shows of it
abbrev pub shown_of : Bool → List (List (List PortValue)) → ℕ → List PortValue
shown_of three shown n = if three then vote_of (λ replica. tuple_of shown replica n) else tuple_of shown 0 n

abbrev pub AreShown : DesignParts → List Bool → List Layer → List (List PortValue) → Type 0
AreShown design replicated layers shown =
    (n : ℕ) (tap : Tap) → slice_get design.taps n ≡ Some tap
    → slice_get shown n ≡ Some (shown_of (is_replicated replicated tap.source.0) (shown_in layers) n)

-- three tuples of one size in a place
abbrev pub AreOfSize : List (List (List PortValue)) → ℕ → ℕ → Type 0
AreOfSize tuples at size = (replica : ℕ) → replica < 3 → length (tuple_of tuples replica at) ≡ size

-- faults of a link have that size
abbrev pub FaultsFit : List VoteFault → ℕ → ℕ → Type 0
FaultsFit faults l size = All (λ (f : VoteFault). f.link.0 ≡ l → length f.values ≡ size) faults

-- ---- a round
-- three layers that have room
pub record AreThree (design : DesignParts) (layers : List Layer) : Type 0 where
  pub three : length layers ≡ 3
  pub rooms : All (HasRoom design) layers

-- the state of all replicas is unchanged
pub record StayPut (old new : List Layer) : Type 0 where
  pub there : there_in new ≡ there_in old
  pub parts : parts_in new ≡ parts_in old

-- each layer is computed from the received messages of its replicas
abbrev pub AreMade : DesignParts → List PortValue → List (List (List PortValue)) → List Layer → Type 0
AreMade design values received_messages layers =
    (replica : ℕ) (layer : Layer) → slice_get layers replica ≡ Some layer
    → IsMade design values (slice_index_or received_messages replica []) layer

-- each layer's replicas receive
abbrev pub AllReceived : DesignParts → List Bool → List VoteFault → List Layer → List (List (List PortValue)) → Type 0
AllReceived design replicated faults layers received_messages =
    (target : ℕ) → target < 3 → AreReceived design replicated faults layers target
    (slice_index_or received_messages target [])

-- over to the frames that were made
pub record AreSwapped (old new : List Layer) : Type 0 where
  pub there : there_in new ≡ there_in old
  pub parts : parts_in new ≡ next_in old
  pub rooms : (design : DesignParts) → AreThree design old → AreThree design new

-- ---- the invariant of each product with votes
-- a layer has the replicas of its number
abbrev pub HaveReplicas : DesignParts → List Bool → List (List Bool) → Type 0
HaveReplicas design replicated there =
    (replica node : ℕ) → replica < 3 → node < length design.components
    → has_replica (slice_index_or there replica []) node ≡ nat_lt replica (copies_of replicated node)

-- room for what three replicas receive
pub record HasReceivedSizes (design : DesignParts) (received_messages : List (List (List PortValue))) : Type 0 where
  pub three : length received_messages ≡ 3
  pub sizes : All (λ tuples. lengths tuples ≡ message_sizes design) received_messages

-- before the first round
pub record AreOpened (design : DesignParts) (replicated : List Bool) (layers : List Layer) : Type 0 where
  pub layers_fit : AreThree design layers
  pub layers_are : HaveReplicas design replicated (there_in layers)
  pub frames : (replica : ℕ) → replica < 3
      → frames_of (slice_index_or (parts_in layers) replica []) ≡ (opening design).frames
