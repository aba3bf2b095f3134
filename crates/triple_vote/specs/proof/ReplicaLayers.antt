-- A layer: one replica of each component that has one, with its room, its opening, and its results of a round.
use Rattle.std.specs.Prelude.{◌≡◌, ℕ, Bool, true, false, List, [], length, map, Option, Some, None, slice_get}
use Rattle.std.specs.Prelude.{slice_index_or}
use Rattle.pals_base.specs.declared.basic_types.PortValue.{PortValue}
use Rattle.pals_base.specs.declared.frames.Frame.{Frame}
use Rattle.pals_base.specs.PeriodBoundAndReleases.{sent_steps}
use Rattle.pals_base.specs.SingleStep.{initial}
use Rattle.pals_base.specs.StepSequences.{frame_after, outputs}
use Rattle.pals_base.specs.Tuples.{column, cut}
use Rattle.pals_model.specs.declared.design.Component.{Component}
use Rattle.pals_model.specs.declared.design.Link.{Link}
use Rattle.pals_model.specs.declared.design.Tap.{Tap}
use Rattle.pals_model.specs.declared.design.DesignParts.{DesignParts}
use Rattle.pals_model.specs.declared.part.Part.{Part}
use Rattle.pals_model.specs.ComponentInputs.{inputs_of}
use Rattle.pals_model.specs.PortKindsAndRates.{rate_of}
use Rattle.pals_model.specs.Composition.{no_frame, opening}
use Rattle.sync_product.specs.declared.component_stage.Stage.{Stage}
use Rattle.sync_product.specs.proof.ProductSizes.{PartSize, part_size, part_size_of, message_sizes}
use Rattle.sync_product.specs.proof.Rounds.{frames_of, sent_by}
use Rattle.triple_vote.specs.declared.replica_layer.Layer.{Layer}

-- ---- room
abbrev pub lengths : List (List PortValue) → List ℕ
lengths tuples = map (λ (tuple : List PortValue). length tuple) tuples

-- only frames, without the values of root out ports
abbrev pub frame_sizes : DesignParts → List PartSize
frame_sizes design = map (λ (c : Component). part_size_of c []) design.components

abbrev pub tap_sizes : DesignParts → List ℕ
tap_sizes design = map (λ (tap : Tap). rate_of design tap.source.0) design.taps

pub record HasRoom (design : DesignParts) (layer : Layer) : Type 0 where
  pub there_fit : length layer.there ≡ length design.components
  pub parts_fit : map part_size layer.parts ≡ frame_sizes design
  pub next_fit : map part_size layer.next ≡ frame_sizes design
  pub sent_fit : lengths layer.sent ≡ message_sizes design
  pub shown_fit : lengths layer.shown ≡ tap_sizes design

-- ---- which components have such a replica, and its initial state
abbrev pub opening_part : Component → Part
opening_part c = record { frame = initial c.behaviour; outs = [] }

abbrev pub has_replica : List Bool → ℕ → Bool
has_replica there node = slice_index_or there node false

-- before the first round
pub record IsOpened (design : DesignParts) (there : List Bool) (layer : Layer) : Type 0 where
  pub there_is : layer.there ≡ there
  pub frames : frames_of layer.parts ≡ (opening design).frames
  pub room : length there ≡ length design.components → HasRoom design layer

-- ---- the results of a component's steps, from these frames and the received messages
abbrev pub frame_made : DesignParts → List PortValue → List (List PortValue) → List Frame → ℕ → Component → Frame
frame_made design values received_messages frames node c =
    frame_after c.behaviour (slice_index_or frames node no_frame) (inputs_of design values received_messages node c)

abbrev pub rows_made : DesignParts → List PortValue → List (List PortValue) → List Frame → ℕ → Component
    → List (List PortValue)
rows_made design values received_messages frames node c =
    outputs c.behaviour (slice_index_or frames node no_frame) (inputs_of design values received_messages node c)

-- its frame, and the rows of its stage
pub record IsRun (design : DesignParts) (values : List PortValue) (received_messages : List (List PortValue))
    (frames : List Frame)
    (next : List Part) (stages : List Stage)
    (node : ℕ) (c : Component) : Type 0 where
  pub frame : slice_get (frames_of next) node ≡ Some (frame_made design values received_messages frames node c)
  pub rows : slice_get (map (λ (s : Stage). s.rows) stages) node
      ≡ Some (rows_made design values received_messages frames node c)

-- the results of all existing components
abbrev pub AreRun : DesignParts → List PortValue → List (List PortValue) → List Bool → List Frame → List Part
    → List Stage → Type 0
AreRun design values received_messages there frames next stages =
    (node : ℕ) (c : Component) → slice_get design.components node ≡ Some c → has_replica there node ≡ true
    → IsRun design values received_messages frames next stages node c

-- ---- the results in the stages
-- each link of an existing component has its message
abbrev pub AreSent : DesignParts → List Bool → List Stage → List (List PortValue) → Type 0
AreSent design there stages sent =
    (l : ℕ) (link : Link) → slice_get design.links l ≡ Some link → has_replica there link.source.0 ≡ true
    → slice_get sent l ≡ Some (sent_by stages link)

abbrev pub whole_from : Option Stage → ℕ → List PortValue
whole_from None port = []
whole_from (Some stage) port = column port stage.rows

-- each root out port of a component that is there has its whole tuple
abbrev pub AreWhole : DesignParts → List Bool → List Stage → List (List PortValue) → Type 0
AreWhole design there stages shown =
    (n : ℕ) (tap : Tap) → slice_get design.taps n ≡ Some tap → has_replica there tap.source.0 ≡ true
    → slice_get shown n ≡ Some (whole_from (slice_get stages tap.source.0) tap.out_port)

-- ---- a round of a layer
-- the state of its replicas is unchanged
pub record StaysPut (old new : Layer) : Type 0 where
  pub there : new.there ≡ old.there
  pub parts : new.parts ≡ old.parts

abbrev pub own_rows_of : DesignParts → List PortValue → List (List PortValue) → Layer → ℕ → Component
    → List (List PortValue)
own_rows_of design values received_messages layer node c =
    rows_made design values received_messages (frames_of layer.parts) node c

-- it has the next frame, the messages and the whole tuples of each component that is there
pub record IsMade (design : DesignParts) (values : List PortValue) (received_messages : List (List PortValue))
    (layer : Layer) : Type 0 where
  pub frames : (node : ℕ) (c : Component) → slice_get design.components node ≡ Some c
      → has_replica layer.there node ≡ true
      → slice_get (frames_of layer.next) node ≡ Some
      (frame_made design values received_messages (frames_of layer.parts) node c)
  pub sent : (l : ℕ) (link : Link) (c : Component) → slice_get design.links l ≡ Some link
      → slice_get design.components link.source.0 ≡ Some c
      → has_replica layer.there link.source.0 ≡ true
      → slice_get layer.sent l
      ≡ Some (cut (sent_steps design.gamma design.period c.rate)
      (column link.out_port (own_rows_of design values received_messages layer link.source.0 c)))
  pub shown : (n : ℕ) (tap : Tap) (c : Component) → slice_get design.taps n ≡ Some tap
      → slice_get design.components tap.source.0 ≡ Some c
      → has_replica layer.there tap.source.0 ≡ true
      → slice_get layer.shown n ≡ Some (column tap.out_port
      (own_rows_of design values received_messages layer tap.source.0 c))

-- over to the frames that were made
pub record IsSwapped (old new : Layer) : Type 0 where
  pub there : new.there ≡ old.there
  pub parts : new.parts ≡ old.next
  pub next : new.next ≡ old.parts
  pub sent : new.sent ≡ old.sent
  pub shown : new.shown ≡ old.shown
