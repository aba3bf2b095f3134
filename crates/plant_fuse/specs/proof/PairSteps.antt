-- What the two components of a pair read and leave in a round.
use Rattle.std.specs.Prelude.{◌≡◌, ℕ, zero, suc, ◌-◌, nat_eq, if◌then◌else◌, List, [], length, map, Option, Some, None}
use Rattle.std.specs.Prelude.{slice_get, slice_index_or}
use Rattle.pals_base.specs.declared.basic_types.PortValue.{PortValue}
use Rattle.pals_base.specs.declared.basic_types.PortValue.TheVariants.{Absent}
use Rattle.pals_base.specs.declared.frames.Frame.{Frame}
use Rattle.pals_base.specs.declared.behaviour.BehaviourParts.{BehaviourParts}
use Rattle.pals_base.specs.StepSequences.{frame_after, outputs}
use Rattle.pals_base.specs.Tuples.{column}
use Rattle.pals_base.specs.UpwardNumbers.{upwards}
use Rattle.pals_model.specs.declared.design.Component.{Component}
use Rattle.pals_model.specs.declared.design.Link.{Link}
use Rattle.pals_model.specs.declared.port_sources.PortSource.{PortSource}
use Rattle.pals_model.specs.declared.part.Part.{Part}
use Rattle.sync_product.specs.declared.round_inputs.RoundInputs.{RoundInputs}
use Rattle.sync_product.specs.declared.component_stage.Stage.{Stage}
use Rattle.sync_product.specs.proof.ProductSizes.{frame_size, frame_size_of, part_size, part_size_of, stage_size}
use Rattle.sync_product.specs.proof.ProductSizes.{stage_size_of}
use Rattle.sync_product.specs.proof.Rounds.{brought}
use Rattle.plant_fuse.specs.declared.pair_steps.PairedComponent.{PairedComponent}
use Rattle.pals_model.specs.declared.port_sources.PortSource.TheVariants as source

-- a component of a pair: the number of its partner, and where its in ports read from
pub record PairMember : Type 0 where
  pub partner : ℕ
  pub component : Component
  pub sources : List PortSource

abbrev pub member_of_pair : PairedComponent → PairMember
member_of_pair side = record {
  partner = side.partner;
  component = side.wired.component.now;
  sources = side.wired.sources.now;
}

-- ---- the inputs
abbrev pub brought_at : RoundInputs → PairMember → ℕ → PortSource → PortValue
brought_at round pair_member step source = slice_index_or (brought round pair_member.component.rate source) step Absent

-- on a link from the partner the value in the row that it left last, and before its first row the last place of the
-- link's message
abbrev pub from_partner : RoundInputs → ℕ → ℕ → Link → Option (List PortValue) → PortValue
from_partner round rate number link None =
    slice_index_or (slice_index_or round.messages.now number []) (rate - 1) Absent
from_partner round rate number link (Some row) = slice_index_or row link.out_port Absent

abbrev pub from_link : RoundInputs → PairMember → ℕ → Option (List PortValue) → ℕ → Option Link → PortValue
from_link round pair_member step last number None = brought_at round pair_member step (source.Link number)
from_link round pair_member step last number (Some link) =
    if nat_eq link.source.0 pair_member.partner then from_partner round pair_member.component.rate number link last
    else brought_at round pair_member step (source.Link number)

abbrev pub side_value : RoundInputs → PairMember → ℕ → Option (List PortValue) → PortSource → PortValue
side_value round pair_member step last source.Nothing = brought_at round pair_member step source.Nothing
side_value round pair_member step last (source.Feed feed root) =
    brought_at round pair_member step (source.Feed feed root)
side_value round pair_member step last (source.Link number) =
    from_link round pair_member step last number (slice_get round.design.now.links number)

-- the input vector of a step, where the partner left this row last
abbrev pub side_vector : RoundInputs → PairMember → ℕ → Option (List PortValue) → List PortValue
side_vector round pair_member step last = map (side_value round pair_member step last) pair_member.sources

-- ---- the rows of the partner
abbrev pub row_at : List (List PortValue) → ℕ → List PortValue
row_at rows step = slice_index_or rows step []

-- the row before a step, if there is one
abbrev pub row_before : List (List PortValue) → ℕ → Option (List PortValue)
row_before rows zero = None
row_before rows (suc step) = Some (row_at rows step)

-- a plant reads the outputs of its controller's previous step, and a controller the outputs of its plant's same step
abbrev pub plant_vector : RoundInputs → PairMember → List (List PortValue) → ℕ → List PortValue
plant_vector round pair_member rows step = side_vector round pair_member step (row_before rows step)

abbrev pub controller_vector : RoundInputs → PairMember → List (List PortValue) → ℕ → List PortValue
controller_vector round pair_member rows step = side_vector round pair_member step (Some (row_at rows step))

-- ---- the outputs
-- the rows and the frame after steps at these vectors
pub record IsMade (b : BehaviourParts) (from : Frame) (vectors : List (List PortValue)) (rows : List (List PortValue))
    (to : Frame) : Type 0 where
  pub rows_are : rows ≡ outputs b from vectors
  pub frame_is : to ≡ frame_after b from vectors

-- one side's state before and after the steps of the round
pub record Work : Type 0 where
  pub from : Frame
  pub rows : List (List PortValue)
  pub to : Frame

abbrev pub work : Frame → List (List PortValue) → Frame → Work
work from rows to = record { from = from; rows = rows; to = to }

-- the first steps of both, each side reading what the other leaves
pub record AreMade (round : RoundInputs) (plant controller : PairMember) (steps : ℕ) (p c : Work) : Type 0 where
  pub plant_is : IsMade plant.component.behaviour p.from
      (map (plant_vector round plant c.rows) (upwards 0 steps)) p.rows p.to
  pub controller_is : IsMade controller.component.behaviour c.from
      (map (controller_vector round controller p.rows) (upwards 0 steps)) c.rows c.to

-- ---- room for the steps of a component
pub record FitsSteps (side : PairedComponent) (stage : Stage) (part : Part) : Type 0 where
  pub sources_fit : length side.wired.sources.now ≡ length side.wired.component.now.behaviour.ins
  pub from_fits : frame_size side.from.now ≡ frame_size_of side.wired.component.now
  pub stage_fits : stage_size stage ≡ stage_size_of stage.sent side.wired.component.now
  pub part_fits : part_size part ≡ part_size_of side.wired.component.now side.wired.taps.now

-- ---- after the steps of both: the messages, and the values of root out ports
abbrev pub side_work : PairedComponent → Stage → Part → Work
side_work side stage part = work side.from.now stage.rows part.frame

pub record AreSidesRun (round : RoundInputs) (plant controller : PairedComponent) (plant_stage controller_stage : Stage)
    (plant_part controller_part : Part) : Type 0 where
  pub made :
      AreMade round (member_of_pair plant) (member_of_pair controller) plant.wired.component.now.rate
      (side_work plant plant_stage plant_part) (side_work controller controller_stage controller_part)
  pub plant_shows : plant_part.outs ≡ map (λ port. column port plant_stage.rows) plant.wired.taps.now
  pub controller_shows : controller_part.outs
      ≡ map (λ port. column port controller_stage.rows) controller.wired.taps.now
