-- The sizes of a product's frames, tuples and stages, which stay the same from round to round.
use Rattle.std.specs.Prelude.{ℕ, List, length, map, replicate}
use Rattle.std.specs.List.{enumerate_from}
use Rattle.behaviour_sem.specs.proof.GroupedTransitions.{sources_of}
use Rattle.pals_base.specs.declared.basic_types.PortValue.{PortValue}
use Rattle.pals_base.specs.declared.frames.Frame.{Frame}
use Rattle.pals_base.specs.PeriodBoundAndReleases.{sent_steps}
use Rattle.pals_model.specs.declared.design.Component.{Component}
use Rattle.pals_model.specs.declared.design.Link.{Link}
use Rattle.pals_model.specs.declared.design.DesignParts.{DesignParts}
use Rattle.pals_model.specs.declared.part.Part.{Part}
use Rattle.pals_model.specs.PortKindsAndRates.{rate_of}
use Rattle.sync_product.specs.declared.component_stage.Stage.{Stage}
use Rattle.sync_product.specs.proof.ComponentWiring.{tap_ports}

-- ---- frames: their variables and held inputs
pub record FrameSize : Type 0 where
  pub vars : ℕ
  pub held : ℕ

abbrev pub frame_size : Frame → FrameSize
frame_size frame = record { vars = length frame.vars; held = length frame.held }

abbrev pub frame_size_of : Component → FrameSize
frame_size_of c = record { vars = length c.behaviour.vars; held = length c.behaviour.ins }

-- ---- parts: their frame, and the places of each tuple
pub record PartSize : Type 0 where
  pub frame : FrameSize
  pub outs : List ℕ

abbrev pub part_size : Part → PartSize
part_size part =
    record { frame = frame_size part.frame; outs = map (λ (tuple : List PortValue). length tuple) part.outs }

abbrev pub part_size_of : Component → List ℕ → PartSize
part_size_of c taps = record { frame = frame_size_of c; outs = map (λ (port : ℕ). c.rate) taps }

abbrev pub part_sizes : DesignParts → List PartSize
part_sizes design =
    map (λ numbered. part_size_of numbered.1 (tap_ports design.taps numbered.0)) (enumerate_from 0 design.components)

-- ---- stages: the states that transitions leave, the inputs and outputs, the frame before a step, the places of each
-- row, and the number of steps that are sent
pub record StageSize : Type 0 where
  pub sources : List ℕ
  pub inputs : ℕ
  pub outs : ℕ
  pub before : FrameSize
  pub rows : List ℕ
  pub sent : ℕ

abbrev pub stage_size : Stage → StageSize
stage_size stage = record {
  sources = stage.groups;
  inputs = length stage.inputs;
  outs = length stage.outs.items;
  before = frame_size stage.before;
  rows = map (λ (row : List PortValue). length row) stage.rows;
  sent = stage.sent;
}

abbrev pub stage_size_of : ℕ → Component → StageSize
stage_size_of sent c = record {
  sources = sources_of c.behaviour.transitions;
  inputs = length c.behaviour.ins;
  outs = length c.behaviour.outs;
  before = frame_size_of c;
  rows = replicate c.rate (length c.behaviour.outs);
  sent = sent;
}

abbrev pub stage_sizes : DesignParts → List StageSize
stage_sizes design =
    map (λ (c : Component). stage_size_of (sent_steps design.gamma design.period c.rate) c) design.components

-- ---- messages: a place for each step of the source
abbrev pub message_sizes : DesignParts → List ℕ
message_sizes design = map (λ (link : Link). rate_of design link.source.0) design.links
