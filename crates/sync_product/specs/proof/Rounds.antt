-- What a round reads, makes and sends.
use Rattle.std.specs.Prelude.{◌≡◌, ℕ, Bool, if◌then◌else◌, List, [], map, Option, Some, None, slice_get, slice_index_or}
use Rattle.pals_base.specs.declared.basic_types.PortValue.{PortValue}
use Rattle.pals_base.specs.declared.basic_types.PortValue.TheVariants.{Absent}
use Rattle.pals_base.specs.declared.frames.Frame.{Frame}
use Rattle.pals_base.specs.StepSequences.{frame_after, outputs}
use Rattle.pals_base.specs.Tuples.{column, columns, cut}
use Rattle.pals_model.specs.declared.design.Component.{Component}
use Rattle.pals_model.specs.declared.design.Link.{Link}
use Rattle.pals_model.specs.declared.part.Part.{Part}
use Rattle.pals_model.specs.declared.port_sources.PortSource.{PortSource}
use Rattle.pals_model.specs.ComponentInputs.{brought_tuple, sources_of}
use Rattle.pals_model.specs.Composition.{no_frame}
use Rattle.sync_product.specs.declared.round_inputs.RoundInputs.{RoundInputs}
use Rattle.sync_product.specs.declared.component_stage.Stage.{Stage}
use Rattle.sync_product.specs.proof.ComponentWiring.{tap_ports}

-- a place of a row if it counts, else an absent one
abbrev pub value_if_before : Bool → ℕ → List PortValue → PortValue
value_if_before counts port row = if counts then slice_index_or row port Absent else Absent

-- the tuple that a source brings to a component of this rate
abbrev pub brought : RoundInputs → ℕ → PortSource → List PortValue
brought round rate source = brought_tuple round.design.now round.values.now round.messages.now rate source

-- the input vectors of a component whose in ports have these sources
abbrev pub vectors : RoundInputs → Component → List PortSource → List (List PortValue)
vectors round c sources = columns c.rate (map (brought round c.rate) sources)

abbrev pub frames_of : List Part → List Frame
frames_of parts = map (λ (p : Part). p.frame) parts

-- what a component's steps of a round leave: its frame, its outputs in each step, and its part
abbrev pub own_step_inputs : RoundInputs → ℕ → Component → List (List PortValue)
own_step_inputs round node c = vectors round c (sources_of round.design.now node c)

abbrev pub own_rows : RoundInputs → List Frame → ℕ → Component → List (List PortValue)
own_rows round frames node c = outputs c.behaviour (slice_index_or frames node no_frame) (own_step_inputs round node c)

abbrev pub own_part : RoundInputs → List Frame → ℕ → Component → Part
own_part round frames node c = record {
  frame = frame_after c.behaviour (slice_index_or frames node no_frame) (own_step_inputs round node c);
  outs = map (λ port. column port (own_rows round frames node c)) (tap_ports round.design.now.taps node);
}

-- the part and the rows of a component
pub record IsStepped (round : RoundInputs) (frames : List Frame) (parts : List Part) (stages : List Stage) (node : ℕ)
    (c : Component) : Type 0 where
  pub part : slice_get parts node ≡ Some (own_part round frames node c)
  pub rows : slice_get (map (λ (s : Stage). s.rows) stages) node ≡ Some (own_rows round frames node c)

-- the parts and the rows of all components
abbrev pub AreStepped : RoundInputs → List Frame → List Part → List Stage → Type 0
AreStepped round frames parts stages =
    (node : ℕ) (c : Component) → slice_get round.design.now.components node ≡ Some c
    → IsStepped round frames parts stages node c

-- what a stage sends on an out port
abbrev pub sent_from : Option Stage → ℕ → List PortValue
sent_from None port = []
sent_from (Some stage) port = cut stage.sent (column port stage.rows)

abbrev pub sent_by : List Stage → Link → List PortValue
sent_by stages link = sent_from (slice_get stages link.source.0) link.out_port
