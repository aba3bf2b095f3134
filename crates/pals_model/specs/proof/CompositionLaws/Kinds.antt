-- Laws of the kinds of values: a Boolean stays 0 or 1.
use Rattle.std.specs.Prelude.{◌≡◌, ℕ, List, [], Some, slice_get, slice_index_or}
use Rattle.pals_base.specs.declared.frames.Frame.{Frame}
use Rattle.pals_base.specs.declared.basic_types.PortValue.{PortValue}
use Rattle.pals_base.specs.declared.behaviour.BehaviourParts.{BehaviourParts}
use Rattle.pals_base.specs.SingleStep.{HasShape, fire}
use Rattle.pals_base.specs.BehaviourRules.{IsBehaviour}
use Rattle.pals_model.specs.declared.design.Component.{Component}
use Rattle.pals_model.specs.declared.design.Link.{Link}
use Rattle.pals_model.specs.declared.design.Tap.{Tap}
use Rattle.pals_model.specs.declared.design.DesignParts.{DesignParts}
use Rattle.pals_model.specs.declared.environment.Env.{Env}
use Rattle.pals_model.specs.declared.part.Part.{Part}
use Rattle.pals_model.specs.Composition.{state, msg, part, taps_of}
use Rattle.pals_model.specs.PortKindsAndRates.{out_kind}
use Rattle.pals_model.specs.DesignRules.{IsDesign}
use Rattle.pals_model.specs.proof.ValuesFitKinds.{FrameFits, PortsFit, TupleFits, link_kind, EnvFits}

-- ---- one step
pub record StepFits (b : BehaviourParts) (frame : Frame) (inputs : List PortValue) : Type 0 where
  pub frame_fits : FrameFits b (fire b frame inputs).frame
  pub outs_fit : PortsFit b.outs (fire b frame inputs).outs

abbrev pub FiringFits : Type 0
FiringFits =
    (b : BehaviourParts) (frame : Frame) (inputs : List PortValue) → IsBehaviour b → HasShape b frame
    → FrameFits b frame → PortsFit b.ins inputs
    → StepFits b frame inputs

-- ---- the composition
-- the frame of a component after any number of rounds
abbrev pub StatesFit : Type 0
StatesFit = (design : DesignParts) (env : Env) (node rounds : ℕ) (c : Component) → IsDesign design → EnvFits design env
    → slice_get design.components node ≡ Some c → FrameFits c.behaviour (state design env node rounds)

-- the message of a link of any round
abbrev pub MessagesFit : Type 0
MessagesFit = (design : DesignParts) (env : Env) (number round : ℕ) (link : Link) → IsDesign design → EnvFits design env
    → slice_get design.links number ≡ Some link → TupleFits (link_kind design link) (msg design env number round)

-- what a component leaves of a round: its frame, and the tuple of each of its taps
pub record PartFits (design : DesignParts) (node : ℕ) (c : Component) (part : Part) : Type 0 where
  pub frame : FrameFits c.behaviour part.frame
  pub outs : (k : ℕ) (tap : Tap) → slice_get (taps_of design node) k ≡ Some tap
      → TupleFits (out_kind (Some c) tap.out_port) (slice_index_or part.outs k [])

abbrev pub PartsFit : Type 0
PartsFit = (design : DesignParts) (env : Env) (node round : ℕ) (c : Component) → IsDesign design → EnvFits design env
    → slice_get design.components node ≡ Some c → PartFits design node c (part design env node round)
