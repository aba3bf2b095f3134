-- The multirate synchronous composition: all components run their steps of a round simultaneously, and the messages of
-- a round are read in the next one. It has no clock, no buffer, no thread and no code.
use Rattle.std.specs.Prelude.{ℕ, suc, zero, nat_eq, List, [], ◌∷◌, map, filter, replicate, Option, Some, None}
use Rattle.std.specs.Prelude.{slice_get, slice_index_or, length, take}
use Rattle.pals_base.specs.declared.basic_types.PortValue.{PortValue}
use Rattle.pals_base.specs.declared.basic_types.PortValue.TheVariants.{Absent}
use Rattle.pals_base.specs.declared.frames.Frame.{Frame}
use Rattle.pals_base.specs.SingleStep.{initial}
use Rattle.pals_base.specs.StepSequences.{steps, Stepped, frame_after, outputs}
use Rattle.pals_base.specs.Tuples.{cut, so_far}
use Rattle.pals_base.specs.PeriodBoundAndReleases.{sent_steps}
use Rattle.pals_model.specs.declared.design.Component.{Component}
use Rattle.pals_model.specs.declared.design.Link.{Link}
use Rattle.pals_model.specs.declared.design.Tap.{Tap}
use Rattle.pals_model.specs.declared.design.DesignParts.{DesignParts}
use Rattle.pals_model.specs.declared.environment.Env.{Env}
use Rattle.pals_model.specs.declared.part.Part.{Part}
use Rattle.pals_model.specs.ComponentInputs.{inputs_of, values_at, input_vectors}
use Rattle.pals_model.specs.PortKindsAndRates.{rate_of}
use Rattle.pals_base.specs.declared.behaviour.BehaviourParts.{BehaviourParts}

-- the frames after some rounds, and the messages of the last of these rounds
pub record Configuration : Type 0 where
  pub frames : List Frame
  pub messages : List (List PortValue)

-- before the first round: initial frames, and an absent tuple on each link
abbrev pub opening : DesignParts → Configuration
opening design = record {
  frames = map (λ (c : Component). initial c.behaviour) design.components;
  messages = map (λ (link : Link). replicate (rate_of design link.source.0) Absent) design.links;
}

-- the steps of a round of the components from number node on
abbrev pub steps_from : DesignParts → List PortValue → List (List PortValue) → ℕ → List Component → List Frame
    → List Stepped
steps_from design values messages node [] frames = []
steps_from design values messages node (c ∷ cs) [] = []
steps_from design values messages node (c ∷ cs) (frame ∷ frames) =
    steps c.behaviour frame (inputs_of design values messages node c)
    ∷ steps_from design values messages (suc node) cs frames

-- the steps of a round of all components
abbrev pub all_steps : DesignParts → List PortValue → Configuration → List Stepped
all_steps design values before = steps_from design values before.messages 0 design.components before.frames

abbrev pub tuple_in : Option Stepped → ℕ → List PortValue
tuple_in None port = []
tuple_in (Some s) port = slice_index_or s.tuples port []

-- the tuple of an out port
abbrev pub tuple_of : List Stepped → ℕ → ℕ → List PortValue
tuple_of all node port = tuple_in (slice_get all node) port

-- a link's message: the places of its source's tuple that end in time to be sent
abbrev pub message_of : DesignParts → List Stepped → Link → List PortValue
message_of design all link =
    cut (sent_steps design.gamma design.period (rate_of design link.source.0))
    (tuple_of all link.source.0 link.out_port)

abbrev pub after_steps : DesignParts → List Stepped → Configuration
after_steps design all =
    record { frames = map (λ (s : Stepped). s.frame) all; messages = map (message_of design all) design.links }

-- one round, with these values of the root in ports
abbrev pub next : DesignParts → List PortValue → Configuration → Configuration
next design values before = after_steps design (all_steps design values before)

-- the configuration after a number of rounds
unfoldable pub comp : DesignParts → Env → ℕ → Configuration
comp design env zero = opening design
comp design env (suc round) = next design (values_at env round) (comp design env round)

-- the steps of a round
abbrev pub steps_of_round : DesignParts → Env → ℕ → List Stepped
steps_of_round design env round = all_steps design (values_at env round) (comp design env round)

-- ---- its observers
abbrev pub no_frame : Frame
no_frame = record { state = 0; vars = []; held = []; halt = None }

-- a component's frame after `rounds` rounds
unfoldable pub state : DesignParts → Env → ℕ → ℕ → Frame
state design env node rounds = slice_index_or (comp design env rounds).frames node no_frame

-- a link's message of a round
unfoldable pub msg : DesignParts → Env → ℕ → ℕ → List PortValue
msg design env link round = slice_index_or (comp design env (suc round)).messages link []

-- the taps of a component
abbrev pub taps_of : DesignParts → ℕ → List Tap
taps_of design node = filter (λ tap. nat_eq tap.source.0 node) design.taps

-- what a component leaves after its steps: the frame, and the whole tuple of each of its taps
abbrev pub part_of : DesignParts → List Stepped → ℕ → Part
part_of design all node = record {
  frame = slice_index_or (map (λ (s : Stepped). s.frame) all) node no_frame;
  outs = map (λ (tap : Tap). tuple_of all node tap.out_port) (taps_of design node);
}

unfoldable pub part : DesignParts → Env → ℕ → ℕ → Part
part design env node round = part_of design (steps_of_round design env round) node

-- in the midst of a round of `rate` steps, after those at these inputs: the frame, and the places that they filled
abbrev pub under_way : BehaviourParts → Frame → ℕ → List (List PortValue) → Stepped
under_way b frame rate vectors =
    record { frame = frame_after b frame vectors; tuples = so_far (length b.outs) rate (outputs b frame vectors) }

-- a component's own round, after its first steps
abbrev pub partial_steps : DesignParts → Env → ℕ → ℕ → Component → ℕ → Stepped
partial_steps design env node round c count =
    under_way c.behaviour (state design env node round) c.rate
    (take count (input_vectors design env (comp design env round).messages node round))
