-- Laws of the composition, at every design and environment.
pub mod Kinds
pub mod TextLines
pub mod Names
pub mod RootInputsAndFeeds
pub mod Shapes
pub mod Sources
pub mod PartialRounds
use Rattle.std.specs.Prelude.{◌≡◌, ◌≢◌, ℕ, suc, ◌<◌, [], length, flat_map, All, Some, map, slice_get, slice_index_or}
use Rattle.pals_base.specs.declared.basic_types.PortValue.TheVariants.{Absent}
use Rattle.pals_base.specs.SingleStep.{initial}
use Rattle.pals_base.specs.StepSequences.{steps, Stepped, frame_after}
use Rattle.pals_base.specs.Tuples.{cut}
use Rattle.pals_base.specs.UpwardNumbers.{upwards}
use Rattle.pals_base.specs.PeriodBoundAndReleases.{sent_steps}
use Rattle.pals_model.specs.declared.design.Component.{Component}
use Rattle.pals_model.specs.declared.design.Link.{Link}
use Rattle.pals_model.specs.declared.design.DesignParts.{DesignParts}
use Rattle.pals_model.specs.declared.environment.Env.{Env}
use Rattle.pals_model.specs.ComponentInputs.{values_at, input_vectors}
use Rattle.pals_model.specs.Composition.{comp, state, msg, part, taps_of}

-- the steps that one component runs in a round, from its own frame and its own feed
abbrev pub own_steps : DesignParts → Env → ℕ → ℕ → Component → Stepped
own_steps design env node round c =
    steps c.behaviour (state design env node round)
    (input_vectors design env (comp design env round).messages node round)

-- there is a frame for each component, and a message for each link
abbrev pub OneFrameEach : Type 0
OneFrameEach =
    (design : DesignParts) (env : Env) (round : ℕ) → length (comp design env round).frames ≡ length design.components

abbrev pub OneMessageEach : Type 0
OneMessageEach =
    (design : DesignParts) (env : Env) (round : ℕ) → length (comp design env round).messages ≡ length design.links

-- a component begins with its initial frame, and no link has a value
abbrev pub StateBegins : Type 0
StateBegins =
    (design : DesignParts) (env : Env) (node : ℕ) (c : Component) → slice_get design.components node ≡ Some c
    → state design env node 0 ≡ initial c.behaviour

abbrev pub LinksBeginAbsent : Type 0
LinksBeginAbsent =
    (design : DesignParts) (env : Env)
    → All (λ message. All (λ port. port ≡ Absent) message) (comp design env 0).messages

-- a component's frame advances by its own steps
abbrev pub StateGoesOn : Type 0
StateGoesOn = (design : DesignParts) (env : Env) (node round : ℕ) (c : Component) →
    slice_get design.components node ≡ Some c
    → state design env node (suc round) ≡ (own_steps design env node round c).frame

-- a message is the outputs of its source's own steps, as far as they end in time to be sent
abbrev pub MessageFromSource : Type 0
MessageFromSource = (design : DesignParts) (env : Env) (number round : ℕ) (link : Link) (c : Component) →
    slice_get design.links number ≡ Some link → slice_get design.components link.source.0 ≡ Some c →
    msg design env number round
    ≡ cut (sent_steps design.gamma design.period c.rate)
    (slice_index_or (own_steps design env link.source.0 round c).tuples link.out_port [])

-- a part is what the component's own steps leave: their frame, and their tuple for each of its taps
abbrev pub PartFromSteps : Type 0
PartFromSteps =
    (design : DesignParts) (env : Env) (node round : ℕ) (c : Component) → slice_get design.components node ≡ Some c →
    part design env node round ≡ record {
      frame = (own_steps design env node round c).frame;
      outs =
          map (λ tap. slice_index_or (own_steps design env node round c).tuples tap.out_port []) (taps_of design node);
    }

-- a component without a link into it runs by itself: its frame is one fold of its steps over the root in ports' values
abbrev pub RunsAlone : Type 0
RunsAlone = (design : DesignParts) (env : Env) (node rounds : ℕ) (c : Component) →
    slice_get design.components node ≡ Some c → All (λ link. link.target.0 ≢ node) design.links →
    state design env node rounds
    ≡ frame_after c.behaviour (initial c.behaviour)
    (flat_map (λ round. input_vectors design env [] node round) (upwards 0 rounds))

-- the configuration after some rounds depends only on these rounds of the environment
abbrev pub DependsOnPast : Type 0
DependsOnPast = (design : DesignParts) (env other : Env) (rounds : ℕ) →
    ((round : ℕ) → round < rounds → values_at env round ≡ values_at other round)
    → comp design env rounds ≡ comp design other rounds
