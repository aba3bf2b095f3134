-- Laws of the shapes of the composition's values.
use Rattle.std.specs.Prelude.{◌≡◌, ℕ, suc, List, [], length, All, Some, slice_get, slice_index_or}
use Rattle.pals_base.specs.declared.basic_types.PortValue.{PortValue}
use Rattle.pals_base.specs.SingleStep.{HasShape}
use Rattle.pals_model.specs.declared.design.Component.{Component}
use Rattle.pals_model.specs.declared.design.Link.{Link}
use Rattle.pals_model.specs.declared.design.DesignParts.{DesignParts}
use Rattle.pals_model.specs.declared.environment.Env.{Env}
use Rattle.pals_model.specs.declared.part.Part.{Part}
use Rattle.pals_model.specs.ComponentInputs.{input_vectors}
use Rattle.pals_model.specs.PortKindsAndRates.{rate_of}
use Rattle.pals_model.specs.Composition.{comp, state, msg, part, taps_of}
use Rattle.pals_model.specs.DesignRules.{IsDesign}
use Rattle.pals_model.specs.proof.CompositionLaws.{own_steps}

-- an input vector for each step, each with a place for each in port
pub record AreVectors (c : Component) (vectors : List (List PortValue)) : Type 0 where
  pub count : length vectors ≡ c.rate
  pub each : All (λ vector. length vector ≡ length c.behaviour.ins) vectors

-- `count` tuples, each with a place for each of `rate` steps
pub record AreTuples (count rate : ℕ) (tuples : List (List PortValue)) : Type 0 where
  pub count_is : length tuples ≡ count
  pub each : All (λ tuple. length tuple ≡ rate) tuples

-- a component's feed has a vector for each step
abbrev pub InputsAreVectors : Type 0
InputsAreVectors =
    (design : DesignParts) (env : Env) (messages : List (List PortValue)) (node round : ℕ) (c : Component) →
    slice_get design.components node ≡ Some c → AreVectors c (input_vectors design env messages node round)

-- a component's frame has its behaviour's shape
abbrev pub StateHasShape : Type 0
StateHasShape = (design : DesignParts) (env : Env) (node round : ℕ) (c : Component) →
    IsDesign design → slice_get design.components node ≡ Some c → HasShape c.behaviour (state design env node round)

-- a component's own steps give a tuple for each of its out ports
abbrev pub StepsGiveTuples : Type 0
StepsGiveTuples = (design : DesignParts) (env : Env) (node round : ℕ) (c : Component) →
    slice_get design.components node ≡ Some c
    → AreTuples (length c.behaviour.outs) c.rate (own_steps design env node round c).tuples

-- a message has a place for each step of its source, before the first round too
abbrev pub MessageHasRate : Type 0
MessageHasRate = (design : DesignParts) (env : Env) (number round : ℕ) (link : Link) →
    IsDesign design → slice_get design.links number ≡ Some link
    → length (msg design env number round) ≡ rate_of design link.source.0

abbrev pub WaitingMessageHasRate : Type 0
WaitingMessageHasRate = (design : DesignParts) (env : Env) (number rounds : ℕ) (link : Link) →
    IsDesign design → slice_get design.links number ≡ Some link →
    length (slice_index_or (comp design env rounds).messages number []) ≡ rate_of design link.source.0

-- a part has the frame after the round, and a tuple for each tap of its component
pub record IsPart (design : DesignParts) (env : Env) (node round rate : ℕ) (part : Part) : Type 0 where
  pub frame : part.frame ≡ state design env node (suc round)
  pub outs : AreTuples (length (taps_of design node)) rate part.outs

abbrev pub PartHasShape : Type 0
PartHasShape = (design : DesignParts) (env : Env) (node round : ℕ) (c : Component) →
    IsDesign design → slice_get design.components node ≡ Some c
    → IsPart design env node round c.rate (part design env node round)
