-- Laws of a round that is under way, step by step.
use Rattle.std.specs.Prelude.{◌≡◌, ℕ, suc, List, length, map, take, replicate, Some, None, slice_get}
use Rattle.pals_base.specs.declared.basic_types.Trap.{Trap}
use Rattle.pals_base.specs.declared.frames.Frame.{Frame}
use Rattle.pals_base.specs.declared.basic_types.PortValue.{PortValue}
use Rattle.pals_base.specs.declared.basic_types.PortValue.TheVariants.{Absent}
use Rattle.pals_base.specs.declared.behaviour.BehaviourParts.{BehaviourParts}
use Rattle.pals_base.specs.SingleStep.{fire, silence}
use Rattle.pals_base.specs.StepSequences.{Stepped}
use Rattle.pals_base.specs.Tuples.{with_places}
use Rattle.pals_model.specs.declared.design.Component.{Component}
use Rattle.pals_model.specs.declared.design.DesignParts.{DesignParts}
use Rattle.pals_model.specs.declared.environment.Env.{Env}
use Rattle.pals_model.specs.ComponentInputs.{input_vectors}
use Rattle.pals_model.specs.Composition.{comp, state, partial_steps}
use Rattle.pals_model.specs.proof.CompositionLaws.{own_steps}
use Rattle.pals_model.specs.DesignRules.{IsDesign}

-- one more step, at these inputs, which fills its own place of each tuple
abbrev pub stepped_on : BehaviourParts → ℕ → List PortValue → Stepped → Stepped
stepped_on b at inputs before =
    record {
      frame = (fire b before.frame inputs).frame;
      tuples = with_places at (fire b before.frame inputs).outs before.tuples;
    }

-- a round begins with the state, and with every place absent
abbrev pub RoundBegins : Type 0
RoundBegins = (design : DesignParts) (env : Env) (node round : ℕ) (c : Component) →
    partial_steps design env node round c 0
    ≡ record {
      frame = state design env node round;
      tuples = replicate (length c.behaviour.outs) (replicate c.rate Absent);
    }

-- each step advances at its own inputs
abbrev pub RoundGoesOn : Type 0
RoundGoesOn =
    (design : DesignParts) (env : Env) (node round : ℕ) (c : Component) (count : ℕ) (inputs : List PortValue) →
    IsDesign design → slice_get design.components node ≡ Some c →
    slice_get (input_vectors design env (comp design env round).messages node round) count ≡ Some inputs →
    partial_steps design env node round c (suc count)
    ≡ stepped_on c.behaviour count inputs (partial_steps design env node round c count)

-- after its last step it has completed its own steps
abbrev pub RoundEnds : Type 0
RoundEnds = (design : DesignParts) (env : Env) (node round : ℕ) (c : Component) →
    slice_get design.components node ≡ Some c
    → partial_steps design env node round c c.rate ≡ own_steps design env node round c

-- the places before a step stay, also if it traps
abbrev pub PlacesStay : Type 0
PlacesStay = (b : BehaviourParts) (at : ℕ) (inputs : List PortValue) (before : Stepped) →
    map (take at) (stepped_on b at inputs before).tuples ≡ map (take at) before.tuples

-- a step that traps gives no value
abbrev pub TrapIsSilent : Type 0
TrapIsSilent = (b : BehaviourParts) (frame : Frame) (inputs : List PortValue) (trap : Trap) →
    frame.halt ≡ None → (fire b frame inputs).frame.halt ≡ Some trap → (fire b frame inputs).outs ≡ silence b
