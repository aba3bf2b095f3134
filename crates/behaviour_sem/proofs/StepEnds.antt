-- How a step ends, by whether the frame was halted and by the result of its reaction.
use Rattle.std.proofs.Common.{◌≡◌, ℤ, List, refl, sym, ap, ◌∙◌}
use Rattle.std.specs.Prelude.{true, false, map, Option, Some, None, Result, is_some}
use Rattle.pals_base.specs.declared.basic_types.Trap.{Trap}
use Rattle.pals_base.specs.declared.frames.Frame.{Frame}
use Rattle.pals_base.specs.declared.basic_types.PortValue.{PortValue}
use Rattle.pals_base.specs.declared.behaviour.BehaviourParts.{BehaviourParts}
use Rattle.pals_base.specs.SingleStep.{Fired, fire, holding, silence, is_present, reaction, unless_halted, outcome}
use Rattle.behaviour_sem.specs.proof.PartialSteps.{reacted}

-- a frame with these held inputs, and outputs
abbrev pub with_held : Frame → List ℤ → List PortValue → Fired
with_held frame held outs = record { frame = record frame { held = held }; outs = outs }

unless_halted-some : (b : BehaviourParts) (frame : Frame) (halt : Option Trap) (reacted : Result Fired Trap)
    → is_some halt ≡ true → unless_halted b frame halt reacted ≡ record { frame = frame; outs = silence b }
unless_halted-some b frame (Some trap) reacted halted = refl
unless_halted-some b frame None reacted halted = cc

unless_halted-none : (b : BehaviourParts) (frame : Frame) (halt : Option Trap) (reacted : Result Fired Trap)
    → is_some halt ≡ false → unless_halted b frame halt reacted ≡ outcome b frame reacted
unless_halted-none b frame (Some trap) reacted going = cc
unless_halted-none b frame None reacted going = refl

-- a halted frame holds its inputs, and no more
pub fire-halted : (b : BehaviourParts) (from to : Frame) (inputs : List PortValue) (held : List ℤ)
    (outs : List PortValue) → to ≡ from → held ≡ holding to.held inputs → outs ≡ silence b → is_some from.halt ≡ true
    → with_held to held outs ≡ fire b from inputs
unfolding fire
fire-halted b from to inputs held outs same holds silent halted =
    ap (λ os. with_held to held os) silent
    ∙ ap (λ h. with_held to h (silence b)) holds
    ∙ ap (λ (f : Frame). with_held f (holding f.held inputs) (silence b)) same
    ∙ sym (unless_halted-some b (record from { held = holding from.held inputs }) from.halt
    (reaction b (map is_present inputs) (record from { held = holding from.held inputs })) halted)

-- every other frame ends as its reaction
pub fire-reacted : (b : BehaviourParts) (from to : Frame) (inputs : List PortValue) (held : List ℤ)
    (outs : List PortValue) (meant : Result Fired Trap) → to ≡ from → held ≡ holding to.held inputs → outs ≡ silence b
    → is_some from.halt ≡ false → reacted b to.state (map is_present inputs) (with_held to held outs) ≡ meant
    → outcome b (record from { held = holding from.held inputs }) meant ≡ fire b from inputs
unfolding fire
fire-reacted b from to inputs held outs meant same holds silent going reacts =
    let fresh = map is_present inputs in
    let after = record from { held = holding from.held inputs } in
    sym
    (unless_halted-none b after from.halt (reaction b fresh after) going
    ∙ ap (outcome b after)
    (sym
    (ap (λ os. reacted b to.state fresh (with_held to held os)) silent
    ∙ ap (λ h. reacted b to.state fresh (with_held to h (silence b))) holds
    ∙ ap (λ (f : Frame). reacted b f.state fresh (with_held f (holding f.held inputs) (silence b))) same)
    ∙ reacts))
