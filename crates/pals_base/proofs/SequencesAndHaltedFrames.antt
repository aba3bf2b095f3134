-- The laws of sequences of steps and of halted frames.
use Rattle.std.proofs.Common.{◌≡◌, ◌∙◌, ℕ, zero, suc, ◌-◌, List, [], ◌∷◌, ◌++◌, length, map, take, replicate, Some}
use Rattle.std.proofs.Common.{refl, ap}
use Rattle.std.specs.Prelude.{ℤ}
use Rattle.std.specs.List.{fold}
use Rattle.pals_base.specs.declared.basic_types.Trap.{Trap}
use Rattle.pals_base.specs.declared.frames.Frame.{Frame}
use Rattle.pals_base.specs.declared.basic_types.PortValue.{PortValue}
use Rattle.pals_base.specs.declared.behaviour.BehaviourParts.{BehaviourParts}
use Rattle.pals_base.specs.SingleStep.{Fired, fire, holding, silence, unless_halted, reaction, is_present}
use Rattle.pals_base.specs.StepSequences.{frame_after, outputs}

pub outputs-take : (b : BehaviourParts) (frame : Frame) (vectors : List (List PortValue)) (n : ℕ)
    → take n (outputs b frame vectors) ≡ outputs b frame (take n vectors)
outputs-take b frame vectors zero = refl
outputs-take b frame [] (suc n) = refl
outputs-take b frame (inputs ∷ vectors) (suc n) =
    ap (λ os. (fire b frame inputs).outs ∷ os) (outputs-take b (fire b frame inputs).frame vectors n)

pub frame_after-append : (b : BehaviourParts) (frame : Frame) (xs ys : List (List PortValue))
    → frame_after b frame (xs ++ ys) ≡ frame_after b (frame_after b frame xs) ys
frame_after-append b frame [] ys = refl
frame_after-append b frame (x ∷ xs) ys = frame_after-append b (fire b frame x).frame xs ys

pub outputs-append : (b : BehaviourParts) (frame : Frame) (xs ys : List (List PortValue))
    → outputs b frame (xs ++ ys) ≡ outputs b frame xs ++ outputs b (frame_after b frame xs) ys
outputs-append b frame [] ys = refl
outputs-append b frame (x ∷ xs) ys =
    ap (λ os. (fire b frame x).outs ∷ os) (outputs-append b (fire b frame x).frame xs ys)

-- ---- a halted frame
pub holding-none : (held : List ℤ) → holding held [] ≡ held
holding-none [] = refl
holding-none (v ∷ held) = refl

pub fire-halted : (b : BehaviourParts) (frame : Frame) (trap : Trap) (inputs : List PortValue) → frame.halt ≡ Some trap
    → fire b frame inputs ≡ record { frame = record frame { held = holding frame.held inputs }; outs = silence b }
unfolding fire
fire-halted b frame trap inputs halted =
    let held : Frame = record frame { held = holding frame.held inputs } in
    ap (λ h. unless_halted b held h (reaction b (map is_present inputs) held)) halted

pub frame_after-halted : (b : BehaviourParts) (frame : Frame) (trap : Trap) (vectors : List (List PortValue))
    → frame.halt ≡ Some trap → frame_after b frame vectors ≡ record frame { held = fold holding frame.held vectors }
frame_after-halted b frame trap [] halted = refl
frame_after-halted b frame trap (inputs ∷ vectors) halted =
    ap (λ (f : Fired). frame_after b f.frame vectors) (fire-halted b frame trap inputs halted)
    ∙ frame_after-halted b (record frame { held = holding frame.held inputs }) trap vectors halted

pub outputs-halted : (b : BehaviourParts) (frame : Frame) (trap : Trap) (vectors : List (List PortValue))
    → frame.halt ≡ Some trap → outputs b frame vectors ≡ replicate (length vectors) (silence b)
outputs-halted b frame trap [] halted = refl
outputs-halted b frame trap (inputs ∷ vectors) halted =
    ap (λ (f : Fired). f.outs ∷ outputs b f.frame vectors) (fire-halted b frame trap inputs halted)
    ∙ ap (λ os. silence b ∷ os)
    (outputs-halted b (record frame { held = holding frame.held inputs }) trap vectors halted)
