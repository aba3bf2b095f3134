-- The steps of a solution can be made one after the other, each from the frame before it: the claim StepsAreMade.
use Rattle.std.proofs.Common.{◌≡◌, ◌∙◌, ℕ, zero, suc, ◌*◌, List, [], ◌∷◌, take, Some, slice_get, slice_index_or, ap}
use Rattle.std.proofs.lemmas.Option.{same_Some}
use Rattle.pals_base.specs.declared.basic_types.PortValue.{PortValue}
use Rattle.pals_base.specs.declared.basic_types.PortValue.TheVariants.{Absent}
use Rattle.pals_base.specs.declared.frames.Frame.{Frame}
use Rattle.pals_base.specs.declared.behaviour.BehaviourParts.{BehaviourParts}
use Rattle.pals_base.specs.SingleStep.{fire, initial}
use Rattle.pals_base.specs.StepSequences.{frame_after, outputs}
use Rattle.pals_base.proofs.UpwardNumbers.{slice_get-map_upwards}
use Rattle.plant_fuse.specs.FusedComposition.{Inputs, inputs_to, outputs_in, vector_of}
use Rattle.plant_fuse.specs.proof.FusedLaws.{StepsAreMade}
use Rattle.plant_fuse.proofs.StepDependencies.{read_at}

frame_next : (b : BehaviourParts) (frame : Frame) (xs : List (List PortValue)) (step : ℕ) (v : List PortValue)
    → slice_get xs step ≡ Some v
    → frame_after b frame (take (suc step) xs) ≡ (fire b (frame_after b frame (take step xs)) v).frame
frame_next b frame [] step v is = absurd (cc)
frame_next b frame (x ∷ xs) zero v is = ap (λ w. (fire b frame w).frame) (same_Some x v is)
frame_next b frame (x ∷ xs) (suc step) v is = frame_next b (fire b frame x).frame xs step v is

left_next : (b : BehaviourParts) (frame : Frame) (xs : List (List PortValue)) (step : ℕ) (v : List PortValue)
    → slice_get xs step ≡ Some v
    → slice_index_or (outputs b frame xs) step [] ≡ (fire b (frame_after b frame (take step xs)) v).outs
left_next b frame [] step v is = absurd (cc)
left_next b frame (x ∷ xs) zero v is = ap (λ w. (fire b frame w).outs) (same_Some x v is)
left_next b frame (x ∷ xs) (suc step) v is = left_next b (fire b frame x).frame xs step v is

pub steps_are_made : StepsAreMade
steps_are_made design pairs env rounds ins node c step sound are is is_c within =
    let xs = inputs_to ins node in
    let read : slice_get xs step ≡ Some (vector_of design pairs env ins node c step) =
    ap (λ (v : Inputs). slice_get (inputs_to v node) step) is
    ∙ ap (λ (ys : List (List PortValue)). slice_get ys step) (read_at design pairs sound are env rounds ins node c is_c)
    ∙ slice_get-map_upwards (vector_of design pairs env ins node c) (rounds * c.rate) step within in (
      frame_next c.behaviour (initial c.behaviour) xs step (vector_of design pairs env ins node c step) read,
      λ port.
          ap (λ o. slice_index_or (slice_index_or (outputs_in o xs) step []) port Absent) is_c
          ∙ ap (λ (out : List PortValue). slice_index_or out port Absent)
          (left_next c.behaviour (initial c.behaviour) xs step (vector_of design pairs env ins node c step) read),
    )
