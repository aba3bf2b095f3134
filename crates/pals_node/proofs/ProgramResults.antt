-- For `job` and the ends of steps: a program that means its behaviour gives the frame and outputs of the behaviour,
-- with their shape.
use Rattle.std.proofs.Common.{◌≡◌, ◌∙◌, Bool, true, List, length, Option, Some, None, slice_get, refl, sym}
use Rattle.std.specs.Prelude.{IsTrue}
use Rattle.std.proofs.lemmas.Bool.{false≢true}
use Rattle.pals_base.specs.declared.basic_types.PortValue.{PortValue}
use Rattle.pals_base.specs.declared.frames.Frame.{Frame}
use Rattle.pals_base.specs.declared.behaviour.StateDecl.{StateDecl}
use Rattle.pals_base.specs.SingleStep.{Fired, HasShape, fire, may_begin}
use Rattle.pals_base.proofs.StepTermination.{fires_well}
use Rattle.step_code.specs.proof.CodeRuns.{Leaves, FitsCode, exec}
use Rattle.pals_node.specs.proof.NodeAndJobValues.{Program}
use Rattle.pals_node.specs.proof.NodeInvariants.{IsProgram}

-- ---- frames
is_true : (b : Bool) → IsTrue b → b ≡ true
is_true b holds = holds

begins_complete : (o : Option StateDecl) → IsTrue (may_begin o) → (d : StateDecl) × (o ≡ Some d) × (d.complete ≡ true)
begins_complete None begins = absurd (false≢true begins)
begins_complete (Some d) begins = (d, refl, is_true d.complete begins)

-- a frame of the behaviour's shape fits the code
pub fits : (p : Program) (frame : Frame) → IsProgram p → HasShape p.plan.behaviour frame → FitsCode p.code frame
fits p frame rules shape =
    let begins = begins_complete (slice_get p.plan.behaviour.states frame.state) shape.state in
    record {
      entry = rules.means.entries frame.state begins.0 begins.1 ∙ begins.2;
      vars = shape.vars ∙ sym rules.means.vars;
      held = shape.held ∙ sym rules.means.ins;
    }

-- ---- steps
same_left : (a b : Fired) → Leaves a ≡ Leaves b → a ≡ b
same_left a b same = cc

-- the code leaves what the behaviour's step leaves
pub fires : (p : Program) (frame : Frame) (inputs : List PortValue) (result : Fired) → IsProgram p
    → HasShape p.plan.behaviour frame → length inputs ≡ length p.plan.behaviour.ins
    → exec p.code frame inputs ≡ Leaves result → result ≡ fire p.plan.behaviour frame inputs
fires p frame inputs result rules shape size left =
    same_left result (fire p.plan.behaviour frame inputs) (sym left ∙ rules.means.steps frame inputs shape size)

-- a step keeps the shape, and gives each out port a place
pub leaves_shape : (p : Program) (frame : Frame) (inputs : List PortValue) → IsProgram p
    → HasShape p.plan.behaviour frame
    → HasShape p.plan.behaviour (fire p.plan.behaviour frame inputs).frame
leaves_shape p frame inputs rules shape = (fires_well p.plan.behaviour frame inputs rules.plan.behaviour shape).0

pub leaves_outs : (p : Program) (frame : Frame) (inputs : List PortValue) → IsProgram p
    → HasShape p.plan.behaviour frame
    → length (fire p.plan.behaviour frame inputs).outs ≡ length p.plan.behaviour.outs
leaves_outs p frame inputs rules shape = (fires_well p.plan.behaviour frame inputs rules.plan.behaviour shape).1
