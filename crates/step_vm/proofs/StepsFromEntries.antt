-- The result of a step of code that has not halted is the result of its run from the state's entry: for the machine's
-- step.
use Rattle.std.proofs.Common.{◌≡◌, ◌∙◌, ℕ, List, Some, None, sym, ap}
use Rattle.std.specs.Prelude.{slice_get}
use Rattle.pals_base.specs.declared.frames.Frame.{Frame}
use Rattle.pals_base.specs.declared.basic_types.PortValue.{PortValue}
use Rattle.pals_base.specs.SingleStep.{Fired, holding}
use Rattle.step_code.specs.declared.instr.CodeParts.{CodeParts}
use Rattle.step_code.specs.proof.CodeRuns.{what_is_left, run_from, from_entry, unless_halted, exec, Leaves}

-- the whole step
pub stepped : (c : CodeParts) (frame held : Frame) (inputs : List PortValue) (entry : ℕ) (f : Fired)
    → held ≡ record frame { held = holding frame.held inputs } → frame.halt ≡ None
    → slice_get c.entries frame.state ≡ Some (Some entry)
    → what_is_left c held (run_from c held inputs entry) ≡ Leaves f → exec c frame inputs ≡ Leaves f
stepped c frame held inputs entry f is halt at leaves =
    let h : Frame = record frame { held = holding frame.held inputs } in
    ap (λ x. unless_halted c h x (from_entry c h inputs (slice_get c.entries frame.state))) halt
    ∙ ap (λ x. what_is_left c h (from_entry c h inputs x)) at
    ∙ ap (λ g. what_is_left c g (run_from c g inputs entry)) (sym is)
    ∙ leaves
