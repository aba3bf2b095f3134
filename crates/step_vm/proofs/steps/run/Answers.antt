use Rattle.std.proofs.Common.{◌≡◌, subst}
use Rattle.pals_base.specs.SingleStep.{Fired}
use Rattle.step_code.specs.declared.instr.CodeParts.{CodeParts}
use Rattle.step_code.specs.proof.CodeRuns.{exec, Leaves}
use Rattle.step_vm.proofs.FittingFrames.{frame_fits}
use Rattle.step_vm.proofs.steps.run.Goals as goal

pub returns-clause-fits : goal.returns-clause-fits
returns-clause-fits c =
    let frame = c.args.frame.now in
    let inputs = c.args.inputs.now in
    let f : Fired = record { frame = c.take_step.new.frame; outs = c.take_step.new.outs } in
    frame_fits c.args.code.now frame inputs f c.parts.ensures.verified c.requires.frame
    (subst (λ (p : CodeParts). exec p frame inputs ≡ Leaves f) c.parts.ensures.value c.take_step.ensures.step)
