use Rattle.std.proofs.Common.{◌∙◌, length, take, sym, ap, arith, rules, w64, slice_set}
use Rattle.std.proofs.lemmas.Int.{to_z-of_z}
use mir.Val.{SFits}
use Rattle.pals_base.specs.declared.basic_types.PortValue.TheVariants.{Absent}
use Rattle.pals_base.proofs.SequencesAndHaltedFrames.{holding-none}
use Rattle.step_code.proofs.StepResults.{length-holding}
use Rattle.step_vm.proofs.HeldInputsAndVariables.{hold_present, hold_absent}
use Rattle.step_vm.proofs.steps.hold.Goals as goal
use Rattle.step_vm.proofs.steps.hold.Goals.{in-Present, in_default}

pub loop-at-init : goal.loop-at-init
loop-at-init c = sym (holding-none c.args.held.now)

pub set-requires : goal.set-requires
set-requires c =
    let size = ap length c.loop-at.invariant ∙ length-holding c.args.held.now (take c.loop-at.at c.args.inputs.now) in
    let n = c.requires in
    let within = c.loop-at-test.true in
    omega arith

pub loop-at-preserved : goal.loop-at-preserved
loop-at-preserved c =
    let held = c.args.held.now in
    let inputs = c.args.inputs.now in
    let at = c.loop-at.at in
    elim c.match-inputs-at.branch [
      | in-Present w ↦
          let v = w.in-Present.value in
          let fits : SFits w64 v = search rules in
          let set = simp to_z-of_z at w.set.ensures in
          w.held-is ∙ set ∙ ap (λ l. slice_set l at v) c.loop-at.invariant
          ∙ sym (hold_present held inputs at v Absent c.requires c.loop-at-test.true w.in-Present.is)
      | in_default w ↦ w.held-is ∙ c.loop-at.invariant
          ∙ sym (hold_absent held inputs at Absent c.loop-at-test.true w.in_default.is)
    ]
