use Rattle.std.proofs.Common.{◌≡◌, ◌∙◌, Some, None, true, false, Option, length, refl, sym, ap}
use Rattle.std.specs.Prelude.{Bool}
use Rattle.std.specs.Option.{is_some}
use Rattle.pals_base.specs.declared.frames.Frame.{Frame}
use Rattle.pals_base.specs.SingleStep.{Fired}
use Rattle.step_code.proofs.StepResults.{length-holding, member_at}
use Rattle.step_vm.proofs.StepsFromEntries.{stepped}
use Rattle.step_vm.proofs.steps.take_step.Goals as goal

none_of : {A : Type 0} (o : Option A) (b : Bool) → b ≡ is_some o → b ≡ false → o ≡ None
none_of None b is fails = refl
none_of (Some x) b is fails = let no : true ≡ false = sym is ∙ fails in cc

pub react-requires-clause-entry : goal.react-requires-clause-entry
react-requires-clause-entry c =
    member_at c.args.parts.now.entries c.args.frame.now.state (Some c.entry_of-entry.result) c.entry_of-entry.ensures

pub react-requires-clause-sizes : goal.react-requires-clause-sizes
react-requires-clause-sizes c = record {
  vars = c.requires.frame.vars;
  ins = ap length c.hold.ensures ∙ length-holding c.args.frame.now.held c.args.inputs.now ∙ c.requires.frame.held;
  inputs' = c.requires.inputs;
}

pub returns-clause-step : goal.returns-clause-step
returns-clause-step c =
    let frame = c.args.frame.now in
    let held : Frame = record frame { held = c.hold.new.held } in
    let f : Fired = record { frame = c.react.new.frame; outs = c.react.new.outs } in
    stepped c.args.parts.now frame held c.args.inputs.now c.entry_of-entry.result f
    (ap (λ h. record frame { held = h }) c.hold.ensures)
    (none_of frame.halt c.is_some.result c.is_some.ensures c.if-is_some.false) c.entry_of-entry.ensures
    c.react.ensures.step
