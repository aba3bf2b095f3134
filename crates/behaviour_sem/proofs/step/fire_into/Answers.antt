use Rattle.std.proofs.Common.{◌≡◌, ◌∙◌, sym, ap, subst, ℤ, List, Some, Ok, Err, replicate, length, map, arith}
use Rattle.pals_base.specs.declared.frames.Frame.{Frame}
use Rattle.pals_base.specs.declared.basic_types.PortValue.{PortValue}
use Rattle.pals_base.specs.declared.basic_types.PortValue.TheVariants.{Absent}
use Rattle.pals_base.specs.SingleStep.{Fired, holding, is_present}
use Rattle.behaviour_sem.specs.proof.PartialStepResults.{IsStepResult}
use Rattle.behaviour_sem.specs.proof.PartialSteps.{reacted}
use Rattle.behaviour_sem.proofs.StepEnds.{with_held, fire-halted, fire-reacted}
use Rattle.behaviour_sem.proofs.step.fire_into.Goals as goal

pub returns-then-is_some-clause-fired : goal.returns-then-is_some-clause-fired
returns-then-is_some-clause-fired c =
    let silent = c.silence.ensures ∙ ap (λ n. replicate n Absent) c.requires.outs in
    fire-halted c.args.behaviour.now c.args.from.now c.copy_from.new.self c.args.inputs.now c.hold.new.held
    c.silence.new.outs c.copy_from.ensures c.hold.ensures.after silent
    (sym c.is_some.ensures ∙ c.if-is_some.true)

pub returns-in-Ok-clause-fired : goal.returns-in-Ok-clause-fired
returns-in-Ok-clause-fired c =
    let silent = c.silence.ensures ∙ ap (λ n. replicate n Absent) c.requires.outs in
    fire-reacted c.args.behaviour.now c.args.from.now c.copy_from.new.self c.args.inputs.now c.hold.new.held
    c.silence.new.outs (Ok (record { frame = c.react_in.new.frame; outs = c.react_in.new.outs }))
    c.copy_from.ensures c.hold.ensures.after silent
    (sym c.is_some.ensures ∙ c.if-is_some.false) c.in-Ok.ensures.reacts

pub returns-in-Err-Trapped-clause-fired : goal.returns-in-Err-Trapped-clause-fired
returns-in-Err-Trapped-clause-fired c =
    let b = c.args.behaviour.now in
    let from = c.args.from.now in
    let inputs = c.args.inputs.now in
    let trap = c.in-Err-Trapped.trap in
    let silent = c.silence.ensures ∙ ap (λ n. replicate n Absent) c.requires.outs in
    let vars = c.copy_from_slice.ensures ∙ c.as_slice.ensures.value in
    let held =
    c.react_in.ensures.held ∙ c.hold.ensures.after
    ∙ ap (λ (f : Frame). holding f.held inputs) c.copy_from.ensures in
    let fired : List ℤ → List ℤ → List PortValue → Fired =
    λ vs hs os. record {
      frame = record { state = from.state; vars = vs; held = hs; halt = Some trap };
      outs = os;
    } in
    let reached : Fired = record { frame = c.react_in.new.frame; outs = c.react_in.new.outs } in
    let meant =
    reacted b c.copy_from.new.self.state (map is_present inputs)
    (with_held c.copy_from.new.self c.hold.new.held c.silence.new.outs) in
    let reacts =
    subst (λ stop. IsStepResult (Err stop) reached meant) c.in-Err-Trapped.field-0-is c.in-Err-Trapped.ensures.reacts in
    let all =
    fire-reacted b from c.copy_from.new.self inputs c.hold.new.held c.silence.new.outs (Err trap)
    c.copy_from.ensures c.hold.ensures.after silent
    (sym c.is_some.ensures ∙ c.if-is_some.false) reacts in
    let kept : length c.react_in.new.outs ≡ length b.outs = omega arith in
    ap (λ vs. fired vs c.react_in.new.frame.held c.silence-in-Err-Trapped.new.outs) vars
    ∙ ap (λ hs. fired from.vars hs c.silence-in-Err-Trapped.new.outs) held
    ∙ ap (fired from.vars (holding from.held inputs))
    (c.silence-in-Err-Trapped.ensures ∙ ap (λ n. replicate n Absent) kept)
    ∙ all
