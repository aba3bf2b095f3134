use Rattle.std.proofs.Common.{◌≡◌, ◌∙◌, map, get_or, sym, ap, subst, Ok, Err, true, false, rules, arith}
use Rattle.std.specs.Prelude.{slice_get}
use Rattle.pals_base.specs.ExpressionValues.{on_value}
use Rattle.pals_base.specs.SingleStep.{is_present, along}
use Rattle.behaviour_sem.specs.declared.early_end.EarlyEnd.TheVariants as stop
use Rattle.behaviour_sem.specs.proof.GroupedTransitions.{numbered}
use Rattle.behaviour_sem.specs.proof.PartialStepResults.{IsStepResult}
use Rattle.behaviour_sem.specs.proof.TransitionMoves.{move}
use Rattle.behaviour_sem.specs.proof.PartialSteps.{fired}
use Rattle.behaviour_sem.proofs.TransitionSearch.{opens-same, first_open-from}
use Rattle.behaviour_sem.proofs.transitions.advance.Goals as goal

pub returns-in_err-is_open-clause-leads : goal.returns-in_err-is_open-clause-leads
returns-in_err-is_open-clause-leads c =
    let start = c.args.place.now in
    let inputs = c.args.inputs.now in
    let at = fired (start, c.args.outs.now) inputs in
    let fresh = map is_present inputs.present.now in
    let all = c.args.transitions.now in
    let numbers = c.args.numbers.now in
    let number = get_or numbers c.loop-at.at 0 in
    let trap = c.in_err-is_open.field-0.0 in
    let asked =
    opens-same (Err trap) c.loop-at.place start c.deref.result.now inputs.held.now fresh (slice_get all number)
    c.deref.ensures.value c.loop-at.invariant.place c.in_err-is_open.ensures in
    let found =
    first_open-from at.frame fresh all numbers c.loop-at.at (Err trap) (omega arith) asked in
    let answers : c.from_residual.result ≡ Err (stop.Trapped trap) = search rules in
    let meant : move (numbered all numbers) fresh at ≡ Err trap =
    ap (λ r. on_value r (λ e. along e fresh at)) (sym c.loop-at.invariant.rest ∙ found) in
    subst (λ r. IsStepResult r (fired (c.loop-at.place, c.loop-at.outs) inputs) (move (numbered all numbers) fresh at))
    (sym answers) meant

pub returns-then-branch-clause-leads : goal.returns-then-branch-clause-leads
returns-then-branch-clause-leads c =
    let start = c.args.place.now in
    let inputs = c.args.inputs.now in
    let at = fired (start, c.args.outs.now) inputs in
    let fresh = map is_present inputs.present.now in
    let all = c.args.transitions.now in
    let numbers = c.args.numbers.now in
    let number = get_or numbers c.loop-at.at 0 in
    let asked =
    opens-same (Ok c.in_ok-is_open.field-0) c.loop-at.place start c.deref.result.now inputs.held.now fresh
    (slice_get all number) c.deref.ensures.value c.loop-at.invariant.place c.in_ok-is_open.ensures in
    let found =
    first_open-from at.frame fresh all numbers c.loop-at.at (Ok true) (omega arith)
    (asked ∙ ap Ok c.if-branch.true) in
    let meant = ap (λ r. on_value r (λ e. along e fresh at)) (sym c.loop-at.invariant.rest ∙ found) in
    let same : along (slice_get all number) fresh (fired (c.loop-at.place, c.loop-at.outs) inputs)
    ≡ move (numbered all numbers) fresh at =
    (ap (λ p. along (slice_get all number) fresh (fired (p, c.loop-at.outs) inputs)) c.loop-at.invariant.place
    ∙ ap (λ os. along (slice_get all number) fresh (fired (start, os) inputs)) c.loop-at.invariant.outs
    ∙ sym meant) in
    subst (λ m. IsStepResult c.follow_number.result
    (fired (c.follow_number.new.place, c.follow_number.new.outs) inputs) m)
    same c.follow_number.ensures.leads

pub loop-at-preserved : goal.loop-at-preserved
loop-at-preserved c =
    let start = c.args.place.now in
    let inputs = c.args.inputs.now in
    let at = fired (start, c.args.outs.now) inputs in
    let fresh = map is_present inputs.present.now in
    let all = c.args.transitions.now in
    let numbers = c.args.numbers.now in
    let number = get_or numbers c.loop-at.at 0 in
    let asked =
    opens-same (Ok c.in_ok-is_open.field-0) c.loop-at.place start c.deref.result.now inputs.held.now fresh
    (slice_get all number) c.deref.ensures.value c.loop-at.invariant.place c.in_ok-is_open.ensures in
    let found =
    first_open-from at.frame fresh all numbers c.loop-at.at (Ok false) (omega arith)
    (asked ∙ ap Ok c.if-branch.false) in
    record {
      place = c.loop-at.invariant.place;
      outs = c.loop-at.invariant.outs;
      rest = sym found ∙ c.loop-at.invariant.rest;
    }
