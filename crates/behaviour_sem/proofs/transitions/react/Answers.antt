use Rattle.std.proofs.Common.{◌≡◌, ◌∙◌, length, map, sym, ap, subst, Ok, Err, rules}
use Rattle.pals_base.specs.ExpressionValues.{on_value}
use Rattle.pals_base.specs.SingleStep.{Fired, is_present, along, dispatched, settled}
use Rattle.behaviour_sem.specs.proof.PartialStepResults.{IsStepResult}
use Rattle.behaviour_sem.specs.proof.PartialSteps.{fired, reacted}
use Rattle.behaviour_sem.specs.proof.TransitionMoves.{dispatch_among}
use Rattle.behaviour_sem.proofs.GroupedTransitions.{leaving-read}
use Rattle.behaviour_sem.proofs.TransitionSearch.{Left-stops}
use Rattle.behaviour_sem.proofs.transitions.react.Goals as goal

pub returns-in_err-dispatch-clause-leads : goal.returns-in_err-dispatch-clause-leads
returns-in_err-dispatch-clause-leads c =
    let b = c.args.behaviour.now in
    let start = c.args.place.now in
    let inputs = c.args.inputs.now in
    let fresh = map is_present inputs.present.now in
    let at = fired (start, c.args.outs.now) inputs in
    let after = fired (c.dispatch.new.place, c.dispatch.new.outs) inputs in
    let stop = c.in_err-dispatch.field-0.0 in
    let answers : c.from_residual.result ≡ Err stop = search rules in
    let left =
    leaving-read b start.state c.transitions.result.now c.leaving-numbers.result.now c.args.groups.now
    c.transitions.ensures.value c.leaving-numbers.ensures c.requires in
    let moved =
    subst (λ es. IsStepResult (Err stop) after (along (dispatch_among es) fresh at)) left
    c.in_err-dispatch.ensures.leads in
    subst (λ r. IsStepResult r after (reacted b start.state fresh at)) (sym answers)
    (Left-stops stop (along (dispatched b start.state) fresh at) (λ next. settled (length b.states) b fresh next) after
    after moved)

pub returns-clause-leads : goal.returns-clause-leads
returns-clause-leads c =
    let b = c.args.behaviour.now in
    let start = c.args.place.now in
    let inputs = c.args.inputs.now in
    let fresh = map is_present inputs.present.now in
    let at = fired (start, c.args.outs.now) inputs in
    let between : Fired = fired (c.dispatch.new.place, c.dispatch.new.outs) inputs in
    let left =
    leaving-read b start.state c.transitions.result.now c.leaving-numbers.result.now c.args.groups.now
    c.transitions.ensures.value c.leaving-numbers.ensures c.requires in
    let moved : along (dispatched b start.state) fresh at ≡ Ok between =
    (sym (ap (λ es. along (dispatch_among es) fresh at) left) ∙ c.in_ok-dispatch.ensures.leads) in
    subst (λ m. IsStepResult c.settle.result (fired (c.settle.new.place, c.settle.new.outs) inputs) m)
    (sym (ap (λ r. on_value r (λ next. settled (length b.states) b fresh next)) moved)) c.settle.ensures.leads
