use Rattle.std.proofs.Common.{◌≡◌, ◌∙◌, sym, ap, subst, true, false, get_or, arith}
use Rattle.std.specs.Prelude.{slice_get}
use Rattle.pals_base.specs.SingleStep.{along}
use Rattle.behaviour_sem.specs.proof.EvaluationFrames.{fresh}
use Rattle.behaviour_sem.specs.proof.GroupedTransitions.{numbered}
use Rattle.behaviour_sem.specs.proof.PartialStepResults.{IsStepResult}
use Rattle.behaviour_sem.specs.proof.PartialSteps.{fired}
use Rattle.behaviour_sem.specs.proof.TransitionMoves.{dispatch_among}
use Rattle.behaviour_sem.proofs.TransitionSearch.{dispatch-from}
use Rattle.behaviour_sem.proofs.transitions.dispatch.Goals as goal

pub returns-then-is_dispatch-clause-leads : goal.returns-then-is_dispatch-clause-leads
returns-then-is_dispatch-clause-leads c =
    let all = c.args.transitions.now in
    let numbers = c.args.numbers.now in
    let at = c.loop-at.at in
    let number = get_or numbers c.loop-at.at 0 in
    let inputs = c.args.inputs.now in
    let start = c.args.place.now in
    let found =
    sym (dispatch-from all numbers at true (omega arith)
    (sym c.if-is_dispatch.true ∙ c.is_dispatch.ensures)) ∙ c.loop-at.invariant.rest in
    let same : along (slice_get all number) (fresh inputs) (fired (c.loop-at.place, c.loop-at.outs) inputs)
    ≡ along (dispatch_among (numbered all numbers)) (fresh inputs) (fired (start, c.args.outs.now) inputs) =
    (ap (λ p. along (slice_get all number) (fresh inputs) (fired (p, c.loop-at.outs) inputs)) c.loop-at.invariant.place
    ∙ ap (λ os. along (slice_get all number) (fresh inputs) (fired (start, os) inputs)) c.loop-at.invariant.outs
    ∙ ap (λ o. along o (fresh inputs) (fired (start, c.args.outs.now) inputs)) found) in
    subst (λ m. IsStepResult c.follow_number.result
    (fired (c.follow_number.new.place, c.follow_number.new.outs) inputs) m)
    same c.follow_number.ensures.leads

pub loop-at-preserved : goal.loop-at-preserved
loop-at-preserved c = record {
  place = c.loop-at.invariant.place;
  outs = c.loop-at.invariant.outs;
  rest =
      sym (dispatch-from c.args.transitions.now c.args.numbers.now c.loop-at.at false
      (omega arith) (sym c.if-is_dispatch.false ∙ c.is_dispatch.ensures))
      ∙ c.loop-at.invariant.rest;
}
