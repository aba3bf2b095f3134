use Rattle.std.proofs.Common.{◌≡◌, ◌∙◌, ◌+◌, ◌-◌, suc, length, map, sym, ap, subst, Err, false, rules, arith}
use Rattle.std.specs.Prelude.{slice_get}
use Rattle.pals_base.specs.ExpressionValues.{on_value}
use Rattle.pals_base.specs.SingleStep.{is_present, is_complete, completes, leaving, settled}
use Rattle.behaviour_sem.specs.proof.PartialStepResults.{IsStepResult}
use Rattle.behaviour_sem.specs.proof.TransitionMoves.{move}
use Rattle.behaviour_sem.specs.proof.PartialSteps.{fired}
use Rattle.behaviour_sem.proofs.GroupedTransitions.{leaving-read}
use Rattle.behaviour_sem.proofs.TransitionSearch.{Left-stops, settled-more}
use Rattle.behaviour_sem.proofs.transitions.settle.Goals as goal

pub returns-in_err-advance-clause-leads : goal.returns-in_err-advance-clause-leads
returns-in_err-advance-clause-leads c =
    let b = c.args.behaviour.now in
    let fresh = map is_present c.args.inputs.now.present.now in
    let at = fired (c.loop.place, c.loop.outs) c.args.inputs.now in
    let after = fired (c.advance.new.place, c.advance.new.outs) c.args.inputs.now in
    let rest = length b.states - (c.loop.counter + 1) in
    let count : length b.states - c.loop.counter ≡ suc rest = omega arith in
    let under_way : is_complete b c.loop.place.state ≡ false =
    (sym (ap (λ ss. completes (slice_get ss c.loop.place.state)) c.states.ensures.value) ∙ sym c.is_complete.ensures
    ∙ c.if-is_complete.false) in
    let stop = c.in_err-advance.field-0.0 in
    let answers : c.from_residual.result ≡ Err stop = search rules in
    let left =
    leaving-read b c.loop.place.state c.transitions.result.now c.leaving-numbers.result.now c.args.groups.now
    c.transitions.ensures.value c.leaving-numbers.ensures c.requires in
    let moved =
    subst (λ ts. IsStepResult (Err stop) after (move ts fresh at)) left c.in_err-advance.ensures.leads in
    let stops = Left-stops stop (move (leaving b c.loop.place.state) fresh at) (λ next. settled rest b fresh next)
    after after moved in
    subst (λ r. IsStepResult r after
    (settled (length b.states) b fresh (fired (c.args.place.now, c.args.outs.now) c.args.inputs.now))) (sym answers)
    (subst (λ m. IsStepResult (Err stop) after m)
    (sym (settled-more rest b fresh at under_way) ∙ sym (ap (λ n. settled n b fresh at) count)
    ∙ c.loop.invariant.rest) stops)

pub loop-preserved : goal.loop-preserved
loop-preserved c =
    let b = c.args.behaviour.now in
    let fresh = map is_present c.args.inputs.now.present.now in
    let at = fired (c.loop.place, c.loop.outs) c.args.inputs.now in
    let rest = length b.states - (c.loop.counter + 1) in
    let count : length b.states - c.loop.counter ≡ suc rest = omega arith in
    let under_way : is_complete b c.loop.place.state ≡ false =
    (sym (ap (λ ss. completes (slice_get ss c.loop.place.state)) c.states.ensures.value) ∙ sym c.is_complete.ensures
    ∙ c.if-is_complete.false) in
    let left =
    leaving-read b c.loop.place.state c.transitions.result.now c.leaving-numbers.result.now c.args.groups.now
    c.transitions.ensures.value c.leaving-numbers.ensures c.requires in
    let moved = sym (ap (λ ts. move ts fresh at) left) ∙ c.in_ok-advance.ensures.leads in
    record {
      len = c.in_ok-advance.ensures.len ∙ c.loop.invariant.len;
      rest =
          sym (ap (λ r. on_value r (λ next. settled rest b fresh next)) moved)
          ∙ sym (settled-more rest b fresh at under_way)
          ∙ sym (ap (λ n. settled n b fresh at) count)
          ∙ c.loop.invariant.rest;
    }
