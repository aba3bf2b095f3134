use Rattle.std.proofs.Common.{◌≡◌, ◌∙◌, ℕ, ◌+◌, ◌*◌, [], ◌∷◌, ◌++◌, map, ap, sym, append_assoc, arith}
use Rattle.std.proofs.lemmas.List.{map_push}
use Rattle.pals_base.specs.PeriodBoundAndReleases.{alarm, step_period}
use Rattle.pals_base.specs.UpwardNumbers.{upwards}
use Rattle.pals_base.proofs.UpwardNumbers.{map_upwards_more}
use Rattle.pals_model.specs.declared.design.DesignParts.{DesignParts}
use Rattle.pals_model.specs.PortKindsAndRates.{rate_of}
use Rattle.round_budget.specs.Budgets as budgets
use Rattle.round_budget.specs.Budgets.{release_of}
use Rattle.round_budget.specs.declared.releases.Release.{Release}
use Rattle.round_budget.specs.proof.ReleaseAndLineValues.{release_value}
use Rattle.round_budget.proofs.releases.add_releases.Goals as goal

first_alarm : (t k : ℕ) → t + k ≡ (0 + 1) * t + k
first_alarm t k = omega arith

pub loop-step-preserved : goal.loop-step-preserved
loop-step-preserved c =
    let design = c.args.design.now in
    let node = c.args.node.0 in
    let step = c.loop-step.step in
    let p = c.period-period.result in
    let g = c.step_period-gap.result in
    let items = c.loop-step.releases.items in
    let before = c.args.releases.now.items in
    let x : Release = record { node = c.args.node; step = step; time = p + c.from.result * g } in
    let rate : c.rate-rate.result ≡ rate_of design node = c.rate-rate.ensures
    ∙ ap (λ (d : DesignParts). rate_of d node) c.parts.ensures.value in
    let gap : g ≡ step_period design.period (rate_of design node) =
    c.step_period-gap.ensures ∙ ap (λ t. step_period t c.rate-rate.result) c.period-period.ensures.value
    ∙ ap (step_period design.period) rate in
    let time : p + c.from.result * g ≡ alarm design.period 0 + step * step_period design.period (rate_of design node) =
    (ap (λ k. p + k * g) c.from.ensures
    ∙ ap (λ k. p + step * k) gap
    ∙ ap (λ t. t + step * step_period design.period (rate_of design node)) c.period-period.ensures.value
    ∙ first_alarm design.period (step * step_period design.period (rate_of design node))) in
    let last : release_value x ≡ release_of design 0 node step =
    ap (λ t. let r : budgets.Release = record { node = node; round = 0; step = step; time = t } in r) time in
    ap (map release_value) c.in_ok-push.ensures.items
    ∙ map_push release_value items x
    ∙ ap (λ xs. xs ++ release_value x ∷ []) c.loop-step.invariant
    ∙ append_assoc (map release_value before) (map (release_of design 0 node) (upwards 0 step)) (release_value x ∷ [])
    ∙ ap (λ r. map release_value before ++ (map (release_of design 0 node) (upwards 0 step) ++ r ∷ [])) last
    ∙ ap (λ xs. map release_value before ++ xs) (sym (map_upwards_more (release_of design 0 node) step))
