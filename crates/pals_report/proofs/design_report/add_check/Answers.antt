use Rattle.std.proofs.Common.{map, sym, ap, ◌∙◌, subst, refl}
use Rattle.std.specs.Prelude.{All, MatchOption}
use Rattle.std.proofs.lemmas.List.Elements.{All-map}
use Rattle.std.proofs.lemmas.Result.{on_ok_weaker}
use Rattle.pals_model.specs.RoundTexts.{text_of}
use Rattle.bound_checker.specs.proof.OverflowLimits.{IsRate}
use Rattle.bound_checker.specs.LeastMultiples.{IsLeastMultiple, HasNoMultiple}
use Rattle.pals_report.proofs.TextPrefixes.{joined_on_ok}
use Rattle.pals_report.specs.CheckReports.{rate_of, check_lines, IsShortest}
use Rattle.pals_report.proofs.design_report.add_check.Goals as goal

pub least_multiple-shortest-requires-clause-rates : goal.least_multiple-shortest-requires-clause-rates
least_multiple-shortest-requires-clause-rates c =
    let design = c.args.design.now in
    let all : All IsRate (map rate_of design.components) =
    All-map IsRate rate_of design.components
    (λ k d lt. let here = c.components.ensures.rules.components.each k d lt in
    record { some_step = here.rate.0; at_most = here.rate.1 }) in
    subst (λ xs. All IsRate xs)
    (sym (c.as_slice.ensures.value ∙ c.in_ok-rates.ensures
    ∙ ap (λ xs. map rate_of xs) c.components.ensures.value)) all

pub returns-clause-ok : goal.returns-clause-ok
returns-clause-ok c =
    let design = c.args.design.now in
    let shortest = c.least_multiple-shortest.result in
    let all = c.as_slice.ensures.value ∙ c.in_ok-rates.ensures ∙ ap (λ xs. map rate_of xs) c.components.ensures.value in
    let is_shortest : IsShortest design shortest =
    subst (λ xs. MatchOption shortest (HasNoMultiple design.gamma xs) (IsLeastMultiple design.gamma xs)) all
    (subst (λ g. MatchOption shortest (HasNoMultiple g c.as_slice.result.now) (IsLeastMultiple g c.as_slice.result.now))
    c.gamma-gamma.ensures.value c.least_multiple-shortest.ensures) in
    let written =
    joined_on_ok c.whole_or_none.result c.add_lines-written.result _ _ _ _ (text_of (check_lines design shortest))
    c.whole_or_none.ensures.same c.whole_or_none.ensures.ok c.add_lines-written.ensures.ok
    (ap (λ d. text_of (check_lines d shortest)) c.parts.ensures.value) in
    on_ok_weaker c.whole_or_none.result
    (λ e. (
      text_of (check_lines design shortest),
      e,
      record { shortest = shortest; is_shortest = is_shortest; text_is = refl },
    )) written
