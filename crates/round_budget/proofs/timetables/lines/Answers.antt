use Rattle.std.proofs.Common.{◌≡◌, ◌∙◌, ℕ, ◌+◌, ◌*◌, List, map, ap, sym, subst, arith}
use Rattle.std.specs.Prelude.{IfOk}
use Rattle.std.specs.List.{AllByRecursion as Every}
use Rattle.pals_base.specs.PeriodBoundAndReleases.{alarm}
use Rattle.round_budget.specs.Budgets as budgets
use Rattle.round_budget.specs.Budgets.{releases, in_order, serve, by_most, line_from, numbers}
use Rattle.round_budget.specs.proof.ReleaseAndLineValues.{release_value, line_value}
use Rattle.round_budget.specs.proof.ServableReleases.{CanServe}
use Rattle.round_budget.proofs.ServableReleases.{all_can_serve, all_of_values}
use Rattle.round_budget.proofs.timetables.lines.Goals as goal

pub serve-requires : goal.serve-requires
serve-requires c =
    let design = c.args.design.now in
    let codes = c.args.codes.now in
    let nanos = c.args.nanos in
    let members = numbers c.args.members.now in
    let made = c.deref.result.now in
    let period = c.period-period.result in
    let are : in_order (releases design members 1) ≡ map release_value made =
    sym (ap (map release_value) c.deref.ensures.value ∙ c.in_ok-releases.ensures) in
    let all =
    all_can_serve design codes nanos members c.period-period.ensures.rules
    record { members_are = c.requires.members; fits = c.requires.fits } c.requires.codes in
    all_of_values (CanServe codes nanos period) made
    (subst (λ t. Every (CanServe codes nanos t) (map release_value made)) (sym c.period-period.ensures.value)
    (subst (Every (CanServe codes nanos design.period)) are all))

first_alarm : (t : ℕ) → t ≡ (0 + 1) * t
first_alarm t = omega arith

pub returns : goal.returns
returns c =
    let design = c.args.design.now in
    let members = numbers c.args.members.now in
    let made = c.deref.result.now in
    let cost = λ (x : budgets.Release). c.args.nanos * by_most c.args.codes.now x in
    let start : c.period-period.result ≡ alarm design.period 0 = c.period-period.ensures.value
    ∙ first_alarm design.period in
    let same = ap (λ t. map (line_from t) (serve cost 0 (map release_value made))) start
    ∙ ap (λ xs. map (line_from (alarm design.period 0)) (serve cost 0 xs))
    (ap (map release_value) c.deref.ensures.value ∙ c.in_ok-releases.ensures) in
    subst (λ (all : List budgets.Line). IfOk c.serve.result (λ lines. map line_value lines.items ≡ all)) same
    c.serve.ensures
