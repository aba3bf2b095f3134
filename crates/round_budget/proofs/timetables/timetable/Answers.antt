use Rattle.std.proofs.Common.{◌≡◌, ◌∙◌, ℕ, true, length, ap₂, sym, arith}
use Rattle.std.proofs.lemmas.List.{length-map}
use Rattle.pals_base.specs.declared.basic_types.NodeNo.{NodeNo}
use Rattle.pals_base.specs.declared.period_bound_and_releases.Gamma.{Gamma}
use Rattle.round_budget.specs.Budgets.{total, fits, numbers}
use Rattle.round_budget.proofs.ProcessorMembers.{rising_few}
use Rattle.round_budget.proofs.TimetablePromises.{budgeted_by, respond_in_time, timetable_is_each}
use Rattle.round_budget.proofs.timetables.timetable.Goals as goal

pub total-total-requires-clause-count : goal.total-total-requires-clause-count
total-total-requires-clause-count c =
    let few =
    rising_few (numbers c.args.members.now) (length c.args.design.now.components) c.requires.members.rising
    c.requires.members.within in
    let same = length-map c.args.members.now (λ (m : NodeNo). m.0) in
    let most = c.gamma-gamma.ensures.rules.components.count in
    omega (arith, few, same, most)

pub returns-in-Ok-clause-in_time : goal.returns-in-Ok-clause-in_time
returns-in-Ok-clause-in_time c =
    let design = c.args.design.now in
    let codes = c.args.codes.now in
    let nanos = c.args.nanos in
    let members = numbers c.args.members.now in
    let is : fits design.gamma (total nanos codes members) ≡ true =
    sym (ap₂ (λ (g : Gamma) (t : ℕ). fits g t) c.gamma-gamma.ensures.value c.total-total.ensures) ∙ sym c.fits.ensures
    ∙ c.if-not-fits.false in
    respond_in_time design codes nanos members c.gamma-gamma.ensures.rules c.requires.nanos.0
    (budgeted_by design codes nanos members c.requires.members is)

pub returns-in-Ok-clause-each_round : goal.returns-in-Ok-clause-each_round
returns-in-Ok-clause-each_round c =
    let design = c.args.design.now in
    let codes = c.args.codes.now in
    let nanos = c.args.nanos in
    let members = numbers c.args.members.now in
    let is : fits design.gamma (total nanos codes members) ≡ true =
    sym (ap₂ (λ (g : Gamma) (t : ℕ). fits g t) c.gamma-gamma.ensures.value c.total-total.ensures) ∙ sym c.fits.ensures
    ∙ c.if-not-fits.false in
    timetable_is_each design codes nanos members c.gamma-gamma.ensures.rules
    (budgeted_by design codes nanos members c.requires.members is)
