use Rattle.std.proofs.Common.{ℕ, ◌+◌, ◌<◌, ◌≤◌, length, Option, ap, ◌∙◌, subst, arith}
use Rattle.std.specs.Prelude.{slice_index_or}
use Rattle.pals_runs.specs.declared.events_and_faults.EventFault.{EventFault}
use Rattle.pals_runs.specs.declared.events_and_faults.EventFault.TheVariants as fault
use Rattle.pals_base.specs.declared.period_bound_and_releases.Gamma.{Gamma}
use Rattle.pals_model.specs.declared.design.DesignParts.{DesignParts}
use Rattle.run_laws.specs.EventFaults.{Reading, apart, clock_apart}
use Rattle.timed_world.specs.proof.WorldValuesAndMoves.{WorldValue}
use Rattle.timed_world.proofs.FaultSearch.{readings_left, readings_more, goes_past, has_found, within_found}
use Rattle.timed_world.proofs.FaultSearch.{within_past}
use Rattle.timed_world.proofs.world.World.clock_apart.Goals as goal

pub returns-then-eps-abs_diff : goal.returns-then-eps-abs_diff
returns-then-eps-abs_diff c =
    let v = c.args.self.now in
    let f : Reading → Option EventFault = clock_apart v.bus.run c.args.time in
    let readings = c.args.readings.now in
    let index = c.loop-index.index in
    let reading = slice_index_or readings index 0 in
    let gamma =
    c.gamma-eps.ensures.value ∙ ap (λ (d : DesignParts). d.gamma) c.design.ensures
    ∙ ap (λ (x : WorldValue). x.bus.run.design.gamma) c.self.view_is in
    let eps = ap (λ (g : Gamma). g.eps) gamma in
    let test = c.loop-index-test.true in
    let end = c.component_count-index-end.ensures.value in
    let many = c.requires in
    let within : index < length readings = omega (arith, test, end, many) in
    let row = c.loop-index.invariant ∙ readings_more f readings index within in
    let far =
    subst (λ (n : ℕ). n ≤ apart reading c.args.time) eps
    (subst (λ (n : ℕ). c.gamma-eps.result.eps ≤ n) c.abs_diff.ensures c.if-eps-abs_diff.true) in
    let why = fault.ClockApart (record { 0 = index }) reading in
    has_found _ (f (index, reading)) (readings_left f readings (index + 1)) why row
    (within_found v.bus.run.design.gamma.eps (apart reading c.args.time) why far)

pub loop-index-preserved : goal.loop-index-preserved
loop-index-preserved c =
    let v = c.args.self.now in
    let f : Reading → Option EventFault = clock_apart v.bus.run c.args.time in
    let readings = c.args.readings.now in
    let index = c.loop-index.index in
    let reading = slice_index_or readings index 0 in
    let gamma =
    c.gamma-eps.ensures.value ∙ ap (λ (d : DesignParts). d.gamma) c.design.ensures
    ∙ ap (λ (x : WorldValue). x.bus.run.design.gamma) c.self.view_is in
    let eps = ap (λ (g : Gamma). g.eps) gamma in
    let test = c.loop-index-test.true in
    let end = c.component_count-index-end.ensures.value in
    let many = c.requires in
    let within : index < length readings = omega (arith, test, end, many) in
    let row = c.loop-index.invariant ∙ readings_more f readings index within in
    let close =
    subst (λ (n : ℕ). apart reading c.args.time < n) eps
    (subst (λ (n : ℕ). n < c.gamma-eps.result.eps) c.abs_diff.ensures c.if-eps-abs_diff.false) in
    let why = fault.ClockApart (record { 0 = index }) reading in
    goes_past _ (f (index, reading)) (readings_left f readings (index + 1)) row
    (within_past v.bus.run.design.gamma.eps (apart reading c.args.time) why close)
