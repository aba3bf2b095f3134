use Rattle.std.proofs.Common.{ℕ, ◌+◌, ◌<◌, ◌≤◌, List, length, Option, ap, ◌∙◌, subst, arith}
use Rattle.std.specs.Prelude.{slice_index_or}
use Rattle.pals_runs.specs.declared.events_and_faults.EventFault.{EventFault}
use Rattle.pals_runs.specs.declared.events_and_faults.EventFault.TheVariants as fault
use Rattle.run_laws.specs.EventFaults.{Reading, clock_back}
use Rattle.timed_world.specs.proof.WorldValuesAndMoves.{WorldValue, world_of}
use Rattle.timed_world.proofs.FaultSearch.{readings_left, readings_more, goes_past, has_found, below_found, below_past}
use Rattle.timed_world.proofs.world.World.clock_back.Goals as goal

pub returns-then-reading-before : goal.returns-then-reading-before
returns-then-reading-before c =
    let v = c.args.self.now in
    let f : Reading → Option EventFault = clock_back (world_of v) in
    let readings = c.args.readings.now in
    let index = c.loop-index.index in
    let reading = slice_index_or readings index 0 in
    let same = c.as_slice-before.ensures.value ∙ ap (λ (x : WorldValue). x.readings) c.self.view_is in
    let test = c.loop-index-test.true in
    let end = c.component_count-index-end.ensures.value in
    let many = c.requires in
    let within : index < length readings = omega (arith, test, end, many) in
    let row = c.loop-index.invariant ∙ readings_more f readings index within in
    let less = subst (λ (l : List ℕ). reading < slice_index_or l index 0) same c.if-reading-before.true in
    let why = fault.ClockBack (record { 0 = index }) reading in
    has_found _ (f (index, reading)) (readings_left f readings (index + 1)) why row
    (below_found reading (slice_index_or v.readings index 0) why less)

pub loop-index-preserved : goal.loop-index-preserved
loop-index-preserved c =
    let v = c.args.self.now in
    let f : Reading → Option EventFault = clock_back (world_of v) in
    let readings = c.args.readings.now in
    let index = c.loop-index.index in
    let reading = slice_index_or readings index 0 in
    let same = c.as_slice-before.ensures.value ∙ ap (λ (x : WorldValue). x.readings) c.self.view_is in
    let test = c.loop-index-test.true in
    let end = c.component_count-index-end.ensures.value in
    let many = c.requires in
    let within : index < length readings = omega (arith, test, end, many) in
    let row = c.loop-index.invariant ∙ readings_more f readings index within in
    let most = subst (λ (l : List ℕ). slice_index_or l index 0 ≤ reading) same c.if-reading-before.false in
    let why = fault.ClockBack (record { 0 = index }) reading in
    goes_past _ (f (index, reading)) (readings_left f readings (index + 1)) row
    (below_past reading (slice_index_or v.readings index 0) why most)
