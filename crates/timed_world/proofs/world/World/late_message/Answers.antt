use Rattle.std.proofs.Common.{ℕ, ◌+◌, ◌<◌, length, Option, sym, ◌∙◌, arith}
use Rattle.pals_runs.specs.declared.events_and_faults.EventFault.{EventFault}
use Rattle.run_laws.specs.EventFaults.{link_past}
use Rattle.timed_world.specs.proof.WorldValuesAndMoves.{world_of}
use Rattle.timed_world.proofs.FaultSearch.{numbers_left, numbers_all, numbers_more, goes_past, has_found}
use Rattle.timed_world.proofs.world.World.late_message.Goals as goal

pub returns-in-Some : goal.returns-in-Some
returns-in-Some c =
    let v = c.args.self.now in
    let f : ℕ → Option EventFault = link_past v.bus.run (world_of v) c.args.time in
    let count = length v.bus.run.design.links in
    let index = c.loop-index.index in
    let test = c.loop-index-test.true in
    let end = c.link_count-index-end.ensures.value in
    let within : index < count = omega (arith, test, end) in
    let row = numbers_all f count ∙ c.loop-index.invariant ∙ numbers_more f count index within in
    has_found _ (f index) (numbers_left f count (index + 1)) c.in-Some.why row (sym c.link_past.ensures ∙ c.in-Some.is)

pub loop-index-preserved : goal.loop-index-preserved
loop-index-preserved c =
    let v = c.args.self.now in
    let f : ℕ → Option EventFault = link_past v.bus.run (world_of v) c.args.time in
    let count = length v.bus.run.design.links in
    let index = c.loop-index.index in
    let test = c.loop-index-test.true in
    let end = c.link_count-index-end.ensures.value in
    let within : index < count = omega (arith, test, end) in
    let row = c.loop-index.invariant ∙ numbers_more f count index within in
    goes_past _ (f index) (numbers_left f count (index + 1)) row (sym c.link_past.ensures ∙ c.in_default.is)
