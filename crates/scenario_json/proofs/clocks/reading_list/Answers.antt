use Rattle.std.proofs.Common.{◌≤◌, sym, arith}
use Rattle.std.proofs.lemmas.Grind.{common_steps}
use Rattle.scenario_json.specs.Clocks.{last_of}
use Rattle.scenario_json.proofs.NonDecreasingReadings.{last_push, order_push, range_push}
use Rattle.scenario_json.proofs.clocks.reading_list.Goals as goal

pub loop-at-preserved : goal.loop-at-preserved
loop-at-preserved c =
    let readings = c.loop-at.readings in
    let reading = c.in_ok-reading.reading in
    let above : last_of readings ≤ reading =
    grind (arith, common_steps, c.in_ok-reading.ensures.range, c.loop-at.invariant.1) in
    rw c.in_ok-push.ensures.ok (
      grind (arith, common_steps),
      sym (last_push readings reading),
      order_push readings reading c.loop-at.invariant.2 above,
      range_push readings reading c.loop-at.invariant.3 c.in_ok-reading.ensures.range.1,
      grind (arith, common_steps),
    )
