use Rattle.std.proofs.Common.{ap, ◌∙◌, length, arith}
use Rattle.world_gen.proofs.PartialSchedules.{timetable_keeps, GoesOn, goes_on, is_done}
use Rattle.world_gen.proofs.schedules.schedule.Goals as goal

pub next_moment-requires : goal.next_moment-requires
next_moment-requires c =
    timetable_keeps c.args.design.now c.args.rounds c.as_slice-all_series.result.now c.components-nodes.ensures.rules
    c.requires.most
    (c.as_slice-all_series.ensures.value ∙ c.in_ok-timetable.ensures)

pub add_moment-requires : goal.add_moment-requires
add_moment-requires c =
    timetable_keeps c.args.design.now c.args.rounds c.as_slice-all_series.result.now c.components-nodes.ensures.rules
    c.requires.most
    (c.as_slice-all_series.ensures.value ∙ c.in_ok-timetable.ensures)

-- one moment more is done
more : (c : goal.In_ok-add_moment)
    → GoesOn c.args.design.now c.args.rounds c.loop-moment.from c.in-Some.moment c.add_moment.new.events
more c =
    goes_on c.args.design.now c.args.rounds c.loop-moment.from c.in-Some.moment c.as_slice-all_series.result.now
    (length c.components-nodes.result.now)
    c.loop-moment.events c.add_moment.new.events c.components-nodes.ensures.rules c.requires.most
    (c.as_slice-all_series.ensures.value ∙ c.in_ok-timetable.ensures) (ap length c.components-nodes.ensures.value)
    c.in-Some.ensures
    c.in_ok-add_moment.ensures c.loop-moment.invariant.so_far

pub overflow_add-from : goal.overflow_add-from
overflow_add-from c = let m = more c in let reading = m.reading in omega arith

pub loop-moment-smaller : goal.loop-moment-smaller
loop-moment-smaller c = let m = more c in let forward = m.forward in let reading = m.reading in omega arith

pub loop-moment-preserved : goal.loop-moment-preserved
loop-moment-preserved c = let m = more c in let reading = m.reading in
    record { so_far = m.so_far; within = omega arith }

pub returns : goal.returns
returns c =
    let done =
    is_done c.args.design.now c.args.rounds c.loop-moment.from c.as_slice-all_series.result.now c.loop-moment.events
    c.components-nodes.ensures.rules c.requires.some (c.as_slice-all_series.ensures.value ∙ c.in_ok-timetable.ensures)
    c.in_default.ensures
    c.loop-moment.invariant.so_far in
    record { exact = done.exact; whole = done.whole }
