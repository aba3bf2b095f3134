use Rattle.node_threads.proofs.RunOutcomes.{outcome_by, few_ends, none_stopped}
use Rattle.node_threads.proofs.run_completion.driven.Goals as goal

pub invariant_of-result : goal.invariant_of-result
invariant_of-result g c = record {
  few =
      few_ends c.drive.new.course.bus c.drive.new.course.clocks c.in_ok-ends.ends c.into_bus.ensures.rules
      c.in_ok-ends.ensures.ends;
  stopped =
      none_stopped c.drive.new.course.bus c.into_bus.result c.drive.new.course.clocks c.in_ok-ends.ends
      c.into_bus.ensures.bus c.in_ok-ends.ensures.ends;
}

pub returns : goal.returns
returns g c =
    outcome_by c.args.course c.drive.new.course c.into_bus.result c.in_ok-ends.ends c.drive.ensures.stays
    c.into_bus.ensures.bus c.into_bus.ensures.rules c.into_bus.ensures.runs c.in_ok-ends.ensures.ends
