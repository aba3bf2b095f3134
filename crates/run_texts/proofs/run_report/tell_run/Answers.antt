use Rattle.std.proofs.Common.{rules}
use Rattle.run_texts.specs.declared.run_report.RunReport.TheVariants as told
use Rattle.run_texts.proofs.BusOutcomes.{told_of}
use Rattle.run_texts.proofs.run_report.tell_run.Goals as goal

pub returns-then-is_some : goal.returns-then-is_some
returns-then-is_some c =
    told_of c.args.end.now.bus c.args.end.now.ends c.args.trace (told.Stopped c.in_ok-traced_text.field-0)
    c.agreement.ensures.rounds.1 (search rules)

pub returns-in_ok-clock_end_text-in-Some : goal.returns-in_ok-clock_end_text-in-Some
returns-in_ok-clock_end_text-in-Some c =
    told_of c.args.end.now.bus c.args.end.now.ends c.args.trace
    (told.ClockEnded c.in_ok-clock_end_text-in-Some.field-0) c.agreement.ensures.rounds.1 (search rules)

pub returns-in_ok-traced_text-in-None : goal.returns-in_ok-traced_text-in-None
returns-in_ok-traced_text-in-None c =
    told_of c.args.end.now.bus c.args.end.now.ends c.args.trace
    (told.Completed c.in_ok-traced_text-in-None.field-0) c.agreement.ensures.rounds.1 (search rules)
