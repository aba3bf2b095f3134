use Rattle.std.proofs.Common.{inl, inr, refl}
use Rattle.run_texts.specs.declared.run_report.RunReport.TheVariants as told
use Rattle.pals_top.proofs.ScenarioRuns.{told_of_scenario}
use Rattle.pals_top.proofs.run.run_nodes.Goals as goal

pub opened-requires-clause-delays : goal.opened-requires-clause-delays
opened-requires-clause-delays g c = record {
  each = c.requires.kept.delay.links;
  lists = λ k d within. let list = c.requires.kept.delay.each k d within in
      record { some' = list.some; within = list.within };
}

pub returns-in-Completed : goal.returns-in-Completed
returns-in-Completed g c =
    inl (
      refl,
      told_of_scenario c.args.coded.design c.args.coded.scenario c.args.trace _ _ c.in_ok-bus.bus c.in_ok-end.end.bus
          c.in_ok-end.end.ends c.in_ok-text.field-0 (told.Completed c.in-Completed.text) c.requires.kept
          c.in_ok-bus.ensures c.in_ok-end.ensures c.in_ok-text.ensures c.in-Completed.is,
    )

pub returns-in-Stopped : goal.returns-in-Stopped
returns-in-Stopped g c =
    inr (inl (
      refl,
      told_of_scenario c.args.coded.design c.args.coded.scenario c.args.trace _ _ c.in_ok-bus.bus c.in_ok-end.end.bus
          c.in_ok-end.end.ends c.in_ok-text.field-0 (told.Stopped c.in-Stopped.text) c.requires.kept
          c.in_ok-bus.ensures c.in_ok-end.ensures c.in_ok-text.ensures c.in-Stopped.is,
    ))

pub returns : goal.returns
returns g c =
    inr (inr (
      refl,
      told_of_scenario c.args.coded.design c.args.coded.scenario c.args.trace _ _ c.in_ok-bus.bus c.in_ok-end.end.bus
          c.in_ok-end.end.ends c.in_ok-text.field-0 (told.ClockEnded c.in-ClockEnded.text) c.requires.kept
          c.in_ok-bus.ensures c.in_ok-end.ensures c.in_ok-text.ensures c.in-ClockEnded.is,
    ))
