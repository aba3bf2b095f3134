use Rattle.std.proofs.Common.{rules}
use Rattle.pals_top.proofs.TimelyProcessors.{all_in_time}
use Rattle.pals_top.proofs.budget.answer_budget.Goals as goal

pub returns : goal.returns
returns c = record {
  programs = c.args.codes.now;
  laid_out = c.requires.layout;
  status_is = search rules;
  text_is = search rules;
  in_time = all_in_time c.args.design.now c.args.codes.now c.args.scenario.now c.keeps_rules.ensures c.requires.kept;
}
