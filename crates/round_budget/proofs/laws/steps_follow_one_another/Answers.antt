use Rattle.round_budget.proofs.BudgetLaws.{none_begins_early, one_at_a_time'}
use Rattle.round_budget.proofs.laws.steps_follow_one_another.Goals as goal

pub returns : goal.returns
returns c = record { begin = none_begins_early; apart = one_at_a_time' }
