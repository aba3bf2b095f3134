use Rattle.round_budget.proofs.BudgetLaws.{rounds_are_apart}
use Rattle.round_budget.proofs.TimetableRepetition.{timetable_repeats}
use Rattle.round_budget.proofs.laws.rounds_are_apart.Goals as goal

pub returns : goal.returns
returns c = record { apart = rounds_are_apart; repeats = timetable_repeats }
