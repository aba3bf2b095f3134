use Rattle.round_budget.proofs.BudgetLaws.{responses_fit, most_responses_fit, exec_responses_fit}
use Rattle.round_budget.proofs.laws.responses_fit.Goals as goal

pub returns : goal.returns
returns c = record { any = responses_fit; most = most_responses_fit; exec = exec_responses_fit }
