use Rattle.round_budget.proofs.UniqueBudgets.{text_is_one, verdict_is_one}
use Rattle.round_budget.proofs.laws.text_is_one.Goals as goal

pub returns : goal.returns
returns c = record { text = text_is_one; verdict = verdict_is_one }
