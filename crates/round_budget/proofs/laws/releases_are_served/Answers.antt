use Rattle.round_budget.proofs.BudgetLaws.{each_is_served, served_once, served_in_order'}
use Rattle.round_budget.proofs.laws.releases_are_served.Goals as goal

pub returns : goal.returns
returns c = record { each = each_is_served; once = served_once; order = served_in_order' }
