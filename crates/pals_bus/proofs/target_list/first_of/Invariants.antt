use Rattle.pals_bus.proofs.LeastTargets.{IsFirstOf}
use Rattle.pals_bus.proofs.target_list.first_of.Given as goal

-- no target so far is less
abbrev pub invariant-loop-at : goal.invariant-loop-at
invariant-loop-at l = IsFirstOf l.targets l.at l.first
