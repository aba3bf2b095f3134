use Rattle.std.proofs.Common.{◌≡◌, length, take}
use Rattle.pals_node.proofs.job.same_instrs.Given as goal

-- the lists are as long, and have the same instructions so far
abbrev pub invariant-loop-at : goal.invariant-loop-at
invariant-loop-at l = (length l.left ≡ length l.right) × (take l.at l.left ≡ take l.at l.right)
