use Rattle.std.proofs.Common.{◌≡◌}
use Rattle.world_texts.proofs.RingSumsAndCodes.{sum_first}
use Rattle.world_texts.proofs.ring_result.sum_of_numbers.Given as goal

-- the sum of the first numbers
abbrev pub invariant-loop-node : goal.invariant-loop-node
invariant-loop-node l = l.sum ≡ sum_first l.nodes l.rounds l.node
