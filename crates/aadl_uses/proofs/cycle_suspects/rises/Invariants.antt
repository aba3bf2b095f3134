use Rattle.std.proofs.Common.{◌≡◌, ◌<◌, ℕ, false}
use Rattle.std.specs.List.{list_any}
use Rattle.aadl_uses.specs.proof.ContainmentGraphs.{targets_in}
use Rattle.aadl_uses.specs.proof.RecursionSuspects.{is_above, level_in}
use Rattle.aadl_uses.proofs.cycle_suspects.rises.Given as goal

abbrev pub invariant-loop-number : goal.invariant-loop-number
invariant-loop-number l =
    (n : ℕ) → n < l.number → list_any (is_above l.levels (level_in l.levels n)) (targets_in l.graph n) ≡ false
