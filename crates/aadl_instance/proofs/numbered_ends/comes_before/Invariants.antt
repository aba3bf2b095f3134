use Rattle.std.proofs.Common.{◌≡◌, ◌≤◌, drop, length}
use Rattle.aadl_uses.specs.ThreadsBelow.{path_before}
use Rattle.aadl_instance.proofs.numbered_ends.comes_before.Given as goal

-- the remaining elements determine the result
abbrev pub invariant-loop-at : goal.invariant-loop-at
invariant-loop-at l =
    (path_before (drop l.at l.path) (drop l.at l.other) ≡ path_before l.path l.other) × (l.at ≤ length l.path)
