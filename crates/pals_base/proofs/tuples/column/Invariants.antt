use Rattle.std.proofs.Common.{◌≡◌, ◌++◌, drop}
use Rattle.pals_base.specs.Tuples.{column}
use Rattle.pals_base.proofs.tuples.column.Given as goal

-- the places so far, and the places of the remaining tuples
abbrev pub invariant-loop-tuple : goal.invariant-loop-tuple
invariant-loop-tuple l = l.places ++ column l.at (drop l.tuple-index l.tuples) ≡ column l.at l.tuples
