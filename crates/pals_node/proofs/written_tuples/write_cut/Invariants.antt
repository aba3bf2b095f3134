use Rattle.std.proofs.Common.{◌≡◌, length, take}
use Rattle.pals_base.specs.Tuples.{cut}
use Rattle.pals_node.proofs.written_tuples.write_cut.Given as goal

-- the first places are written
abbrev pub invariant-loop-at : goal.invariant-loop-at
invariant-loop-at l = record {
  len : length l.to ≡ length l.from;
  done : take l.at l.to ≡ take l.at (cut l.count l.from);
}
