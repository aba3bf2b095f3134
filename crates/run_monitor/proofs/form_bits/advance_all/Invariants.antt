use Rattle.std.proofs.Common.{◌≡◌, length}
use Rattle.run_monitor.proofs.BitWrites.{Stay, Advanced}
use Rattle.run_monitor.proofs.form_bits.advance_all.Given as goal

-- the bits before an index belong to the next round, and the others are unchanged
abbrev pub invariant-loop-at : goal.invariant-loop-at
invariant-loop-at l = record {
  len : length l.bits ≡ length l.forms;
  done : Advanced l.begun l.kept l.forms l.bits l.fn.bits l.at;
  stay : Stay l.bits l.fn.bits l.at;
}
