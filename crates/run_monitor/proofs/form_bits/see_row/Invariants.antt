use Rattle.std.proofs.Common.{◌≡◌, length}
use Rattle.run_monitor.specs.proof.FormBits.{row_of, row_bit}
use Rattle.run_monitor.proofs.BitWrites.{Stay, Seen}
use Rattle.run_monitor.proofs.form_bits.see_row.Given as goal

-- the bits before a place are seen, and the others are as they were
abbrev pub invariant-loop-at : goal.invariant-loop-at
invariant-loop-at l = record {
  len : length l.bits ≡ length l.forms;
  seen : Seen (λ e. row_bit e (row_of l.parts)) l.forms l.bits l.fn.bits l.at;
  stay : Stay l.bits l.fn.bits l.at;
}
