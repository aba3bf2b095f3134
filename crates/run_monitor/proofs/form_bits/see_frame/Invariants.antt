use Rattle.std.proofs.Common.{◌≡◌, length}
use Rattle.run_monitor.specs.proof.FormBits.{seen_bit}
use Rattle.run_monitor.proofs.BitWrites.{Stay, Seen}
use Rattle.run_monitor.proofs.form_bits.see_frame.Given as goal

-- the bits before a place are seen, and the others are as they were
abbrev pub invariant-loop-at : goal.invariant-loop-at
invariant-loop-at l = record {
  len : length l.bits ≡ length l.forms;
  seen : Seen (λ e. seen_bit e l.node.0 l.frame) l.forms l.bits l.fn.bits l.at;
  stay : Stay l.bits l.fn.bits l.at;
}
