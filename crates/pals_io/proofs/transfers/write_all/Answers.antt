use Rattle.std.proofs.Common.{◌-◌, length, drop, take, arith}
use Rattle.std.proofs.lemmas.Grind.{common_steps}
use Rattle.pals_io.proofs.RepeatedTransfers.{after_taking-more}
use Rattle.pals_io.proofs.transfers.write_all.Goals as goal

pub loop-done-preserved : goal.loop-done-preserved
loop-done-preserved g c = record {
  within = grind (arith, common_steps);
  taken =
      after_taking-more _ _ _ c.args.bytes.now
      (take (length c.args.bytes.now - c.loop-done.done) (drop c.loop-done.done c.args.bytes.now)) c.loop-done.done _
      c.loop-done.invariant.taken c.in_ok-done.ensures.taken (grind (arith, common_steps));
  untouched = grind (arith, common_steps);
}
