use Rattle.std.proofs.Common.{◌≡◌, ◌≤◌, ◌+◌, ◌-◌, ◌^◌, drop}
use Rattle.step_code.specs.CappedWeights.{capped}
use Rattle.step_compiler.specs.proof.BlockLengthsAndStarts.{start_in}
use Rattle.step_compiler.proofs.blocks.start_in.Given as goal

abbrev pub invariant-loop-earlier : goal.invariant-loop-earlier
invariant-loop-earlier l = record {
  sum : capped (l.place + start_in l.lengths (drop l.earlier-index l.order) l.state)
      ≡ capped (start_in l.lengths l.order l.state);
  most : l.place ≤ 2 ^ 64 - 1;
}
