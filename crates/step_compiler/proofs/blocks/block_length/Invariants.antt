use Rattle.std.proofs.Common.{◌≡◌, ◌≤◌, ◌+◌, ◌-◌, ◌^◌, drop, nat_eq}
use Rattle.std.specs.Prelude.{filter}
use Rattle.step_code.specs.CappedWeights.{capped}
use Rattle.step_code.specs.CodeLengths.{length_edges}
use Rattle.step_compiler.proofs.blocks.block_length.Given as goal

abbrev pub invariant-loop-transition : goal.invariant-loop-transition
invariant-loop-transition l = record {
  sum : capped (l.length + length_edges (filter (λ e. nat_eq e.source l.state) (drop l.transition-index l.transitions)))
      ≡ capped (length_edges (filter (λ e. nat_eq e.source l.state) l.transitions));
  most : l.length ≤ 2 ^ 64 - 1;
}
