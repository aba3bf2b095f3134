use Rattle.std.proofs.Common.{◌≡◌, ◌≤◌, ◌+◌, ◌-◌, ◌^◌, drop, nat_eq}
use Rattle.std.specs.Prelude.{filter}
use Rattle.step_code.specs.CappedWeights.{capped}
use Rattle.step_compiler.specs.BlockInstructions.{dispatch_offset}
use Rattle.step_compiler.proofs.blocks.dispatch_offset.Given as goal

abbrev pub invariant-loop-transition : goal.invariant-loop-transition
invariant-loop-transition l = record {
  sum : capped (l.offset + dispatch_offset
      (filter (λ e. nat_eq e.source l.state) (drop l.transition-index l.transitions)))
      ≡ capped (dispatch_offset (filter (λ e. nat_eq e.source l.state) l.transitions));
  most : l.offset ≤ 2 ^ 64 - 1;
}
