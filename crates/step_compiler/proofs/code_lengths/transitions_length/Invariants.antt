use Rattle.std.proofs.Common.{◌≡◌, ◌≤◌, ◌+◌, ◌-◌, ◌^◌, drop}
use Rattle.step_code.specs.CappedWeights.{capped}
use Rattle.step_code.specs.CodeLengths.{length_edges}
use Rattle.step_compiler.proofs.code_lengths.transitions_length.Given as goal

abbrev pub invariant-loop-transition : goal.invariant-loop-transition
invariant-loop-transition l =
    record {
      sum : capped (l.length + length_edges (drop l.transition-index l.transitions))
          ≡ capped (length_edges l.transitions);
      most : l.length ≤ 2 ^ 64 - 1;
    }
