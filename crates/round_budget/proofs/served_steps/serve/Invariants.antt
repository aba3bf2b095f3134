use Rattle.std.proofs.Common.{◌≡◌, ◌+◌, ◌*◌, ◌≤◌, ◌++◌, map, drop}
use Rattle.pals_base.specs.declared.limits.TheConstants.{HOUR}
use Rattle.round_budget.specs.Budgets.{serve, by_most, line_from}
use Rattle.round_budget.specs.proof.ReleaseAndLineValues.{release_value, line_value}
use Rattle.round_budget.proofs.served_steps.serve.Given as goal

-- with the rest they are all
abbrev pub invariant-loop-release : goal.invariant-loop-release
invariant-loop-release l = record {
  all :
      map line_value l.lines.items
      ++ map (line_from l.fn.start)
      (serve (λ x. l.nanos * by_most l.codes x) l.free (map release_value (drop l.release-index l.releases)))
      ≡ map (line_from l.fn.start) (serve (λ x. l.nanos * by_most l.codes x) 0 (map release_value l.releases));
  small : l.free ≤ 2 * HOUR + l.release-index * HOUR;
}
