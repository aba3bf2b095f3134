use Rattle.std.proofs.Common.{subst}
use Rattle.std.specs.List.Sorted.{IsStableBy}
use Rattle.model_violations.specs.Violations.{goes_before}
use Rattle.model_violations.proofs.all_violations.violations.Goals as goal

pub returns : goal.returns
returns c =
    let all = c.in_ok-found.ensures in
    record {
      used = all.used;
      is_use = all.is_use;
      in_order = c.in_ok-list.ensures.sorted;
      same = subst (λ found. IsStableBy goes_before found c.in_ok-list.list) all.all c.in_ok-list.ensures.same;
    }
