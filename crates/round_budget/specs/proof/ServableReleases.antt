-- Releases that can be served.
use Rattle.std.specs.Prelude.{ℕ, ◌*◌, ◌<◌, ◌≤◌, List, length}
use Rattle.pals_base.specs.declared.limits.TheConstants.{HOUR}
use Rattle.step_code.specs.declared.instr.CodeParts.{CodeParts}
use Rattle.round_budget.specs.Budgets.{by_most}
use Rattle.round_budget.specs.Budgets as budgets

-- it has a code, is at the start or later and within two hours, and takes an hour at most
pub record CanServe (codes : List CodeParts) (nanos start : ℕ) (x : budgets.Release) : Type 0 where
  pub code : x.node < length codes
  pub late : start ≤ x.time
  pub soon : x.time ≤ 2 * HOUR
  pub short : nanos * by_most codes x ≤ HOUR
