use Rattle.std.proofs.Common.{◌≡◌, ◌<◌, ℕ}
use Rattle.std.specs.Prelude.{None}
use Rattle.bundle_designs.specs.Bundles.{divided_at}
use Rattle.bundle_designs.proofs.bundle.split.Given as goal

-- no line so far is the divider
abbrev pub invariant-loop-at : goal.invariant-loop-at
invariant-loop-at l = (before : ℕ) → before < l.at → divided_at l.bundle before ≡ None
