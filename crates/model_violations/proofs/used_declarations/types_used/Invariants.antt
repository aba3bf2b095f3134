use Rattle.std.proofs.Common.{◌≡◌, ℕ, take}
use Rattle.std.specs.List.{list_any, enumerate_from}
use Rattle.aadl_tree.specs.proof.PackageViews.{placed}
use Rattle.model_violations.specs.UsedDeclarations.{has, uses_type}
use Rattle.model_violations.proofs.used_declarations.types_used.Given as goal

abbrev pub invariant-loop-number : goal.invariant-loop-number
invariant-loop-number l =
    (n : ℕ) → has l.types.keys n
    ≡ list_any (uses_type (placed l.uses.names.tree.now) (has l.used.keys) n)
    (enumerate_from 0 (take l.number (placed l.uses.names.tree.now).declarations))
