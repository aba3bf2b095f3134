-- If the list of all violations is empty, there are no findings.
use Rattle.std.proofs.Common.{◌≡◌, ℕ, Bool, true, List, [], ◌∷◌, refl, arith}
use Rattle.std.specs.List.Sorted.{IsStableBy, ties}
use Rattle.std.proofs.lemmas.Bool.Decides.{nat_tests}
use Rattle.aadl_tree.specs.Declarations.{PackageTree}
use Rattle.annex_resolve.specs.declared.violation.Violation.{Violation}
use Rattle.model_violations.specs.Violations.{ShownInstance, findings, goes_before, AreViolations}
use Rattle.design_laws.specs.proof.AcceptedInstances.{NothingFound}

none_stable : {X : Type 0} (lt : X → X → Bool) → ((x : X) → ties lt x x ≡ true) → (xs : List X)
    → IsStableBy lt xs [] → xs ≡ []
none_stable lt itself [] same = refl
none_stable lt itself (x ∷ xs) same = let first = rw (itself x) at (same x) in absurd (cc first)

ties_itself : (x : Violation) → ties goes_before x x ≡ true
ties_itself x = grind (arith, nat_tests)

pub nothing_found : (tree : PackageTree ℕ) (s : ShownInstance) → AreViolations tree s [] → NothingFound tree s
nothing_found tree s none = record {
  used = none.used;
  is_use = none.is_use;
  none = none_stable goes_before ties_itself
      (findings tree s none.used) none.same;
}
