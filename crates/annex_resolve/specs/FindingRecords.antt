-- A violation by its rule, position and details, and a violation under a condition.
use Rattle.std.specs.Prelude.{ℕ, Bool, List, [], ◌∷◌, if◌then◌else◌}
use Rattle.annex_resolve.specs.declared.violation.Violation.{Violation}

abbrev pub finding : ℕ → ℕ → List ℕ → Violation
finding at number details = record { at = at; number = number; details = details }

abbrev pub found_if : Bool → ℕ → ℕ → List ℕ → List Violation
found_if wrong at number details = if wrong then finding at number details ∷ [] else []
