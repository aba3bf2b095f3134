-- The lists of paths in a table: from each declaration to the marked ones below it.
use Rattle.std.specs.Prelude.{◌≡◌, ℕ, Bool, List, [], Some, Contains, slice_index_or}
use Rattle.aadl_uses.specs.proof.ContainmentGraphs.{Graph, below_in}
use Rattle.aadl_uses.specs.proof.MarkedPathCounts.{IsMarkedAt}
use Rattle.aadl_uses.specs.proof.OrderedLists.{AreListed}
use Rattle.aadl_uses.specs.ThreadsBelow.{path_before}

abbrev pub paths_from : List (List (List ℕ)) → ℕ → List (List ℕ)
paths_from paths n = slice_index_or paths n []

-- the declarations that a declaration of the list contains are in the list
abbrev pub IsClosed : Graph → List ℕ → Type 0
IsClosed g used = (n s m : ℕ) → Contains used n → below_in g n s ≡ Some m → Contains used m

-- the table has the paths from the declarations that this one contains
abbrev pub AreKnown : Graph → List Bool → List (List (List ℕ)) → ℕ → Type 0
AreKnown g marks paths n =
    (s m : ℕ) → below_in g n s ≡ Some m → AreListed (IsMarkedAt g marks m) path_before (paths_from paths m)
