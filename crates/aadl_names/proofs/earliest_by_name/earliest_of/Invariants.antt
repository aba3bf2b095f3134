use Rattle.std.proofs.Common.{◌≡◌, ℕ, List, drop}
use Rattle.aadl_names.specs.proof.NameTables.{value_of}
use Rattle.aadl_names.specs.proof.EarliestDeclarations.{sooner, earliest}
use Rattle.aadl_names.proofs.earliest_by_name.earliest_of.Given as goal

-- the remaining entries may have the earliest one
abbrev pub invariant-loop-number : goal.invariant-loop-number
invariant-loop-number l =
    (name : List ℕ) → sooner (value_of l.table name) (earliest name l.number (drop l.number l.entries))
    ≡ earliest name 0 l.entries
