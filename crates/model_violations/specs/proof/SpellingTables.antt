-- A table with the names of a list and no others, without regard to case.
use Rattle.std.specs.Prelude.{◌≡◌, ℕ, List}
use Rattle.aadl_tree.specs.Names.{same_name}
use Rattle.std.specs.List.{list_any}
use Rattle.std.specs.Option.{is_some}
use Rattle.aadl_names.specs.proof.NameTables.{value_of}

-- a table has the names of a list
abbrev pub KnowsAll : List (List ℕ × ℕ) → List (List ℕ) → Type 0
KnowsAll table names = (name : List ℕ) → is_some (value_of table name) ≡ list_any (same_name name) names
