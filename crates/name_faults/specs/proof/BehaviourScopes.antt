-- The roles of names, from two tables and the variables of loops.
use Rattle.std.specs.Prelude.{ℕ, Bool, List, Some, None, if◌then◌else◌}
use Rattle.aadl_tree.specs.Names.{same_name}
use Rattle.std.specs.List.{list_any}
use Rattle.aadl_names.specs.declared.name_roles.Role.{Role}
use Rattle.aadl_names.specs.declared.name_roles.Role.TheVariants.{Turns}
use Rattle.aadl_names.specs.NameUseFaults.{NameRoles, either}
use Rattle.aadl_names.specs.proof.NameTables.{value_of}
use Rattle.name_faults.specs.proof.ConditionalValues.{is_marked}

-- ports and variables, in the order of precedence, and the variables of loops, the outermost first
pub record ScopeTables : Type 0 where
  pub first : List (List ℕ × Role)
  pub second : List (List ℕ × Role)
  pub loops : List (List ℕ)

abbrev pub loop_roles : List (List ℕ) → NameRoles
loop_roles loops = λ name. if list_any (λ variable. same_name name variable) loops then Some Turns else None

abbrev pub known_by : ScopeTables → NameRoles
known_by scope = either (either (value_of scope.first) (value_of scope.second)) (loop_roles scope.loops)

-- the state with a name, by a table of states
abbrev pub is_state_by : {V : Type 0} → List (List ℕ × V) → List ℕ → Bool
is_state_by states = λ name. is_marked (value_of states name)
