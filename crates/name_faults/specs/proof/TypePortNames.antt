-- The tables of the port names of one type, and of all types.
use Rattle.std.specs.Prelude.{◌≡◌, ℕ, List, Option, Some, None, slice_index_or}
use Rattle.aadl_tree.specs.Declarations.{Feature, PackageTree}
use Rattle.aadl_names.specs.declared.name_roles.Role.{Role}
use Rattle.aadl_names.specs.proof.NameTables.{value_of}
use Rattle.aadl_names.specs.proof.FirstFaultSoFar.{found}
use Rattle.aadl_names.specs.DuplicateNames.{twice}
use Rattle.aadl_names.specs.DuplicatesByNamespace.{port_entries}
use Rattle.aadl_names.specs.proof.EarliestDeclarations.{earliest}
use Rattle.aadl_names.specs.NameResolution.{features_of, type_numbered}
use Rattle.aadl_names.specs.PackageNameFaults.{port_roles}
use Rattle.name_faults.specs.declared.port_name_tables.PortNames.{PortNames}
use Rattle.name_faults.specs.declared.port_name_tables.AllPortNames.{AllPortNames}

-- a table with the role of each name among the ports
abbrev pub HasRolesOf : List (Feature ℕ) → List (List ℕ × Role) → Type 0
HasRolesOf ports roles = (name : List ℕ) → value_of roles name ≡ port_roles ports name

-- these are the names of the ports
pub record AreNamesOf (ports : List (Feature ℕ)) (names : PortNames) : Type 0 where
  pub roles : HasRolesOf ports names.roles
  pub earliest : (name : List ℕ) → value_of names.earliest name ≡ earliest name 0 (port_entries ports)
  pub again : names.again ≡ found None (twice (port_entries ports))

abbrev pub names_at : AllPortNames → Option ℕ → PortNames
names_at all None = all.none
names_at all (Some number) = slice_index_or all.of_declarations number all.none

-- the port names of each type, by its number; no names without a type
pub record AreAllNamesOf (tree : PackageTree ℕ) (all : AllPortNames) : Type 0 where
  pub each : (number : Option ℕ) → AreNamesOf (features_of (type_numbered tree number)) (names_at all number)
