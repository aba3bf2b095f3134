-- The duplicate declarations of a package, one list for each namespace. Duplicates within a list of properties are
-- with the properties.
use Rattle.std.specs.Prelude.{ℕ, List, [], ◌∷◌, ◌++◌, map, flat_map, Option, Some, None, if◌then◌else◌}
use Rattle.std.specs.List.{filter_map}
use Rattle.aadl_tree.specs.Annexes.{AnnexTree}
use Rattle.aadl_tree.specs.Declarations.{Feature, Implementation, Declaration, type, implementation, PackageTree}
use Rattle.aadl_names.specs.declared.fault.PackageFault.{PackageFault}
use Rattle.aadl_names.specs.declared.declared_name.SpelledName.{SpelledName}
use Rattle.aadl_names.specs.QualifiedNameSpellings.{spelled_implementation}
use Rattle.aadl_names.specs.DuplicateNames.{entry_of, twice}
use Rattle.aadl_names.specs.NameResolution.{is_thread, ports_of}
use Rattle.aadl_names.specs.BehaviourAnnexes.{behaviours, variables_of, states_of}

abbrev pub port_entries : List (Feature ℕ) → List SpelledName
port_entries ports = map (λ p. entry_of p.name) ports

-- ---- two of one name among ports and variables, and among states
abbrev pub variable_entries : AnnexTree ℕ → List SpelledName
variable_entries annex = map entry_of (variables_of annex)

abbrev pub state_entries : AnnexTree ℕ → List SpelledName
state_entries annex = map entry_of (states_of annex)

abbrev pub twice_in_behaviour : PackageTree ℕ → Implementation ℕ → AnnexTree ℕ → List PackageFault
twice_in_behaviour tree x annex =
    twice (port_entries (ports_of tree x) ++ variable_entries annex) ++ twice (state_entries annex)

-- of a thread's implementation the first behaviour counts
abbrev pub twice_in_first : PackageTree ℕ → Implementation ℕ → List (ℕ × AnnexTree ℕ) → List PackageFault
twice_in_first tree x [] = []
twice_in_first tree x (b ∷ bs) = if is_thread x.category then twice_in_behaviour tree x b.1 else []

-- ---- two of one name among the ports, subcomponents and connections of one implementation
abbrev pub member_entries : Implementation ℕ → List SpelledName
member_entries x = map (λ s. entry_of s.name) x.subcomponents ++ map (λ c. entry_of c.name) x.connections

abbrev pub twice_in : PackageTree ℕ → Declaration ℕ → List PackageFault
twice_in tree (type x) = []
twice_in tree (implementation x) =
    twice (port_entries (ports_of tree x) ++ member_entries x) ++ twice_in_first tree x (behaviours x.annexes)

-- ---- two types, or two implementations, of one name
abbrev pub type_entry : Declaration ℕ → Option SpelledName
type_entry (type x) = Some (record { name = x.name.spelling; at = x.at })
type_entry (implementation x) = None

abbrev pub implementation_entry : Declaration ℕ → Option SpelledName
implementation_entry (type x) = None
implementation_entry (implementation x) = Some (record { name = spelled_implementation x.name; at = x.at })

unfoldable pub twice_names : PackageTree ℕ → List PackageFault
twice_names tree =
    twice (filter_map type_entry tree.declarations) ++ twice (filter_map implementation_entry tree.declarations)
    ++ flat_map (twice_in tree) tree.declarations
