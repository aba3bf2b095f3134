-- The comparisons of names that are declared twice among the ports of a type and other declarations: enough to find the
-- first fault.
use Rattle.std.specs.Prelude.{◌||◌, nat_lt, ℕ, List, [], ◌∷◌, ◌++◌, flat_map, Option, Some, None, slice_get}
use Rattle.std.specs.Prelude.{if◌then◌else◌}
use Rattle.std.specs.List.{filter_map}
use Rattle.aadl_tree.specs.Annexes.{AnnexTree}
use Rattle.aadl_tree.specs.Declarations.{Implementation, Declaration, type, implementation, PackageTree}
use Rattle.aadl_names.specs.declared.fault.PackageFault.{PackageFault}
use Rattle.aadl_names.specs.declared.fault.PackageFault.TheVariants.{Twice}
use Rattle.aadl_names.specs.declared.declared_name.SpelledName.{SpelledName}
use Rattle.aadl_names.specs.declared.numbered_place.NumberedPlace.{NumberedPlace}
use Rattle.aadl_names.specs.proof.FirstFaultSoFar.{found, as_list}
use Rattle.aadl_names.specs.DuplicateNames.{twice}
use Rattle.aadl_names.specs.proof.EarliestDeclarations.{earliest, is_before}
use Rattle.aadl_names.specs.NameResolution.{is_thread, ports_of}
use Rattle.aadl_names.specs.BehaviourAnnexes.{behaviours, first_behaviour}
use Rattle.aadl_names.specs.DuplicatesByNamespace.{port_entries, variable_entries, state_entries, member_entries}
use Rattle.aadl_names.specs.DuplicatesByNamespace.{type_entry, implementation_entry}

abbrev pub entry_again : Option SpelledName → List PackageFault
entry_again None = []
entry_again (Some x) = Twice x.name x.at ∷ []

-- at a declaration by the earliest port of its name, and the earliest other declaration of its name
abbrev pub again_beside : Option NumberedPlace → Option NumberedPlace → SpelledName → List PackageFault
again_beside port other x = if is_before port x.at || is_before other x.at then Twice x.name x.at ∷ [] else []

-- at the earliest port of its name, if that follows the declaration
abbrev pub port_again : List SpelledName → Option NumberedPlace → SpelledName → List PackageFault
port_again ports None x = []
port_again ports (Some port) x = if nat_lt x.at port.at then entry_again (slice_get ports port.number) else []

abbrev pub beside_one : List SpelledName → Option NumberedPlace → Option NumberedPlace → SpelledName → List PackageFault
beside_one ports port other x = again_beside port other x ++ port_again ports port x

abbrev pub beside_each : List SpelledName → List SpelledName → SpelledName → List PackageFault
beside_each ports others x = beside_one ports (earliest x.name 0 ports) (earliest x.name 0 others) x

unfoldable pub beside : List SpelledName → List SpelledName → List PackageFault
beside ports others = as_list (found None (twice ports)) ++ flat_map (beside_each ports others) others

abbrev pub beside_in_behaviour : PackageTree ℕ → Implementation ℕ → AnnexTree ℕ → List PackageFault
beside_in_behaviour tree x annex =
    beside (port_entries (ports_of tree x)) (variable_entries annex) ++ twice (state_entries annex)

abbrev pub beside_in_some : PackageTree ℕ → Implementation ℕ → Option (AnnexTree ℕ) → List PackageFault
beside_in_some tree x None = []
beside_in_some tree x (Some annex) = if is_thread x.category then beside_in_behaviour tree x annex else []

abbrev pub beside_in_first : PackageTree ℕ → Implementation ℕ → List (ℕ × AnnexTree ℕ) → List PackageFault
beside_in_first tree x bs = beside_in_some tree x (first_behaviour bs)

abbrev pub beside_in_implementation : PackageTree ℕ → Implementation ℕ → List PackageFault
beside_in_implementation tree x =
    beside (port_entries (ports_of tree x)) (member_entries x) ++ beside_in_first tree x (behaviours x.annexes)

abbrev pub beside_in : PackageTree ℕ → Declaration ℕ → List PackageFault
beside_in tree (type x) = []
beside_in tree (implementation x) = beside_in_implementation tree x

unfoldable pub beside_names : PackageTree ℕ → List PackageFault
beside_names tree =
    twice (filter_map type_entry tree.declarations) ++ twice (filter_map implementation_entry tree.declarations)
    ++ flat_map (beside_in tree) tree.declarations
