-- The faults of the names of a whole package, one list for each sentence of the rules. Duplicate declarations are in a
-- file of their own.
use Rattle.std.specs.Prelude.{ℕ, Bool, true, false, not, ◌&&◌, nat_eq, nat_lt, List, [], ◌∷◌, ◌++◌, map, flat_map}
use Rattle.std.specs.Prelude.{Option, Some, None, slice_get, option_map, find, if◌then◌else◌}
use Rattle.std.specs.List.{list_any, enumerate_from}
use Rattle.aadl_tree.specs.declared.declarations.Category.{Category}
use Rattle.aadl_tree.specs.declared.declarations.Direction.{Direction}
use Rattle.aadl_tree.specs.Names.{Identifier, Reference, same_name, listed_in}
use Rattle.aadl_tree.specs.Annexes.{VariableDeclaration, Guard, dispatch, otherwise, when, Transition, AnnexTree}
use Rattle.aadl_tree.specs.Annexes.{foreign, behaviour, Annex}
use Rattle.aadl_tree.specs.Declarations.{Feature, Subcomponent, ConnectionEnd, Connection, TypeDeclaration}
use Rattle.aadl_tree.specs.Declarations.{Implementation, Declaration, type, implementation, PackageTree}
use Rattle.aadl_tree.specs.Actions.{Block}
use Rattle.aadl_names.specs.declared.fault.PackageFault.{PackageFault}
use Rattle.aadl_names.specs.declared.fault.PackageFault.TheVariants.{Unknown, WrongKind}
use Rattle.aadl_names.specs.DuplicateNames.{wrong_if}
use Rattle.aadl_names.specs.QualifiedNameSpellings.{spelled_name, spelled_reference, spelled_implementation}
use Rattle.aadl_names.specs.QualifiedNameSpellings.{spelled_end}
use Rattle.aadl_names.specs.NameResolution.{type_number, is_system, is_process, is_thread, ports_of, type_of}
use Rattle.aadl_names.specs.NameResolution.{target_of, implementation_in, end_port, with_direction}
use Rattle.aadl_names.specs.RecognisedProperties.{list_faults}
use Rattle.aadl_names.specs.DuplicatesByNamespace.{twice_names}
use Rattle.aadl_names.specs.BehaviourAnnexes.{behaviours, variables_in, variables_of, states_of}
use Rattle.aadl_names.specs.declared.name_roles.Role.{Role}
use Rattle.aadl_names.specs.declared.name_roles.Role.TheVariants.{Receives, Gives, Varies}
use Rattle.aadl_names.specs.declared.numbered_port.NumberedPort.{NumberedPort}
use Rattle.aadl_names.specs.declared.numbered_port.NumberedPort.TheVariants.{Own, Inner}
use Rattle.aadl_names.specs.NameUseFaults.{NameRoles, either, expression_uses, block_uses}
use Rattle.aadl_tree.specs.declared.declarations.Category.TheVariants as categories
use Rattle.aadl_tree.specs.declared.declarations.Direction.TheVariants as directions
use Rattle.aadl_names.specs.declared.recognised_properties.PropertyHolder.TheVariants as holders

-- ---- annexes
abbrev pub role_in : Direction → Role
role_in directions.In = Receives
role_in directions.Out = Gives

-- whether a name is one of these
abbrev pub is_among : List (Identifier ℕ) → List ℕ → Bool
is_among words = λ name. list_any (λ x. same_name name x.spelling) words

-- what the names of ports, and of variables, stand for
abbrev pub port_roles : List (Feature ℕ) → NameRoles
port_roles ports = λ name. option_map (λ p. role_in p.direction) (find (λ p. same_name name p.name.spelling) ports)

abbrev pub variable_roles : List (Identifier ℕ) → NameRoles
variable_roles variables = λ name. if is_among variables name then Some Varies else None

-- the declarations of a type precede the declarations of an implementation if the type precedes it
abbrev pub comes_first : Option (TypeDeclaration ℕ) → Implementation ℕ → Bool
comes_first None x = true
comes_first (Some t) x = nat_lt t.at x.at

abbrev pub in_order : Bool → NameRoles → NameRoles → NameRoles
in_order first a b = if first then either a b else either b a

abbrev pub known_in : PackageTree ℕ → Implementation ℕ → AnnexTree ℕ → NameRoles
known_in tree x annex =
    in_order (comes_first (type_of tree x) x) (port_roles (ports_of tree x)) (variable_roles (variables_of annex))

abbrev pub state_uses : (List ℕ → Bool) → Identifier ℕ → List PackageFault
state_uses is_state x = if is_state x.spelling then [] else Unknown x.spelling x.at ∷ []

abbrev pub guard_uses : NameRoles → Option (Guard ℕ) → List PackageFault
guard_uses known None = []
guard_uses known (Some dispatch) = []
guard_uses known (Some otherwise) = []
guard_uses known (Some (when e)) = expression_uses known e

abbrev pub effect_uses : NameRoles → Option (Block ℕ) → List PackageFault
effect_uses known None = []
effect_uses known (Some x) = block_uses known x

abbrev pub transition_uses : (List ℕ → Bool) → NameRoles → Transition ℕ → List PackageFault
transition_uses is_state known x =
    state_uses is_state x.source ++ state_uses is_state x.target ++ guard_uses known x.guard
    ++ effect_uses known x.effect

unfoldable pub behaviour_faults : PackageTree ℕ → Implementation ℕ → AnnexTree ℕ → List PackageFault
behaviour_faults tree x annex =
    flat_map (transition_uses (is_among (states_of annex)) (known_in tree x annex)) (listed_in annex.transitions)

-- the annexes of a thread's implementation: the first behaviour counts, and each later one is too many
abbrev pub annex_faults : PackageTree ℕ → Implementation ℕ → List (ℕ × AnnexTree ℕ) → List PackageFault
annex_faults tree x [] = []
annex_faults tree x (b ∷ bs) =
    if is_thread x.category then behaviour_faults tree x b.1 ++ map (λ c. WrongKind c.0) bs
    else map (λ c. WrongKind c.0) (b ∷ bs)

abbrev pub variable_faults : VariableDeclaration ℕ → List PackageFault
variable_faults x = list_faults holders.Variable x.properties

-- of the variables in an annex
abbrev pub variables_faults : Annex ℕ → List PackageFault
variables_faults x = flat_map variable_faults (variables_in x)

-- a behaviour at a position where none is allowed
abbrev pub stray_faults : Annex ℕ → List PackageFault
stray_faults x =
    elim x.content as (λ _. List PackageFault) [ foreign bytes ↦ [] | behaviour tree ↦ WrongKind x.at ∷ [] ]

-- ---- subcomponents
abbrev pub may_contain : Category → Category → Bool
may_contain categories.System inside = not (is_thread inside)
may_contain categories.Process inside = is_thread inside
may_contain categories.Thread inside = false

abbrev pub same_category : Category → Category → Bool
same_category categories.System other = is_system other
same_category categories.Process other = is_process other
same_category categories.Thread other = is_thread other

-- the position of a reference is the position of its first word
abbrev pub reference_at : Reference ℕ → ℕ
reference_at x = elim x.qualifiers as (λ _. ℕ) [ [] ↦ x.type_name.at | y ∷ ys ↦ y.at ]

abbrev pub unknown_reference : Reference ℕ → List PackageFault
unknown_reference x = Unknown (spelled_reference x) (reference_at x) ∷ []

abbrev pub target_faults : Subcomponent ℕ → Option (Implementation ℕ) → List PackageFault
target_faults sub None = unknown_reference sub.classifier
target_faults sub (Some target) = wrong_if (not (same_category target.category sub.category)) sub.name.at

abbrev pub names_faults : PackageTree ℕ → Subcomponent ℕ → Option (Identifier ℕ) → List PackageFault
names_faults tree sub None = WrongKind sub.name.at ∷ []
names_faults tree sub (Some i) = target_faults sub (target_of tree sub)

abbrev pub subcomponent_faults : PackageTree ℕ → Category → Subcomponent ℕ → List PackageFault
subcomponent_faults tree outer sub =
    wrong_if (not (may_contain outer sub.category)) sub.name.at ++ names_faults tree sub sub.classifier.implementation
    ++ list_faults (holders.Subcomponent sub.category) sub.properties

-- ---- connections
abbrev pub is_own : Option (NumberedPort × Option Direction) → Bool
is_own None = false
is_own (Some (Own p, direction)) = true
is_own (Some (Inner s p, direction)) = false

abbrev pub goes_in : Option Direction → Bool
goes_in None = false
goes_in (Some directions.In) = true
goes_in (Some directions.Out) = false

-- a connection goes out of an own in port or an out port of a subcomponent
abbrev pub may_leave : NumberedPort × Option Direction → Bool
may_leave (Own p, direction) = goes_in direction
may_leave (Inner s p, direction) = not (goes_in direction)

-- and into any other one that is declared
abbrev pub may_enter : NumberedPort × Option Direction → Bool
may_enter port = not (may_leave port)

abbrev pub unknown_end : ConnectionEnd ℕ → List PackageFault
unknown_end end = Unknown (spelled_end end) end.first.at ∷ []

abbrev pub end_faults : (NumberedPort × Option Direction → Bool) → ConnectionEnd ℕ → ℕ
    → Option (NumberedPort × Option Direction) → List PackageFault
end_faults may end at None = unknown_end end
end_faults may end at (Some port) = wrong_if (not (may port)) at

-- the port that an end names, and which way it goes
abbrev pub directed_end_port : PackageTree ℕ → Implementation ℕ → ConnectionEnd ℕ
    → Option (NumberedPort × Option Direction)
directed_end_port tree x end = option_map (with_direction tree x) (end_port tree x end)

-- of a connection that joins these ports
abbrev pub joined_faults : Connection ℕ → Option (NumberedPort × Option Direction)
    → Option (NumberedPort × Option Direction)
    → List PackageFault
joined_faults c source target =
    end_faults may_leave c.source c.name.at source
    ++ end_faults may_enter c.target c.name.at target
    ++ wrong_if (is_own source && is_own target) c.name.at
    ++ list_faults holders.Connection c.properties

abbrev pub connection_faults : PackageTree ℕ → Implementation ℕ → Connection ℕ → List PackageFault
connection_faults tree x c = joined_faults c (directed_end_port tree x c.source) (directed_end_port tree x c.target)

-- ---- declarations
abbrev pub has_type : Category → Option (TypeDeclaration ℕ) → Bool
has_type category None = false
has_type category (Some t) = same_category t.category category

-- the name at the end, and the type
abbrev pub heading_faults : PackageTree ℕ → Implementation ℕ → List PackageFault
heading_faults tree x =
    wrong_if (not (same_name (spelled_implementation x.end_name) (spelled_implementation x.name)))
    x.end_name.component_type.at
    ++ wrong_if (not (has_type x.category (type_of tree x))) x.at

-- all but what a behaviour does with names
abbrev pub outer_faults : PackageTree ℕ → Bool → Implementation ℕ → List PackageFault
outer_faults tree of_root x =
    heading_faults tree x
    ++ flat_map (subcomponent_faults tree x.category) x.subcomponents
    ++ flat_map (connection_faults tree x) x.connections
    ++ list_faults (holders.Declaration x.category of_root) x.properties
    ++ flat_map variables_faults x.annexes

abbrev pub implementation_faults : PackageTree ℕ → Bool → Implementation ℕ → List PackageFault
implementation_faults tree of_root x = outer_faults tree of_root x ++ annex_faults tree x (behaviours x.annexes)

abbrev pub port_faults : Feature ℕ → List PackageFault
port_faults p = list_faults holders.Port p.properties

abbrev pub type_faults : Bool → TypeDeclaration ℕ → List PackageFault
type_faults of_root x =
    wrong_if (not (same_name x.end_name.spelling x.name.spelling)) x.end_name.at
    ++ flat_map port_faults x.features
    ++ list_faults (holders.Declaration x.category of_root) x.properties
    ++ flat_map stray_faults x.annexes
    ++ flat_map variables_faults x.annexes

abbrev pub is_same_number : Option ℕ → ℕ → Bool
is_same_number None n = false
is_same_number (Some m) n = nat_eq m n

-- the number of the root's type
abbrev pub root_type : PackageTree ℕ → Option (Implementation ℕ) → Option ℕ
root_type tree None = None
root_type tree (Some x) = type_number tree x

abbrev pub declaration_faults : PackageTree ℕ → ℕ → ℕ × Declaration ℕ → List PackageFault
declaration_faults tree root (n, type x) =
    type_faults (is_same_number (root_type tree (implementation_in (slice_get tree.declarations root))) n) x
declaration_faults tree root (n, implementation x) = implementation_faults tree (nat_eq root n) x

-- what is wrong, with the number of the root's implementation
unfoldable pub wrong_names : PackageTree ℕ → ℕ → List PackageFault
wrong_names tree root =
    wrong_if (not (same_name (spelled_name tree.end_name) (spelled_name tree.name))) tree.end_name.first.at
    ++ flat_map (declaration_faults tree root) (enumerate_from 0 tree.declarations)

-- all of it
abbrev pub package_faults : PackageTree ℕ → ℕ → List PackageFault
package_faults tree root = wrong_names tree root ++ twice_names tree
