-- The declarations of a package, and the declarations that its references name. Declarations, subcomponents,
-- connections and ports are numbered in the text's order; if a name is declared twice, a use means the first.
use Rattle.std.specs.Prelude.{ℕ, Bool, true, false, ◌&&◌, ◌||◌, List, [], ◌∷◌, ◌++◌, Option, Some, None, slice_get}
use Rattle.std.specs.Prelude.{codes, if◌then◌else◌, option_map}
use Rattle.std.specs.List.{position_from}
use Rattle.std.specs.Option.{option_and_then}
use Rattle.aadl_tree.specs.declared.declarations.Category.{Category}
use Rattle.aadl_tree.specs.declared.declarations.Direction.{Direction}
use Rattle.aadl_tree.specs.Names.{Identifier, Reference, same_name}
use Rattle.aadl_tree.specs.Declarations.{Feature, Subcomponent, ConnectionEnd, Connection, TypeDeclaration}
use Rattle.aadl_tree.specs.Declarations.{Implementation, Declaration, type, implementation, PackageTree}
use Rattle.aadl_names.specs.declared.numbered_port.NumberedPort.{NumberedPort}
use Rattle.aadl_names.specs.declared.numbered_port.NumberedPort.TheVariants.{Own, Inner}
use Rattle.aadl_names.specs.QualifiedNameSpellings.{spelled_implementation}
use Rattle.aadl_tree.specs.declared.declarations.Category.TheVariants as categories

-- the number of the first that passes the test
abbrev pub first_number : {X : Type 0} → (X → Bool) → List X → Option ℕ
first_number test xs = position_from test 0 xs

abbrev pub is_type : List ℕ → Declaration ℕ → Bool
is_type name (type x) = same_name name x.name.spelling
is_type name (implementation x) = false

abbrev pub is_implementation : List ℕ → Declaration ℕ → Bool
is_implementation name (type x) = false
is_implementation name (implementation x) = same_name name (spelled_implementation x.name)

abbrev pub is_system : Category → Bool
is_system categories.System = true
is_system categories.Process = false
is_system categories.Thread = false

abbrev pub is_process : Category → Bool
is_process categories.System = false
is_process categories.Process = true
is_process categories.Thread = false

abbrev pub is_thread : Category → Bool
is_thread categories.System = false
is_thread categories.Process = false
is_thread categories.Thread = true

-- the root is a system
abbrev pub is_root : List ℕ → Declaration ℕ → Bool
is_root name (type x) = false
is_root name (implementation x) = is_system x.category && same_name name (spelled_implementation x.name)

abbrev pub root_number : PackageTree ℕ → List ℕ → Option ℕ
root_number tree name = first_number (is_root name) tree.declarations

-- ---- elements by number
abbrev pub type_in : Option (Declaration ℕ) → Option (TypeDeclaration ℕ)
type_in None = None
type_in (Some (type x)) = Some x
type_in (Some (implementation x)) = None

abbrev pub implementation_in : Option (Declaration ℕ) → Option (Implementation ℕ)
implementation_in None = None
implementation_in (Some (type x)) = None
implementation_in (Some (implementation x)) = Some x

abbrev pub implementation_at : PackageTree ℕ → ℕ → Option (Implementation ℕ)
implementation_at tree n = implementation_in (slice_get tree.declarations n)

-- ---- the parts of a type or an implementation, if there is one
abbrev pub features_of : Option (TypeDeclaration ℕ) → List (Feature ℕ)
features_of None = []
features_of (Some x) = x.features

abbrev pub subcomponents_of : Option (Implementation ℕ) → List (Subcomponent ℕ)
subcomponents_of None = []
subcomponents_of (Some x) = x.subcomponents

abbrev pub connections_of : Option (Implementation ℕ) → List (Connection ℕ)
connections_of None = []
connections_of (Some x) = x.connections

-- the type of a number
abbrev pub type_numbered : PackageTree ℕ → Option ℕ → Option (TypeDeclaration ℕ)
type_numbered tree number = option_and_then (λ n. type_in (slice_get tree.declarations n)) number

-- the number of an implementation's type: of the first that has the name before the point
abbrev pub type_number : PackageTree ℕ → Implementation ℕ → Option ℕ
type_number tree x = first_number (is_type x.name.component_type.spelling) tree.declarations

abbrev pub type_of : PackageTree ℕ → Implementation ℕ → Option (TypeDeclaration ℕ)
type_of tree x = type_numbered tree (type_number tree x)

abbrev pub ports_of : PackageTree ℕ → Implementation ℕ → List (Feature ℕ)
ports_of tree x = features_of (type_of tree x)

-- the ports of an implementation, if there is one
abbrev pub ports_at : PackageTree ℕ → Option (Implementation ℕ) → List (Feature ℕ)
ports_at tree x = features_of (type_numbered tree (option_and_then (type_number tree) x))

-- ---- references: `T.i`, or `P::T.i` with P the package's name
abbrev pub same_words : List (Identifier ℕ) → List (Identifier ℕ) → Bool
same_words [] [] = true
same_words [] (y ∷ ys) = false
same_words (x ∷ xs) [] = false
same_words (x ∷ xs) (y ∷ ys) = same_name x.spelling y.spelling && same_words xs ys

abbrev pub is_empty : List (Identifier ℕ) → Bool
is_empty [] = true
is_empty (x ∷ xs) = false

-- a reference to this package has no qualifiers, or the package's name
abbrev pub is_of : PackageTree ℕ → Reference ℕ → Bool
is_of tree x = is_empty x.qualifiers || same_words x.qualifiers (tree.name.first ∷ tree.name.rest)

abbrev pub named_by : PackageTree ℕ → Reference ℕ → Option (Identifier ℕ) → Option ℕ
named_by tree x None = None
named_by tree x (Some i) =
    if is_of tree x then first_number (is_implementation (x.type_name.spelling ++ codes "." ++ i.spelling))
    tree.declarations else None

-- the number of the implementation that a reference names
unfoldable pub referred : PackageTree ℕ → Reference ℕ → Option ℕ
referred tree x = named_by tree x x.implementation

abbrev pub target_of : PackageTree ℕ → Subcomponent ℕ → Option (Implementation ℕ)
target_of tree sub = option_and_then (implementation_at tree) (referred tree sub.classifier)

-- ---- ends of connections
abbrev pub port_named : List (Feature ℕ) → List ℕ → Option ℕ
port_named ports name = first_number (λ p. same_name name p.name.spelling) ports

abbrev pub sub_named : List (Subcomponent ℕ) → List ℕ → Option ℕ
sub_named subs name = first_number (λ s. same_name name s.name.spelling) subs

-- the ports of a subcomponent, by its number
abbrev pub inner_ports : PackageTree ℕ → Implementation ℕ → ℕ → List (Feature ℕ)
inner_ports tree x s = ports_at tree (option_and_then (target_of tree) (slice_get x.subcomponents s))

abbrev pub inner_end_port : PackageTree ℕ → Implementation ℕ → List ℕ → ℕ → Option NumberedPort
inner_end_port tree x port s = option_map (Inner s) (port_named (inner_ports tree x s) port)

abbrev pub end_port_by : PackageTree ℕ → Implementation ℕ → Identifier ℕ → Option (Identifier ℕ) → Option NumberedPort
end_port_by tree x first None = option_map Own (port_named (ports_of tree x) first.spelling)
end_port_by tree x first (Some port) =
    option_and_then (inner_end_port tree x port.spelling) (sub_named x.subcomponents first.spelling)

-- the port that an end names, if it is declared
unfoldable pub end_port : PackageTree ℕ → Implementation ℕ → ConnectionEnd ℕ → Option NumberedPort
end_port tree x end = end_port_by tree x end.first end.second

abbrev pub direction_in : List (Feature ℕ) → ℕ → Option Direction
direction_in ports n = option_map (λ p. p.direction) (slice_get ports n)

abbrev pub direction_of : PackageTree ℕ → Implementation ℕ → NumberedPort → Option Direction
direction_of tree x (Own p) = direction_in (ports_of tree x) p
direction_of tree x (Inner s p) = direction_in (inner_ports tree x s) p

abbrev pub with_direction : PackageTree ℕ → Implementation ℕ → NumberedPort → NumberedPort × Option Direction
with_direction tree x s = (s, direction_of tree x s)
