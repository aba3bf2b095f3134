-- The names of properties without meaning at their position, in the whole package.
use Rattle.std.specs.Prelude.{ℕ, nat_eq, Bool, false, not, ◌&&◌, List, [], ◌∷◌, ◌++◌, flat_map, Option, Some, None}
use Rattle.std.specs.Prelude.{if◌then◌else◌}
use Rattle.aadl_tree.specs.Names.{same_name}
use Rattle.std.specs.List.{list_any, enumerate_from}
use Rattle.std.specs.Option.{option_and_then}
use Rattle.aadl_tree.specs.Values.{Association, Associations}
use Rattle.aadl_tree.specs.Annexes.{VariableDeclaration, Annex}
use Rattle.aadl_tree.specs.Declarations.{Feature, Subcomponent, Connection, TypeDeclaration, Implementation}
use Rattle.aadl_tree.specs.Declarations.{Declaration, type, implementation, PackageTree}
use Rattle.aadl_names.specs.declared.recognised_properties.PropertyHolder.{PropertyHolder}
use Rattle.aadl_names.specs.BehaviourAnnexes.{variables_in}
use Rattle.aadl_names.specs.RecognisedProperties.{listed, counts, is_named, name_of, recognised, association_name}
use Rattle.aadl_names.specs.NameResolution.{implementation_at, type_number}
use Rattle.aadl_names.specs.declared.recognised_properties.PropertyHolder.TheVariants as holders

-- the property applies elsewhere, or is not recognised at such a holder
abbrev pub is_ignored : PropertyHolder → Association ℕ → Bool
is_ignored holder x = not (counts x && list_any (λ p. is_named (name_of p) x) (recognised holder))

abbrev pub association_ignored : PropertyHolder → Association ℕ → List (List ℕ)
association_ignored holder x = if is_ignored holder x then association_name x ∷ [] else []

abbrev pub ignored_in : PropertyHolder → Associations ℕ → List (List ℕ)
ignored_in holder xs = flat_map (association_ignored holder) (listed xs)

-- ---- in the order of the text
abbrev pub variable_ignored : VariableDeclaration ℕ → List (List ℕ)
variable_ignored v = ignored_in holders.Variable v.properties

abbrev pub annex_ignored : Annex ℕ → List (List ℕ)
annex_ignored x = flat_map variable_ignored (variables_in x)

abbrev pub port_ignored : Feature ℕ → List (List ℕ)
port_ignored x = ignored_in holders.Port x.properties

abbrev pub sub_ignored : Subcomponent ℕ → List (List ℕ)
sub_ignored x = ignored_in (holders.Subcomponent x.category) x.properties

abbrev pub connection_ignored : Connection ℕ → List (List ℕ)
connection_ignored x = ignored_in holders.Connection x.properties

abbrev pub type_ignored : Bool → TypeDeclaration ℕ → List (List ℕ)
type_ignored of_root x =
    flat_map port_ignored x.features ++ ignored_in (holders.Declaration x.category of_root) x.properties
    ++ flat_map annex_ignored x.annexes

abbrev pub implementation_ignored : Bool → Implementation ℕ → List (List ℕ)
implementation_ignored of_root x =
    flat_map sub_ignored x.subcomponents ++ flat_map connection_ignored x.connections
    ++ ignored_in (holders.Declaration x.category of_root) x.properties
    ++ flat_map annex_ignored x.annexes

-- ---- a declaration by its number, for the numbers of the root's implementation and type
abbrev pub is_number : ℕ → Option ℕ → Bool
is_number n None = false
is_number n (Some m) = nat_eq n m

abbrev pub declaration_ignored : ℕ → Option ℕ → ℕ × Declaration ℕ → List (List ℕ)
declaration_ignored root root_type (n, type x) = type_ignored (is_number n root_type) x
declaration_ignored root root_type (n, implementation x) = implementation_ignored (nat_eq n root) x

abbrev pub root_type : PackageTree ℕ → ℕ → Option ℕ
root_type tree root = option_and_then (type_number tree) (implementation_at tree root)

abbrev pub is_root_type : PackageTree ℕ → ℕ → ℕ → Bool
is_root_type tree root n = is_number n (root_type tree root)

-- ---- each name once, in its first spelling
abbrev pub behind : List (List ℕ) → List ℕ → List (List ℕ)
behind names x = if list_any (same_name x) names then names else names ++ x ∷ []

abbrev pub all_behind : List (List ℕ) → List (List ℕ) → List (List ℕ)
all_behind names [] = names
all_behind names (x ∷ xs) = all_behind (behind names x) xs

abbrev pub ignored_names : PackageTree ℕ → ℕ → List (List ℕ)
ignored_names tree root =
    all_behind [] (flat_map (declaration_ignored root (root_type tree root)) (enumerate_from 0 tree.declarations))
