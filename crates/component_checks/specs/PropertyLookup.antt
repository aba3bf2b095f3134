-- The look-up of properties.
use Rattle.std.specs.Prelude.{◌-◌, List, [], ◌∷◌, ◌++◌, length, reverse, flat_map, Option, Some, None, slice_get, ℕ}
use Rattle.std.specs.Option.{option_and_then, option_or}
use Rattle.aadl_tree.specs.Values.{Association, Associations}
use Rattle.aadl_tree.specs.Declarations.{Subcomponent, TypeDeclaration, Implementation, PackageTree}
use Rattle.aadl_names.specs.declared.recognised_properties.PropertyName.{PropertyName}
use Rattle.aadl_names.specs.RecognisedProperties.{name_of, association_named}
use Rattle.aadl_names.specs.NameResolution.{implementation_at, subcomponents_of, type_of, target_of}
use Rattle.aadl_uses.specs.declared.thread_locations.SubAt.{SubAt}

abbrev pub type_lists : Option (TypeDeclaration ℕ) → List (Associations ℕ)
type_lists None = []
type_lists (Some x) = x.properties ∷ []

-- at an implementation, then at its type
abbrev pub own_lists : PackageTree ℕ → Option (Implementation ℕ) → List (Associations ℕ)
own_lists tree None = []
own_lists tree (Some x) = x.properties ∷ type_lists (type_of tree x)

-- at a subcomponent, then at its implementation, then at its type
abbrev pub sub_lists : PackageTree ℕ → Option (Subcomponent ℕ) → List (Associations ℕ)
sub_lists tree None = []
sub_lists tree (Some x) = x.properties ∷ own_lists tree (target_of tree x)

abbrev pub sub_of : PackageTree ℕ → SubAt → Option (Subcomponent ℕ)
sub_of tree s = slice_get (subcomponents_of (implementation_at tree s.declaration)) s.sub

abbrev pub lists_at : PackageTree ℕ → SubAt → List (Associations ℕ)
lists_at tree s = sub_lists tree (sub_of tree s)

abbrev pub root_lists : PackageTree ℕ → ℕ → List (Associations ℕ)
root_lists tree root = own_lists tree (implementation_at tree root)

-- at the subcomponents on the path from the root to a component, the innermost first, and last at the root
abbrev pub lists_along : PackageTree ℕ → ℕ → List SubAt → List (Associations ℕ)
lists_along tree root subs = flat_map (lists_at tree) (reverse subs) ++ root_lists tree root

-- the component's own subcomponent
abbrev pub innermost : PackageTree ℕ → List SubAt → Option (Subcomponent ℕ)
innermost tree subs = option_and_then (sub_of tree) (slice_get subs (length subs - 1))

-- the first association of a property in several lists
abbrev pub first_in : PropertyName → List (Associations ℕ) → Option (Association ℕ)
first_in p [] = None
first_in p (xs ∷ rest) = option_or (association_named xs (name_of p)) (first_in p rest)
