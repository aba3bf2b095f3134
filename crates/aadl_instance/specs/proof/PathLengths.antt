-- The weights of the names on a path: the length of each in bytes and one for its dot; and whether the maximum weight
-- exceeds the limit of paths.
use Rattle.std.specs.Prelude.{ℕ, ◌+◌, nat_lt, Bool, false, List, map, length, Option, Some, None}
use Rattle.pals_base.specs.declared.limits.TheConstants.{PATH_BYTES}
use Rattle.aadl_tree.specs.Declarations.{Subcomponent, Declaration, PackageTree}
use Rattle.aadl_names.specs.NameResolution.{implementation_in, subcomponents_of}

-- a name with the dot before it
abbrev pub weight_of : Subcomponent ℕ → ℕ
weight_of sub = length sub.name.spelling + 1

abbrev pub weights_in : Declaration ℕ → List ℕ
weights_in d = map weight_of (subcomponents_of (implementation_in (Some d)))

abbrev pub name_weights : PackageTree ℕ → List (List ℕ)
name_weights tree = map weights_in tree.declarations

-- above the maximum length and a dot
abbrev pub is_over : Option ℕ → Bool
is_over None = false
is_over (Some weight) = nat_lt (PATH_BYTES + 1) weight
