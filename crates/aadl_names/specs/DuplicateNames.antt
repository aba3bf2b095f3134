-- What is declared twice among some declarations, and the fault that it is.
use Rattle.std.specs.Prelude.{◌&&◌, nat_lt, List, [], ◌∷◌, flat_map, if◌then◌else◌, ℕ, Bool}
use Rattle.aadl_tree.specs.Names.{same_name, Identifier}
use Rattle.std.specs.List.{list_any}
use Rattle.aadl_names.specs.declared.fault.PackageFault.{PackageFault}
use Rattle.aadl_names.specs.declared.fault.PackageFault.TheVariants.{Twice, WrongKind}
use Rattle.aadl_names.specs.declared.declared_name.SpelledName.{SpelledName}

-- each declaration that has the name of an earlier one in the text
abbrev pub again : List SpelledName → SpelledName → List PackageFault
again xs x = if list_any (λ y. same_name x.name y.name && nat_lt y.at x.at) xs then Twice x.name x.at ∷ [] else []

abbrev pub twice : List SpelledName → List PackageFault
twice xs = flat_map (again xs) xs

-- something of another kind is due at a place, where it is wrong
abbrev pub wrong_if : Bool → ℕ → List PackageFault
wrong_if wrong at = if wrong then WrongKind at ∷ [] else []

abbrev pub entry_of : Identifier ℕ → SpelledName
entry_of x = record { name = x.spelling; at = x.at }
