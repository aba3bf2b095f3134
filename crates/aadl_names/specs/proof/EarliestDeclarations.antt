-- The earliest of the declarations of a name.
use Rattle.std.specs.Prelude.{ℕ, ◌+◌, Bool, true, false, nat_lt, List, [], ◌∷◌, Option, Some, None, if◌then◌else◌}
use Rattle.aadl_tree.specs.Names.{same_name}
use Rattle.aadl_names.specs.declared.fault.PackageFault.{PackageFault}
use Rattle.aadl_names.specs.declared.fault.PackageFault.TheVariants.{Twice}
use Rattle.aadl_names.specs.declared.declared_name.SpelledName.{SpelledName}
use Rattle.aadl_names.specs.declared.numbered_place.NumberedPlace.{NumberedPlace}

-- the declaration that precedes the other; if both are at one place, the first
abbrev pub sooner : Option NumberedPlace → Option NumberedPlace → Option NumberedPlace
sooner None b = b
sooner (Some a) None = Some a
sooner (Some a) (Some b) = if nat_lt b.at a.at then Some b else Some a

abbrev pub is_sooner : NumberedPlace → Option NumberedPlace → Bool
is_sooner spot None = true
is_sooner spot (Some other) = nat_lt spot.at other.at

-- the earliest declaration of a name, where numbers begin with n
abbrev pub earliest : List ℕ → ℕ → List SpelledName → Option NumberedPlace
earliest name n [] = None
earliest name n (x ∷ xs) =
    sooner (if same_name name x.name then Some (record { number = n; at = x.at }) else None) (earliest name (n + 1) xs)

abbrev pub is_before : Option NumberedPlace → ℕ → Bool
is_before None at = false
is_before (Some spot) at = nat_lt spot.at at

-- the finding at a declaration, by the earliest one of its name
abbrev pub again_by : Option NumberedPlace → SpelledName → List PackageFault
again_by spot x = if is_before spot x.at then Twice x.name x.at ∷ [] else []
