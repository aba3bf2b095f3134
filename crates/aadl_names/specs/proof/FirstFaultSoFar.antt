-- The first fault so far, and what more faults make of it.
use Rattle.std.specs.Prelude.{ℕ, Bool, true, ◌&&◌, ◌||◌, nat_eq, nat_lt, List, [], ◌∷◌, Option, Some, None}
use Rattle.std.specs.Prelude.{if◌then◌else◌}
use Rattle.aadl_names.specs.declared.fault.PackageFault.{PackageFault}
use Rattle.aadl_names.specs.FirstFaults.{place_of, number_of, precedes}

-- a finding of this place and number precedes the earlier findings
abbrev pub comes_first : ℕ → ℕ → Option PackageFault → Bool
comes_first at number None = true
comes_first at number (Some first) =
    nat_lt at (place_of first) || (nat_eq at (place_of first) && nat_lt number (number_of first))

-- the first of the earlier findings and one more finding; if neither precedes the other, the earlier one
abbrev pub earlier : Option PackageFault → PackageFault → Option PackageFault
earlier None fault = Some fault
earlier (Some first) fault = if precedes fault first then Some fault else Some first

-- the first of the earlier findings and more findings
abbrev pub found : Option PackageFault → List PackageFault → Option PackageFault
found first [] = first
found first (fault ∷ faults) = found (earlier first fault) faults

-- the finding, as a list
abbrev pub as_list : Option PackageFault → List PackageFault
as_list None = []
as_list (Some fault) = fault ∷ []
