-- The first of several faults of a package: the one at the smallest place, and at one place the one of the lower
-- number.
use Rattle.std.specs.Prelude.{◌≡◌, ℕ, Bool, false, ◌&&◌, ◌||◌, nat_eq, nat_lt, ◌<◌, List, [], Contains, Option, Some}
use Rattle.std.specs.Prelude.{None}
use Rattle.aadl_names.specs.declared.fault.PackageFault.{PackageFault}
use Rattle.aadl_names.specs.declared.fault.PackageFault.TheVariants.{NoRoot, Unknown, Twice, WrongKind, Recursive}
use Rattle.aadl_names.specs.declared.fault.PackageFault.TheVariants.{DeadEnd, TwoSources, TooMany, Memory}

abbrev pub number_of : PackageFault → ℕ
number_of NoRoot = 1
number_of (Unknown name at) = 2
number_of (Twice name at) = 3
number_of (WrongKind at) = 4
number_of (Recursive name at) = 5
number_of (DeadEnd name at) = 6
number_of (TwoSources name at) = 7
number_of (TooMany what) = 8
number_of Memory = 9

abbrev pub place_of : PackageFault → ℕ
place_of NoRoot = 0
place_of (Unknown name at) = at
place_of (Twice name at) = at
place_of (WrongKind at) = at
place_of (Recursive name at) = at
place_of (DeadEnd name at) = at
place_of (TwoSources name at) = at
place_of (TooMany what) = 0
place_of Memory = 0

abbrev pub precedes : PackageFault → PackageFault → Bool
precedes a b =
    nat_lt (place_of a) (place_of b) || (nat_eq (place_of a) (place_of b) && nat_lt (number_of a) (number_of b))

-- it is found, and nothing that is found precedes it
pub record IsFirst (Found : PackageFault → Type 0) (fault : PackageFault) : Type 0 where
  pub found : Found fault
  pub first : (other : PackageFault) → Found other → precedes other fault ≡ false

-- the first of a list; `None` if the list is empty
abbrev pub FirstOf : List PackageFault → Option PackageFault → Type 0
FirstOf faults None = faults ≡ []
FirstOf faults (Some fault) = IsFirst (Contains faults) fault

-- the first fault by lines: of the first line in which something is found
pub record IsFirstByLine (Found : ℕ → PackageFault → Type 0) (fault : PackageFault) : Type 0 where
  pub line : ℕ
  pub here : IsFirst (Found line) fault
  pub none_before : (earlier : ℕ) (other : PackageFault) → earlier < line → Found earlier other → ⊥
