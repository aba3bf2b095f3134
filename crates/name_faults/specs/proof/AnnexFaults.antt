-- Findings at annexes, one by one: the faults of the first behaviour of a thread, and every other behaviour as one
-- too many.
use Rattle.std.specs.Prelude.{ℕ, Bool, false, List, [], ◌∷◌, ◌++◌, map, if◌then◌else◌}
use Rattle.aadl_tree.specs.Annexes.{AnnexTree, foreign, behaviour, Annex}
use Rattle.aadl_tree.specs.Declarations.{Implementation, PackageTree}
use Rattle.aadl_names.specs.declared.fault.PackageFault.{PackageFault}
use Rattle.aadl_names.specs.declared.fault.PackageFault.TheVariants.{WrongKind}
use Rattle.aadl_names.specs.PackageNameFaults.{behaviour_faults}

abbrev pub annex_uses : PackageTree ℕ → Implementation ℕ → Bool → Annex ℕ → List PackageFault
annex_uses tree x expected annex =
    elim annex.content as (λ _. List PackageFault)
    [ foreign bytes ↦ [] | behaviour b ↦ if expected then behaviour_faults tree x b else WrongKind annex.at ∷ [] ]

abbrev pub still_expected : Bool → Annex ℕ → Bool
still_expected expected annex = elim annex.content as (λ _. Bool) [ foreign bytes ↦ expected | behaviour b ↦ false ]

-- the findings of the remaining behaviours
abbrev pub behaviours_left : PackageTree ℕ → Implementation ℕ → Bool → List (ℕ × AnnexTree ℕ) → List PackageFault
behaviours_left tree x expected [] = []
behaviours_left tree x expected (b ∷ bs) =
    if expected then behaviour_faults tree x b.1 ++ map (λ c. WrongKind c.0) bs else map (λ c. WrongKind c.0) (b ∷ bs)
