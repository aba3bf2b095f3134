-- Of the faults in a package's names, two of one kind at one position are equal.
use Rattle.std.proofs.Common.{◌≡◌, ◌⊎◌, inl, inr, ◌∙◌, ℕ, List, Contains, refl, sym, ap}
use Rattle.aadl_tree.specs.Declarations.{PackageTree, package_parts}
use Rattle.aadl_tree.specs.TextTreesAndFaults.{IsTreeOf}
use Rattle.aadl_names.specs.declared.fault.PackageFault.{PackageFault}
use Rattle.aadl_names.specs.declared.fault.PackageFault.TheVariants.{NoRoot, Unknown, Twice, WrongKind, Recursive}
use Rattle.aadl_names.specs.declared.fault.PackageFault.TheVariants.{DeadEnd, TwoSources, TooMany, Memory}
use Rattle.aadl_names.specs.FirstFaults.{place_of, number_of}
use Rattle.aadl_names.specs.PackageNameFaults.{package_faults}
use Rattle.aadl_names.proofs.RisingPlaces.{places_rise}
use Rattle.design_laws.proofs.PlacedNames.{Rise}
use Rattle.design_laws.proofs.FaultCoverageRules.{IsWrongKind, Covered, covered_append}
use Rattle.design_laws.proofs.PossibleNameFaults.{possible}
use Rattle.design_laws.proofs.CoveredNameFaults.{wrong_covered}
use Rattle.design_laws.proofs.CoveredDuplicates.{twice_covered}
use Rattle.design_laws.proofs.DistinctPackageFaultPlaces.{possible_clear}

all_covered : (tree : PackageTree ℕ) (root : ℕ) → Covered (package_faults tree root) (possible tree)
all_covered tree root = covered_append (wrong_covered tree root) (twice_covered tree)

-- places increase along the package of a text
pub rises : (text : List ℕ) (tree : PackageTree ℕ) → IsTreeOf text tree → Rise (package_parts tree)
rises text tree given = record { each = λ p q stands. places_rise text tree given p q stands }

-- a fault of another kind is determined by its position
of_kind : (f : PackageFault) → IsWrongKind f → f ≡ WrongKind (place_of f)
of_kind (WrongKind at) e = refl
of_kind NoRoot e = absurd (cc e)
of_kind (Unknown name at) e = absurd (cc e)
of_kind (Twice name at) e = absurd (cc e)
of_kind (Recursive name at) e = absurd (cc e)
of_kind (DeadEnd name at) e = absurd (cc e)
of_kind (TwoSources name at) e = absurd (cc e)
of_kind (TooMany what) e = absurd (cc e)
of_kind Memory e = absurd (cc e)

both_of_kind : (a b : PackageFault) → IsWrongKind a → IsWrongKind b → place_of a ≡ place_of b → a ≡ b
both_of_kind a b m n place = of_kind a m ∙ ap WrongKind place ∙ sym (of_kind b n)

module _ (tree : PackageTree ℕ) (rise : Rise (package_parts tree)) where
  one_by : (a b : PackageFault) → IsWrongKind a ⊎ Contains (possible tree) a
      → IsWrongKind b ⊎ Contains (possible tree) b
      → place_of a ≡ place_of b → number_of a ≡ number_of b → a ≡ b
  one_by a b (inl e) y place number = both_of_kind a b e (sym number ∙ e) place
  one_by a b (inr h) (inl e) place number = both_of_kind a b (number ∙ e) e place
  one_by a b (inr h) (inr k) place number = (possible_clear tree).single rise a b h k place

  pub one_finding : (root : ℕ) (a b : PackageFault) → Contains (package_faults tree root) a
      → Contains (package_faults tree root) b
      → place_of a ≡ place_of b → number_of a ≡ number_of b → a ≡ b
  one_finding root a b x y place number =
      one_by a b ((all_covered tree root).each a x) ((all_covered tree root).each b y) place number
