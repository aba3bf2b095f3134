-- The first subcomponent that leads back to the declaration that contains it.
use Rattle.std.proofs.Common.{◌≡◌, ℕ, length, Option, Some, None, refl, sym, arith, ◌∙◌}
use Rattle.std.proofs.lemmas.List.{length-map}
use Rattle.std.proofs.lemmas.Option.{none-some, same_Some, slice_get_within}
use Rattle.aadl_tree.specs.Declarations.{Subcomponent, PackageTree}
use Rattle.aadl_names.specs.declared.fault.PackageFault.{PackageFault}
use Rattle.aadl_names.specs.declared.fault.PackageFault.TheVariants.{Recursive}
use Rattle.aadl_names.specs.NameResolution.{implementation_at, subcomponents_of}
use Rattle.aadl_uses.specs.ContainmentAndUse.{sub_at}
use Rattle.aadl_uses.specs.Recursion.{IsRecursive}
use Rattle.aadl_uses.specs.proof.PackageContainment.{containment, targets_in}
use Rattle.aadl_uses.specs.proof.FirstRecursion.{FirstIn}
use Rattle.aadl_uses.proofs.PackageContainment.{within}
use Rattle.aadl_uses.proofs.FirstRecursion.{leads_back_from, closes_from}
use Rattle.aadl_uses.specs.proof.ContainmentGraphs.{LeadsBack}
use Rattle.aadl_uses.proofs.RecursionSuspects.{declared}
use Rattle.design_laws.proofs.ReachedDeclarations.{leads_back}
use Rattle.design_laws.proofs.FaultSearches.{Finds, none_found, alike_found, found_if, Below, found_below, first_in}

-- the fault of a subcomponent, from its numbers
abbrev LeadsBackAt : PackageTree ℕ → ℕ → ℕ → PackageFault → Type 0
LeadsBackAt tree n s fault =
    (sub : Subcomponent ℕ) × (sub_at tree n s ≡ Some sub) × LeadsBack (containment tree) n s
    × (fault ≡ Recursive sub.name.spelling sub.name.at)

by_sub : (tree : PackageTree ℕ) (n s : ℕ) (old : Option PackageFault) (o : Option (Subcomponent ℕ))
    → sub_at tree n s ≡ o → Finds (LeadsBackAt tree n s) old
by_sub tree n s old None e = none_found (LeadsBackAt tree n s) old (λ f h. none-some h.0 (sym e ∙ h.1))
by_sub tree n s old (Some sub) e =
    alike_found (λ f. LeadsBack (containment tree) n s × (f ≡ Recursive sub.name.spelling sub.name.at))
    (LeadsBackAt tree n s) old
    (λ f h. (sub, e, h.0, h.1)) (λ f h. (h.2, h.3 ∙ same h.0 (h.1)))
    (found_if (LeadsBack (containment tree) n s) (Recursive sub.name.spelling sub.name.at) old
    (leads_back (containment tree) n s (within tree)))
  where
    same : (x : Subcomponent ℕ) → sub_at tree n s ≡ Some x
        → Recursive x.name.spelling x.name.at ≡ Recursive sub.name.spelling sub.name.at
    same x f = let g : x ≡ sub = same_Some x sub (sym f ∙ e) in λ i. Recursive (g i).name.spelling (g i).name.at

at_sub : (tree : PackageTree ℕ) (n s : ℕ) (old : Option PackageFault) → Finds (LeadsBackAt tree n s) old
at_sub tree n s old = by_sub tree n s old (sub_at tree n s) refl

in_declaration : (tree : PackageTree ℕ) (n : ℕ) (old : Option PackageFault)
    → Finds (Below (LeadsBackAt tree n) (length (subcomponents_of (implementation_at tree n)))) old
in_declaration tree n old =
    found_below (LeadsBackAt tree n) (at_sub tree n) (length (subcomponents_of (implementation_at tree n))) old

abbrev LeadsBackIn : PackageTree ℕ → ℕ → PackageFault → Type 0
LeadsBackIn tree n = Below (LeadsBackAt tree n) (length (subcomponents_of (implementation_at tree n)))

to_recursive : (tree : PackageTree ℕ) (fault : PackageFault) → Below (LeadsBackIn tree) (length tree.declarations) fault
    → IsRecursive tree fault
to_recursive tree fault (n, lt, (s, less, (sub, is, back, e))) = (sub, closes_from tree n s sub is back, e)

from_recursive : (tree : PackageTree ℕ) (fault : PackageFault) → IsRecursive tree fault
    → Below (LeadsBackIn tree) (length tree.declarations) fault
from_recursive tree fault (sub, c, e) =
    let back = leads_back_from tree sub c in
    let lt = declared (containment tree) c.within c.number back.0 back.1 in
    let same = length-map tree.declarations (targets_in tree) in (
      c.within,
      omega arith,
      (
        c.number,
        slice_get_within (subcomponents_of (implementation_at tree c.within)) c.number sub c.is_sub,
        (sub, c.is_sub, back, e),
      ),
    )

pub first_recursive : (tree : PackageTree ℕ) → (o : Option PackageFault) × FirstIn (IsRecursive tree) o
first_recursive tree =
    first_in (IsRecursive tree)
    (alike_found (Below (LeadsBackIn tree) (length tree.declarations)) (IsRecursive tree) None (to_recursive tree)
    (from_recursive tree)
    (found_below (LeadsBackIn tree) (in_declaration tree) (length tree.declarations) None))
