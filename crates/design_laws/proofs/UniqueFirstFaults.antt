-- A package has at most one first fault: two of them are equal.
use Rattle.std.proofs.Common.{◌≡◌, ◌⊎◌, inl, inr, ◌∙◌, ℕ, ◌<◌, ◌≤◌, nat_eq, cond, List, Option, Some, None, Contains}
use Rattle.std.proofs.Common.{refl, sym, ap, ap₂, subst, arith}
use Rattle.std.specs.Prelude.{slice_get, codes}
use Rattle.std.proofs.lemmas.Bool.{cases_order}
use Rattle.std.proofs.lemmas.Option.{same_Some}
use Rattle.list_lemmas.proofs.ElementPositions.{Contains-from_slice_get}
use Rattle.aadl_tree.specs.Names.{Identifier}
use Rattle.aadl_tree.specs.Declarations.{Subcomponent, Connection, Declaration, type, implementation, PackageTree}
use Rattle.aadl_tree.specs.Declarations.{package_parts}
use Rattle.aadl_names.specs.declared.fault.PackageFault.{PackageFault}
use Rattle.aadl_names.specs.declared.fault.PackageFault.TheVariants.{Twice, Recursive, DeadEnd, TwoSources, TooMany}
use Rattle.aadl_names.specs.FirstFaults.{place_of, number_of, IsFirstByLine}
use Rattle.aadl_names.specs.NameResolution.{implementation_in, subcomponents_of, connections_of}
use Rattle.aadl_uses.specs.Recursion.{IsRecursive}
use Rattle.aadl_chains.specs.ChainFaults.{IsEndFault}
use Rattle.aadl_instance.specs.Faults.{IsOver, FoundIn, Found, IsFault}
use Rattle.aadl_instance.proofs.FirstFaultUniqueness.{one_by_line}
use Rattle.design_laws.proofs.PlacedNames.{Rise}
use Rattle.design_laws.proofs.PossibleNameFaults.{possible}
use Rattle.design_laws.proofs.DistinctPackageFaultPlaces.{possible_clear}
use Rattle.design_laws.proofs.CoveredDuplicates.{again_of, in_package, subcomponent_has, connection_has}
use Rattle.design_laws.proofs.FaultsAtOnePlace.{one_finding}

-- ---- limits: the line names the exceeded limit
what_at : ℕ → List ℕ
what_at line =
    cond (nat_eq line 5) (codes "components")
    (cond (nat_eq line 6) (codes "links") (cond (nat_eq line 7) (codes "ports")
    (cond (nat_eq line 8) (codes "variables") (cond (nat_eq line 9) (codes "states") (codes "path")))))

over_what : (tree : PackageTree ℕ) (root line : ℕ) (what : List ℕ) → IsOver tree root line what → what ≡ what_at line
unfolding what_at
over_what tree root line what (inl h) = h.1 ∙ ap what_at (sym h.0)
over_what tree root line what (inr (inl h)) = h.1 ∙ ap what_at (sym h.0)
over_what tree root line what (inr (inr (inl h))) = h.1 ∙ ap what_at (sym h.0)
over_what tree root line what (inr (inr (inr (inl h)))) = h.1 ∙ ap what_at (sym h.0)
over_what tree root line what (inr (inr (inr (inr (inl h))))) = h.1 ∙ ap what_at (sym h.0)
over_what tree root line what (inr (inr (inr (inr (inr h))))) = h.1 ∙ ap what_at (sym h.0)

at_least : (low high line : ℕ) → low ≤ high → line ≡ high → low ≤ line
at_least low high line less e = subst (λ n. low ≤ n) (sym e) less

over_line : (tree : PackageTree ℕ) (root line : ℕ) (what : List ℕ) → IsOver tree root line what → 5 ≤ line
over_line tree root line what (inl h) = at_least 5 5 line (omega arith) h.0
over_line tree root line what (inr (inl h)) = at_least 5 6 line (omega arith) h.0
over_line tree root line what (inr (inr (inl h))) = at_least 5 7 line (omega arith) h.0
over_line tree root line what (inr (inr (inr (inl h)))) = at_least 5 8 line (omega arith) h.0
over_line tree root line what (inr (inr (inr (inr (inl h))))) = at_least 5 9 line (omega arith) h.0
over_line tree root line what (inr (inr (inr (inr (inr h))))) = at_least 5 10 line (omega arith) h.0

-- ---- lines are distinct
two_three : (line : ℕ) → line ≡ 2 → line ≡ 3 → ⊥
two_three line e d = omega (arith, e, d)

two_four : (line : ℕ) → line ≡ 2 → line ≡ 4 → ⊥
two_four line e d = omega (arith, e, d)

three_four : (line : ℕ) → line ≡ 3 → line ≡ 4 → ⊥
three_four line e d = omega (arith, e, d)

early_late : (low line : ℕ) → low ≤ 4 → line ≡ low → 5 ≤ line → ⊥
early_late low line less e late = omega (arith, less, e, late)

six_seven : (m n : ℕ) → m ≡ 6 → n ≡ 7 → m ≡ n → ⊥
six_seven m n e d same = omega (arith, e, d, same)

module _ (tree : PackageTree ℕ) (rise : Rise (package_parts tree)) where
  -- ---- the position determines a fault that names a declaration
  same_spelling : (x y : Identifier ℕ) → Contains (possible tree) (again_of x) → Contains (possible tree) (again_of y)
      → x.at ≡ y.at
      → x.spelling ≡ y.spelling
  same_spelling x y h k at =
      let one : Twice x.spelling x.at ≡ Twice y.spelling y.at =
      (possible_clear tree).single rise (again_of x) (again_of y) h k at in
      cc one

  same_named : (kind : List ℕ → ℕ → PackageFault) → ((name : List ℕ) (at : ℕ) → place_of (kind name at) ≡ at)
      → (x y : Identifier ℕ) (a b : PackageFault)
      → Contains (possible tree) (again_of x) → Contains (possible tree) (again_of y) → a ≡ kind x.spelling x.at
      → b ≡ kind y.spelling y.at
      → place_of a ≡ place_of b → a ≡ b
  same_named kind placed x y a b h k is_a is_b place =
      let at : x.at ≡ y.at =
      sym (ap place_of is_a ∙ placed x.spelling x.at) ∙ (place ∙ (ap place_of is_b ∙ placed y.spelling y.at)) in
      is_a ∙ (ap₂ kind (same_spelling x y h k at) at ∙ sym is_b)

  sub_by : (n s : ℕ) (sub : Subcomponent ℕ) (o : Option (Declaration ℕ)) → slice_get tree.declarations n ≡ o
      → slice_get (subcomponents_of (implementation_in o)) s ≡ Some sub → Contains (possible tree) (again_of sub.name)
  sub_by n s sub None e is = absurd (cc is)
  sub_by n s sub (Some (type x)) e is = absurd (cc is)
  sub_by n s sub (Some (implementation x)) e is =
      in_package tree (implementation x) (again_of sub.name)
      (Contains-from_slice_get tree.declarations n (implementation x) e)
      (subcomponent_has tree x sub (Contains-from_slice_get x.subcomponents s sub is))

  connection_by : (n c : ℕ) (link : Connection ℕ) (o : Option (Declaration ℕ)) → slice_get tree.declarations n ≡ o
      → slice_get (connections_of (implementation_in o)) c ≡ Some link → Contains (possible tree) (again_of link.name)
  connection_by n c link None e is = absurd (cc is)
  connection_by n c link (Some (type x)) e is = absurd (cc is)
  connection_by n c link (Some (implementation x)) e is = in_package tree (implementation x) (again_of link.name)
      (Contains-from_slice_get tree.declarations n (implementation x) e)
      (connection_has tree x link (Contains-from_slice_get x.connections c link is))

  one_recursive : (a b : PackageFault) → IsRecursive tree a → IsRecursive tree b → place_of a ≡ place_of b → a ≡ b
  one_recursive a b x y place =
      same_named Recursive (λ name at. refl) x.0.name y.0.name a b
      (sub_by x.1.within x.1.number x.0 (slice_get tree.declarations x.1.within) refl x.1.is_sub)
      (sub_by y.1.within y.1.number y.0 (slice_get tree.declarations y.1.within) refl y.1.is_sub) x.2 y.2 place

  one_end : (root : ℕ) (a b : PackageFault) → IsEndFault tree root a → IsEndFault tree root b → place_of a ≡ place_of b
      → number_of a ≡ number_of b
      → a ≡ b
  one_end root a b (inl x) (inl y) place number =
      same_named DeadEnd (λ name at. refl) x.0.name y.0.name a b
      (connection_by x.1.number x.1.connection x.0 (slice_get tree.declarations x.1.number) refl x.1.is_connection)
      (connection_by y.1.number y.1.connection y.0 (slice_get tree.declarations y.1.number) refl y.1.is_connection)
      x.2 y.2 place
  one_end root a b (inl x) (inr y) place number =
      absurd (six_seven (number_of a) (number_of b) (ap number_of x.2) (ap number_of y.2) number)
  one_end root a b (inr x) (inl y) place number =
      absurd (six_seven (number_of b) (number_of a) (ap number_of y.2) (ap number_of x.2) (sym number))
  one_end root a b (inr x) (inr y) place number =
      same_named TwoSources (λ name at. refl) x.0.name y.0.name a b
      (connection_by x.1.number x.1.connection x.0 (slice_get tree.declarations x.1.number) refl x.1.is_connection)
      (connection_by y.1.number y.1.connection y.0 (slice_get tree.declarations y.1.number) refl y.1.is_connection)
      x.2 y.2 place

  -- ---- the fault of one line
  one_in : (root line : ℕ) (a b : PackageFault) → FoundIn tree root line a → FoundIn tree root line b
      → place_of a ≡ place_of b
      → number_of a ≡ number_of b → a ≡ b
  one_in root line a b (inl x) (inl y) place number = one_finding tree rise root a b x.1 y.1 place number
  one_in root line a b (inr (inl x)) (inr (inl y)) place number = one_recursive a b x.1 y.1 place
  one_in root line a b (inr (inr (inl x))) (inr (inr (inl y))) place number = one_end root a b x.1 y.1 place number
  one_in root line a b (inr (inr (inr x))) (inr (inr (inr y))) place number =
      x.2 ∙ (ap TooMany (over_what tree root line x.0 x.1 ∙ sym (over_what tree root line y.0 y.1)) ∙ sym y.2)
  one_in root line a b (inl x) (inr (inl y)) place number = absurd (two_three line x.0 y.0)
  one_in root line a b (inl x) (inr (inr (inl y))) place number = absurd (two_four line x.0 y.0)
  one_in root line a b (inl x) (inr (inr (inr y))) place number =
      absurd (early_late 2 line (omega arith) x.0 (over_line tree root line y.0 y.1))
  one_in root line a b (inr (inl x)) (inl y) place number = absurd (two_three line y.0 x.0)
  one_in root line a b (inr (inl x)) (inr (inr (inl y))) place number = absurd (three_four line x.0 y.0)
  one_in root line a b (inr (inl x)) (inr (inr (inr y))) place number =
      absurd (early_late 3 line (omega arith) x.0 (over_line tree root line y.0 y.1))
  one_in root line a b (inr (inr (inl x))) (inl y) place number = absurd (two_four line y.0 x.0)
  one_in root line a b (inr (inr (inl x))) (inr (inl y)) place number = absurd (three_four line y.0 x.0)
  one_in root line a b (inr (inr (inl x))) (inr (inr (inr y))) place number =
      absurd (early_late 4 line (omega arith) x.0 (over_line tree root line y.0 y.1))
  one_in root line a b (inr (inr (inr x))) (inl y) place number =
      absurd (early_late 2 line (omega arith) y.0 (over_line tree root line x.0 x.1))
  one_in root line a b (inr (inr (inr x))) (inr (inl y)) place number =
      absurd (early_late 3 line (omega arith) y.0 (over_line tree root line x.0 x.1))
  one_in root line a b (inr (inr (inr x))) (inr (inr (inl y))) place number =
      absurd (early_late 4 line (omega arith) y.0 (over_line tree root line x.0 x.1))

  one_found : (name : List ℕ) (line : ℕ) (a b : PackageFault) → Found tree name line a → Found tree name line b
      → place_of a ≡ place_of b
      → number_of a ≡ number_of b → a ≡ b
  one_found name line a b (inl x) (inl y) place number = x.2 ∙ sym y.2
  one_found name line a b (inl x) (inr y) place number = absurd (cc (sym x.1 ∙ y.1))
  one_found name line a b (inr x) (inl y) place number = absurd (cc (sym y.1 ∙ x.1))
  one_found name line a b (inr x) (inr y) place number =
      let same : x.0 ≡ y.0 = same_Some x.0 y.0 (sym x.1 ∙ y.1) in
      one_in y.0 line a b (subst (λ root. FoundIn tree root line a) same x.2) y.2 place number

-- ---- first faults
line_by : (Found : ℕ → PackageFault → Type 0) (a b : PackageFault) (x : IsFirstByLine Found a)
    (y : IsFirstByLine Found b)
    → (x.line ≡ y.line) ⊎ ((x.line < y.line) ⊎ (y.line < x.line)) → x.line ≡ y.line
line_by Found a b x y (inl e) = e
line_by Found a b x y (inr (inl less)) = absurd (y.none_before x.line a less x.here.found)
line_by Found a b x y (inr (inr less)) = absurd (x.none_before y.line b less y.here.found)

pub one_fault : (tree : PackageTree ℕ) → Rise (package_parts tree) → (name : List ℕ) (a b : PackageFault)
    → IsFault tree name a → IsFault tree name b
    → a ≡ b
one_fault tree rise name a b x y =
    let same = one_by_line (Found tree name) a b x y in
    let line : x.line ≡ y.line = line_by (Found tree name) a b x y (cases_order x.line y.line) in
    one_found tree rise name y.line a b (subst (λ l. Found tree name l a) line x.here.found) y.here.found same.0 same.1
