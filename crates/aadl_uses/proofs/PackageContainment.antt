-- The containment of a package, as a graph of numbers, agrees with the declarations that its subcomponents name.
use Rattle.std.proofs.Common.{◌≡◌, ◌↔◌, ℕ, zero, suc, ◌<◌, Bool, true, false, List, [], ◌∷◌, ◌++◌, map, Option, Some}
use Rattle.std.proofs.Common.{None, option_map, length, get_or, slice_get, Contains, refl, sym, ap, subst, ◌∙◌, arith}
use Rattle.std.proofs.Common.{if◌then◌else◌, codes, Result, Ok, Err, IfOk}
use Rattle.std.specs.Option.{option_and_then}
use Rattle.std.proofs.lemmas.List.{length-map}
use Rattle.std.proofs.lemmas.Option.{slice_get-map, none-some, option_and_then_some}
use Rattle.list_lemmas.proofs.ElementPositions.{position_from-within}
use Rattle.aadl_tree.specs.Names.{Identifier, Reference}
use Rattle.aadl_tree.specs.Declarations.{Declaration, PackageTree}
use Rattle.aadl_names.specs.NameResolution.{implementation_in, implementation_at, subcomponents_of, referred}
use Rattle.aadl_names.specs.NameResolution.{named_by, is_of, first_number, is_implementation}
use Rattle.aadl_uses.specs.ContainmentAndUse.{sub_at, below, number_at_path, IsInUse}
use Rattle.aadl_uses.specs.proof.PackageContainment.{targets_of, targets_in, containment}
use Rattle.aadl_uses.specs.proof.ContainmentGraphs.{below_in, reached_by, IsReached, IsWithin}

pub row : (tree : PackageTree ℕ) (ds : List (Declaration ℕ)) (n : ℕ)
    → get_or (map (targets_in tree) ds) n [] ≡ targets_of tree (implementation_in (slice_get ds n))
row tree [] zero = refl
row tree [] (suc n) = refl
row tree (d ∷ ds) zero = refl
row tree (d ∷ ds) (suc n) = row tree ds n

joined : {X Y : Type 0} (f : X → Option Y) (o : Option X)
    → option_and_then (λ y. y) (option_map f o) ≡ option_and_then f o
joined f None = refl
joined f (Some x) = refl

pub and_then_same : {X Y : Type 0} (f g : X → Option Y) → ((x : X) → f x ≡ g x) → (o : Option X)
    → option_and_then f o ≡ option_and_then g o
and_then_same f g same None = refl
and_then_same f g same (Some x) = same x

pub below-same : (tree : PackageTree ℕ) (n s : ℕ) → below_in (containment tree) n s ≡ below tree n s
below-same tree n s =
    ap (λ (ts : List (Option ℕ)). option_and_then (λ t. t) (slice_get ts s)) (row tree tree.declarations n)
    ∙ (ap (option_and_then (λ t. t))
    (slice_get-map (λ sub. referred tree sub.classifier) (subcomponents_of (implementation_at tree n)) s)
    ∙ joined (λ sub. referred tree sub.classifier) (sub_at tree n s))

pub standing-same : (tree : PackageTree ℕ) (root : ℕ) (path : List ℕ)
    → reached_by (containment tree) root path ≡ number_at_path tree root path
standing-same tree root [] = refl
standing-same tree root (s ∷ path) =
    ap (option_and_then (λ n. below_in (containment tree) n s)) (standing-same tree root path)
    ∙ and_then_same (λ n. below_in (containment tree) n s) (λ n. below tree n s) (λ n. below-same tree n s)
    (number_at_path tree root path)

pub in_use_by : (tree : PackageTree ℕ) (root n : ℕ) (keys : List ℕ)
    → (Contains keys n ↔ IsReached (containment tree) root n)
    → Contains keys n ↔ IsInUse tree root n
in_use_by tree root n keys same = (
  λ h. let r = same.0 h in (r.0, sym (standing-same tree root r.0) ∙ r.1),
  λ u. same.1
      (u.0, standing-same tree root u.0 ∙ u.1),
)

-- ---- references name declarations

named_within : (tree : PackageTree ℕ) (x : Reference ℕ) (o : Option (Identifier ℕ)) (m : ℕ) → named_by tree x o ≡ Some m
    → m < length tree.declarations
named_within tree x None m e = absurd (none-some m e)
named_within tree x (Some i) m e = by (is_of tree x) e
  where
    by : (b : Bool) → (if b then first_number (is_implementation (x.type_name.spelling ++ codes "." ++ i.spelling))
        tree.declarations else None) ≡ Some m
        → m < length tree.declarations
    by true f = let least = position_from-within (is_implementation (x.type_name.spelling ++ codes "." ++ i.spelling)) 0
        m tree.declarations f in omega arith
    by false f = absurd (none-some m f)

pub referred_within : (tree : PackageTree ℕ) (x : Reference ℕ) (m : ℕ) → referred tree x ≡ Some m
    → m < length tree.declarations
unfolding referred
referred_within tree x m e = named_within tree x x.implementation m e

pub within : (tree : PackageTree ℕ) → IsWithin (containment tree)
within tree n s m e =
    option_and_then_some (λ sub. referred tree sub.classifier) (sub_at tree n s) m (sym (below-same tree n s) ∙ e)
    (λ sub h f. let least = referred_within tree sub.classifier m f in
    let same = length-map tree.declarations (targets_in tree) in omega arith)

-- ---- results of calls
pub ok_items : {T E X : Type 0} (items : T → X) (r : Result T E) (a b : X) → a ≡ b → IfOk r (λ x. items x ≡ a)
    → IfOk r (λ x. items x ≡ b)
ok_items items (Ok x) a b e is = is ∙ e
ok_items items (Err x) a b e is = tt

pub ok_in_use : {T E : Type 0} (keys : T → List ℕ) (r : Result T E) (tree : PackageTree ℕ) (g : List (List (Option ℕ)))
    (root : ℕ) → g ≡ containment tree
    → IfOk r (λ x. (n : ℕ) → Contains (keys x) n ↔ IsReached g root n)
    → IfOk r (λ x. (n : ℕ) → Contains (keys x) n ↔ IsInUse tree root n)
ok_in_use keys (Ok x) tree g root e found = λ n. in_use_by tree root n (keys x)
    (subst (λ (h : List (List (Option ℕ))). Contains (keys x) n ↔ IsReached h root n) e (found n))
ok_in_use keys (Err x) tree g root e found = tt
