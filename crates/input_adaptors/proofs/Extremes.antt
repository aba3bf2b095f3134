-- For the law that extremes bound their group: the positions of the present numbers of a group, and their minimum and
-- maximum.
use Rattle.std.proofs.Common.{◌≡◌, ap, sym, subst, refl, zero, suc, ◌⊎◌, inl, inr, ℤ, ◌≤ℤ◌, List, [], ◌∷◌, arith}
use Rattle.std.specs.Prelude.{All, Contains}
use Rattle.std.proofs.lemmas.Int.{fold-int_max_bounds, fold-int_max_reached, fold-int_min_bounds, fold-int_min_reached}
use Rattle.std.proofs.lemmas.List.Elements.{All-cons, All-contains}
use Rattle.list_lemmas.proofs.Elements.{Contains-head, Contains-cons}
use Rattle.pals_base.specs.declared.basic_types.PortValue.{PortValue}
use Rattle.pals_base.specs.declared.basic_types.PortValue.TheVariants.{Absent, Present}
use Rattle.pals_base.specs.declared.allowed_adaptors.Adaptor.TheVariants.{Min, Max}
use Rattle.pals_base.specs.Adaptors.{present, joined, of_present, least_of, greatest_of}
use Rattle.input_adaptors.specs.proof.PlacesAndGroupValues.{IsLeast, IsGreatest}

-- ---- a number is among the present ones if and only if a port has it
pub Contains-from_present : (ports : List PortValue) (v : ℤ) → Contains (present ports) v → Contains ports (Present v)
Contains-from_present [] v among = absurd (omega (arith, among.1))
Contains-from_present (Absent ∷ ports) v among =
    Contains-cons Absent (Present v) ports (Contains-from_present ports v among)
Contains-from_present (Present w ∷ ports) v (zero, below, read) = (0, omega arith, ap Present read)
Contains-from_present (Present w ∷ ports) v (suc k, below, read) =
    Contains-cons (Present w) (Present v) ports (Contains-from_present ports v (k, omega arith, read))

pub Contains-present : (ports : List PortValue) (v : ℤ) → Contains ports (Present v) → Contains (present ports) v
Contains-present [] v among = absurd (omega (arith, among.1))
Contains-present (Absent ∷ ports) v (zero, below, read) = cc
Contains-present (Absent ∷ ports) v (suc k, below, read) = Contains-present ports v (k, omega arith, read)
Contains-present (Present w ∷ ports) v (zero, below, read) = let e : w ≡ v = cc in (0, omega arith, e)
Contains-present (Present w ∷ ports) v (suc k, below, read) =
    Contains-cons w v (present ports) (Contains-present ports v (k, omega arith, read))

-- ---- the minimum and the maximum of numbers
Contains-reached : (w v : ℤ) (ws : List ℤ) → (v ≡ w) ⊎ Contains ws v → Contains (w ∷ ws) v
Contains-reached w v ws (inl e) = subst (λ x. Contains (x ∷ ws) v) e (Contains-head v ws)
Contains-reached w v ws (inr among) = Contains-cons w v ws among

pub Contains-least : (w : ℤ) (ws : List ℤ) → Contains (w ∷ ws) (least_of w ws)
Contains-least w ws = Contains-reached w (least_of w ws) ws (fold-int_min_reached w ws (least_of w ws) refl)

pub Contains-greatest : (w : ℤ) (ws : List ℤ) → Contains (w ∷ ws) (greatest_of w ws)
Contains-greatest w ws = Contains-reached w (greatest_of w ws) ws (fold-int_max_reached w ws (greatest_of w ws) refl)

pub All-above_least : (w : ℤ) (ws : List ℤ) → All (λ x. least_of w ws ≤ℤ x) (w ∷ ws)
All-above_least w ws =
    let bounds : (least_of w ws ≤ℤ w) × All (λ x. least_of w ws ≤ℤ x) ws =
    fold-int_min_bounds w ws (least_of w ws) refl in
    All-cons (λ x. least_of w ws ≤ℤ x) w ws bounds.0 bounds.1

pub All-below_greatest : (w : ℤ) (ws : List ℤ) → All (λ x. x ≤ℤ greatest_of w ws) (w ∷ ws)
All-below_greatest w ws =
    let bounds : (w ≤ℤ greatest_of w ws) × All (λ x. x ≤ℤ greatest_of w ws) ws =
    fold-int_max_bounds w ws (greatest_of w ws) refl in
    All-cons (λ x. x ≤ℤ greatest_of w ws) w ws bounds.0 bounds.1

-- ---- of a group
least_present : (group : List PortValue) (numbers : List ℤ) (v : ℤ) → present group ≡ numbers
    → of_present least_of numbers ≡ Present v → IsLeast group v
least_present group [] v same given = cc
least_present group (w ∷ ws) v same given =
    let e : least_of w ws ≡ v = cc in
    record {
      present =
          Contains-from_present group v
          (subst (λ vs. Contains vs v) (sym same) (subst (λ x. Contains (w ∷ ws) x) e (Contains-least w ws)));
      least =
          λ x among. subst (λ y. y ≤ℤ x) e
          (All-contains (λ y. least_of w ws ≤ℤ y) (w ∷ ws) x (All-above_least w ws)
          (subst (λ vs. Contains vs x) same (Contains-present group x among)));
    }

pub IsLeast-joined : (group : List PortValue) (v : ℤ) → joined Min group ≡ Present v → IsLeast group v
IsLeast-joined group v given = least_present group (present group) v refl given

greatest_present : (group : List PortValue) (numbers : List ℤ) (v : ℤ) → present group ≡ numbers
    → of_present greatest_of numbers ≡ Present v → IsGreatest group v
greatest_present group [] v same given = cc
greatest_present group (w ∷ ws) v same given =
    let e : greatest_of w ws ≡ v = cc in
    record {
      present =
          Contains-from_present group v
          (subst (λ vs. Contains vs v) (sym same) (subst (λ x. Contains (w ∷ ws) x) e (Contains-greatest w ws)));
      greatest =
          λ x among. subst (λ y. x ≤ℤ y) e
          (All-contains (λ y. y ≤ℤ greatest_of w ws) (w ∷ ws) x (All-below_greatest w ws)
          (subst (λ vs. Contains vs x) same (Contains-present group x among)));
    }

pub IsGreatest-joined : (group : List PortValue) (v : ℤ) → joined Max group ≡ Present v → IsGreatest group v
IsGreatest-joined group v given = greatest_present group (present group) v refl given
