-- The rank of a declaration in an order, which decreases from each declaration to the declarations that it contains.
use Rattle.std.proofs.Common.{◌≡◌, ℕ, ◌<◌, nat_eq, List, Some, ap, ◌∙◌, arith, ◌⊎◌, inl, inr, zero, suc, ◌≤◌, []}
use Rattle.std.proofs.Common.{length, slice_get, None, refl, sym}
use Rattle.std.specs.Option.{option_map_or, option_and_then}
use Rattle.std.proofs.lemmas.List.{length-map}
use Rattle.list_lemmas.proofs.ElementPositions.{slice_get-from_Contains}
use Rattle.aadl_tree.specs.Declarations.{PackageTree, Subcomponent}
use Rattle.aadl_names.specs.NameResolution.{first_number, implementation_in, subcomponents_of, referred}
use Rattle.aadl_uses.specs.ContainmentAndUse.{below}
use Rattle.aadl_uses.specs.proof.PackageContainment.{containment, targets_in}
use Rattle.aadl_uses.proofs.PackageContainment.{below-same}
use Rattle.aadl_uses.specs.proof.ContainmentOrders.{IsOrder}
use Rattle.std.proofs.lemmas.Bool.{eqb-true, eq-eqb, cases_lt}
use Rattle.std.proofs.lemmas.Option.{none-some, slice_get_past}
use Rattle.aadl_chains.proofs.FirstIncomingConnections.{some_first, first_at}

pub rank : List ℕ → ℕ → ℕ
rank keys n = option_map_or (λ k. k) (first_number (nat_eq n) keys) 0

module _ (tree : PackageTree ℕ) (keys : List ℕ) (order : IsOrder (containment tree) keys) where
  place_of : (n i : ℕ) → slice_get keys i ≡ Some n
      → (k : ℕ) × (first_number (nat_eq n) keys ≡ Some k) × (k ≤ i) × (slice_get keys k ≡ Some n)
  place_of n i is =
      let f = some_first (nat_eq n) keys 0 i n is (eq-eqb n n refl) in
      let at = first_at (nat_eq n) keys 0 f.0 f.1 in
      let where_is = at.is in
      let least = f.2 in
      let same : f.0 ≡ at.index = omega arith in
      (f.0, f.1, omega arith, ap (slice_get keys) same ∙ (at.is_item ∙ ap Some (sym (eqb-true n at.item at.passes))))

  declared_by : (n s m : ℕ) → below tree n s ≡ Some m → n < length tree.declarations
  declared_by n s m b = by (cases_lt n (length tree.declarations))
    where
      none_past : length tree.declarations ≤ n → below tree n s ≡ None
      none_past past =
          ap (λ o. option_and_then (λ sub. referred tree sub.classifier)
          (slice_get (subcomponents_of (implementation_in o)) s))
          (slice_get_past tree.declarations n past) ∙ nothing s
        where
          nothing : (s : ℕ) → option_and_then (λ (sub : Subcomponent ℕ). referred tree sub.classifier)
              (slice_get [] s) ≡ None
          nothing zero = refl
          nothing (suc s) = refl

      by : (n < length tree.declarations) ⊎ (length tree.declarations ≤ n) → n < length tree.declarations
      by (inl lt) = lt
      by (inr past) = absurd (none-some m (sym (none_past past) ∙ b))

  -- a declaration follows the declarations that it contains
  pub rank_falls : (n s m : ℕ) → below tree n s ≡ Some m → rank keys m < rank keys n
  unfolding rank
  rank_falls n s m b =
      let size = length-map tree.declarations (targets_in tree) in
      let lt = declared_by n s m b in
      let c = order.all n (omega (arith, size, lt)) in
      let p = place_of n c.0 (slice_get-from_Contains keys n c) in
      let j = order.sequence.behind p.0 n s m p.3 (below-same tree n s ∙ b) in
      let q = place_of m j.0 j.2 in
      let before = j.1 in
      let first = q.2 in
      let left : option_map_or (λ k. k) (first_number (nat_eq m) keys) 0
      ≡ q.0 = ap (λ o. option_map_or (λ k. k) o 0) q.1 in
      let right : option_map_or (λ k. k) (first_number (nat_eq n) keys) 0
      ≡ p.0 = ap (λ o. option_map_or (λ k. k) o 0) p.1 in
      omega arith
