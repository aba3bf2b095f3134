-- The heaviest of the paths that begin with the first subcomponents, and the heaviest of all.
use Rattle.std.proofs.Common.{◌≡◌, ℕ, ◌+◌, ◌<◌, ◌≤◌, max, min, Bool, true, false, List, [], ◌∷◌, length, Option, Some}
use Rattle.std.proofs.Common.{None, option_map, get_or, refl, sym, ap, ◌∙◌, subst, arith, inl, inr, ◌⊎◌}
use Rattle.std.specs.Option.{option_map_or}
use Rattle.std.proofs.lemmas.Bool.{cases_order, cases_lt}
use Rattle.aadl_uses.specs.proof.ContainmentGraphs.{Graph, targets_in, below_in}
use Rattle.aadl_uses.specs.proof.MarkedPathCounts.{IsMarkedAt}
use Rattle.aadl_uses.proofs.MarkedPathCounts.{Begun, deeper, shallower, more_begun, fewer_begun, none_begun, all_begun}
use Rattle.aadl_uses.specs.proof.HeaviestPaths.{weight_of, path_weight, IsGreatest, IsGreatestOf, IsHeaviest}
use Rattle.aadl_uses.specs.proof.HeaviestPaths.{AreWeighed}
use Rattle.aadl_uses.specs.proof.HeaviestPaths.{own_weight, found_from, heavier}

-- ---- of the same paths
greatest_as : (P Q : List ℕ → Type 0) (w : List ℕ → ℕ) (limit : ℕ) → ((q : List ℕ) → P q → Q q)
    → ((q : List ℕ) → Q q → P q) → (o : Option ℕ) → IsGreatestOf P w limit o → IsGreatestOf Q w limit o
greatest_as P Q w limit to from None a = λ q h. a q (from q h)
greatest_as P Q w limit to from (Some found) a =
    record { path = a.path; has = to a.path a.has; reaches = a.reaches; most = λ q h. a.most q (from q h) }

-- ---- sums up to a limit
capped_sum : (limit wt v x : ℕ) → v ≡ min limit x → min limit (wt + v) ≡ min limit (wt + x)
capped_sum limit wt v x e = omega arith

capped_less : (limit wt v x : ℕ) → min limit x ≤ v → min limit (wt + x) ≤ min limit (wt + v)
capped_less limit wt v x h = omega arith

module _ (limit : ℕ) (g : Graph) (marks : List Bool) (weights : List (List ℕ)) (n i : ℕ) where
  through : (k : ℕ) (q : List ℕ) → below_in g n i ≡ Some k
      → path_weight g weights n (i ∷ q) ≡ weight_of weights n i + path_weight g weights k q
  through k q e = ap (λ o. weight_of weights n i + option_map_or (λ k. path_weight g weights k q) o 0) e

  -- a path begins with an earlier subcomponent, or with this one
  cases : (k : ℕ) (p : List ℕ) → below_in g n i ≡ Some k → Begun g marks n (i + 1) p
      → Begun g marks n i p ⊎ ((q : List ℕ) × (p ≡ i ∷ q) × IsMarkedAt g marks k q)
  cases k [] e h = inl (record { marked = h.marked; first = tt })
  cases k (s ∷ q) e h = by (cases_order s i)
    where
      by : (s ≡ i) ⊎ ((s < i) ⊎ (i < s))
          → Begun g marks n i (s ∷ q) ⊎ ((r : List ℕ) × (s ∷ q ≡ i ∷ r) × IsMarkedAt g marks k r)
      by (inl same) =
          inr (
            q,
            ap (λ m. m ∷ q) same,
            shallower g marks n i k q e (subst (λ m. IsMarkedAt g marks n (m ∷ q)) same h.marked),
          )
      by (inr (inl less)) = inl (record { marked = h.marked; first = less })
      by (inr (inr more)) = let f = h.first in absurd (omega (arith, f, more))

  module _ (k : ℕ) (e : below_in g n i ≡ Some k) where
    -- a path through this subcomponent weighs at most as much as the heaviest of them
    within : (v : ℕ) (p q : List ℕ) → IsHeaviest limit g marks weights k (Some v) → p ≡ i ∷ q → IsMarkedAt g marks k q
        → min limit (path_weight g weights n p) ≤ min limit (weight_of weights n i + v)
    within v p q b is m =
        subst (λ w. min limit w ≤ min limit (weight_of weights n i + v))
        (sym (ap (path_weight g weights n) is ∙ through k q e))
        (capped_less limit (weight_of weights n i) v (path_weight g weights k q) (b.most q m))

    only_below : (v : ℕ) → ((q : List ℕ) → Begun g marks n i q → ⊥) → IsHeaviest limit g marks weights k (Some v)
        → IsGreatest (Begun g marks n (i + 1)) (path_weight g weights n) limit (min limit (weight_of weights n i + v))
    only_below v none b = record {
      path = i ∷ b.path;
      has = deeper g marks n i k b.path e b.has;
      reaches =
          capped_sum limit (weight_of weights n i) v (path_weight g weights k b.path) b.reaches
          ∙ ap (min limit) (sym (through k b.path e));
      most = λ p h. by p (cases k p e h);
    }
      where
        by : (p : List ℕ) → Begun g marks n i p ⊎ ((q : List ℕ) × (p ≡ i ∷ q) × IsMarkedAt g marks k q)
            → min limit (path_weight g weights n p) ≤ min limit (weight_of weights n i + v)
        by p (inl h) = absurd (none p h)
        by p (inr h) = within v p h.0 b h.1 h.2

    only_before : (u : ℕ) → IsGreatest (Begun g marks n i) (path_weight g weights n) limit u
        → ((q : List ℕ) → IsMarkedAt g marks k q → ⊥)
        → IsGreatest (Begun g marks n (i + 1)) (path_weight g weights n) limit u
    only_before u a none =
        record {
          path = a.path;
          has = more_begun g marks n i a.path a.has;
          reaches = a.reaches;
          most = λ p h. by p (cases k p e h);
        }
      where
        by : (p : List ℕ) → Begun g marks n i p ⊎ ((q : List ℕ) × (p ≡ i ∷ q) × IsMarkedAt g marks k q)
            → min limit (path_weight g weights n p) ≤ u
        by p (inl h) = a.most p h
        by p (inr h) = absurd (none h.0 h.2)

    both : (u v : ℕ) → IsGreatest (Begun g marks n i) (path_weight g weights n) limit u
        → IsHeaviest limit g marks weights k (Some v)
        → IsGreatest (Begun g marks n (i + 1)) (path_weight g weights n) limit
        (max u (min limit (weight_of weights n i + v)))
    both u v a b = at (cases_lt u (min limit (weight_of weights n i + v)))
      where
        by : (p : List ℕ) → Begun g marks n i p ⊎ ((q : List ℕ) × (p ≡ i ∷ q) × IsMarkedAt g marks k q)
            → min limit (path_weight g weights n p) ≤ max u (min limit (weight_of weights n i + v))
        by p (inl h) = let least = a.most p h in omega arith
        by p (inr h) = let least = within v p h.0 b h.1 h.2 in omega arith

        reached : path_weight g weights n (i ∷ b.path) ≡ weight_of weights n i + path_weight g weights k b.path
        reached = through k b.path e

        at : (u < min limit (weight_of weights n i + v)) ⊎ (min limit (weight_of weights n i + v) ≤ u)
            → IsGreatest (Begun g marks n (i + 1)) (path_weight g weights n) limit
            (max u (min limit (weight_of weights n i + v)))
        at (inl less) = record {
          path = i ∷ b.path;
          has = deeper g marks n i k b.path e b.has;
          reaches =
              let same : max u (min limit (weight_of weights n i + v)) ≡ min limit (weight_of weights n i + v) =
              omega arith in
              same ∙ (capped_sum limit (weight_of weights n i) v (path_weight g weights k b.path) b.reaches
              ∙ ap (min limit) (sym reached));
          most = λ p h. by p (cases k p e h);
        }
        at (inr more) = record {
          path = a.path;
          has = more_begun g marks n i a.path a.has;
          reaches = let same : max u (min limit (weight_of weights n i + v)) ≡ u = omega arith in same ∙ a.reaches;
          most = λ p h. by p (cases k p e h);
        }

    some_more : (o c : Option ℕ) → IsGreatestOf (Begun g marks n i) (path_weight g weights n) limit o
        → IsHeaviest limit g marks weights k c
        → IsGreatestOf (Begun g marks n (i + 1)) (path_weight g weights n) limit
        (heavier o (option_map (λ w. min limit (weight_of weights n i + w)) c))
    some_more None None a b = λ p h. by p (cases k p e h)
      where
        by : (p : List ℕ) → Begun g marks n i p ⊎ ((q : List ℕ) × (p ≡ i ∷ q) × IsMarkedAt g marks k q) → ⊥
        by p (inl h) = a p h
        by p (inr h) = b h.0 h.2
    some_more None (Some v) a b = only_below v a b
    some_more (Some u) None a b = only_before u a b
    some_more (Some u) (Some v) a b = both u v a b

  kept : (o : Option ℕ) → heavier o None ≡ o
  kept None = refl
  kept (Some x) = refl

  -- one more subcomponent, by its target
  pub heaviest_more : (found : List (Option ℕ)) (target o : Option ℕ) → below_in g n i ≡ target
      → AreWeighed limit g marks weights found n → IsGreatestOf (Begun g marks n i) (path_weight g weights n) limit o
      → IsGreatestOf (Begun g marks n (i + 1)) (path_weight g weights n) limit
      (heavier o (option_map (λ w. min limit (weight_of weights n i + w)) (found_from found target)))
  heaviest_more found None o e known a =
      subst (IsGreatestOf (Begun g marks n (i + 1)) (path_weight g weights n) limit) (sym (kept o))
      (greatest_as (Begun g marks n i) (Begun g marks n (i + 1)) (path_weight g weights n) limit
      (λ q h. more_begun g marks n i q h) (λ q h. fewer_begun g marks n i q e h) o a)
  heaviest_more found (Some k) o e known a = some_more k e o (get_or found k None) a (known i k e)

-- ---- the declaration itself
own_within : (limit : ℕ) (g : Graph) (marks : List Bool) (weights : List (List ℕ)) (n : ℕ) (q : List ℕ)
    → Begun g marks n 0 q → min limit (path_weight g weights n q) ≤ 0
own_within limit g marks weights n [] h = omega arith
own_within limit g marks weights n (s ∷ q) h = let f = h.first in absurd (omega (arith, f))

pub own_heaviest : (limit : ℕ) (g : Graph) (marks : List Bool) (weights : List (List ℕ)) (n : ℕ)
    → IsGreatestOf (Begun g marks n 0) (path_weight g weights n) limit (own_weight (get_or marks n false))
own_heaviest limit g marks weights n = by (get_or marks n false) refl
  where
    by : (b : Bool) → get_or marks n false ≡ b
        → IsGreatestOf (Begun g marks n 0) (path_weight g weights n) limit (own_weight b)
    by true e = record {
      path = [];
      has = record { marked = record { number = n; stands = refl; is_marked = e }; first = tt };
      reaches = omega arith;
      most = λ q h. own_within limit g marks weights n q h;
    }
    by false e = λ q h. none_begun g marks n q e h

-- ---- the first subcomponents are all
pub heaviest_all : (limit : ℕ) (g : Graph) (marks : List Bool) (weights : List (List ℕ)) (n i : ℕ) (o : Option ℕ)
    → length (targets_in g n) ≤ i → IsGreatestOf (Begun g marks n i) (path_weight g weights n) limit o
    → IsHeaviest limit g marks weights n o
heaviest_all limit g marks weights n i o past a =
    greatest_as (Begun g marks n i) (IsMarkedAt g marks n) (path_weight g weights n) limit (λ q h. h.marked)
    (λ q h. all_begun g marks n i q past h) o a
