-- The table has an entry for two states if and only if a path of transitions leads from one to the other.
use Rattle.std.proofs.Common.{◌≡◌, ℕ, ◌<◌, zero, suc, Bool, true, false, not, ◌&&◌, nat_eq, List, [], ◌∷◌, length, refl}
use Rattle.std.proofs.Common.{sym, ap, ◌∙◌, subst, arith, inl, inr, ◌⊎◌}
use Rattle.std.specs.List.{list_any, Contains}
use Rattle.std.proofs.lemmas.Bool.{true≢false, or_cases, eqb-true, cases_lt, and_from, and_parts, or_left, or_right}
use Rattle.std.proofs.lemmas.Bool.{not-true}
use Rattle.list_lemmas.proofs.Elements.{list_any_by_element}
use Rattle.list_lemmas.proofs.Numbers.{nat_eq-self}
use Rattle.pals_base.specs.declared.behaviour.BehaviourParts.{BehaviourParts}
use Rattle.pals_base.specs.ExpressionAndActionTrees.{Edge}
use Rattle.pals_base.specs.SingleStep.{is_complete, leaving}
use Rattle.pals_base.specs.BehaviourRules.{IsWay, IsAcyclic}
use Rattle.pals_base.proofs.TransitionWaysAndCycles.{incomplete_within}
use Rattle.annex_resolve.specs.IncompleteStateCycles.{leads, reaches, is_on_cycle}

-- ---- tests

abbrev Passes : {A : Type 0} → (A → Bool) → List A → Type 0
Passes {A} p xs = (x : A) × Contains xs x × (p x ≡ true)

passes_by : {A : Type 0} (p : A → Bool) (x : A) (xs : List A) → (p x ≡ true) ⊎ (list_any p xs ≡ true)
    → (list_any p xs ≡ true → Passes p xs) → Passes p (x ∷ xs)
passes_by p x xs (inl here) later = (x, (zero, omega arith, refl), here)
passes_by p x xs (inr there) later = let found = later there in
    (found.0, (suc found.1.0, omega (arith, found.1.1), found.1.2), found.2)

some_element : {A : Type 0} (p : A → Bool) (xs : List A) → list_any p xs ≡ true → Passes p xs
some_element p [] any = absurd (true≢false (sym any))
some_element p (x ∷ xs) any = passes_by p x xs (or_cases (p x) (list_any p xs) any) (some_element p xs)

-- ---- reachability with more inner states
grows : (k : ℕ) (b : BehaviourParts) (s t : ℕ) → leads b s t ≡ true → reaches k b s t ≡ true
grows zero b s t e = e
grows (suc k) b s t e = or_left (reaches k b s t) (reaches k b s k && reaches k b k t) (grows k b s t e)

-- with one more inner state, a path passes it or not
abbrev Either : ℕ → BehaviourParts → ℕ → ℕ → Type 0
Either k b s t = (reaches k b s t ≡ true) ⊎ ((reaches k b s k ≡ true) × (reaches k b k t ≡ true))

split : (k : ℕ) (b : BehaviourParts) (s t : ℕ) → reaches (suc k) b s t ≡ true → Either k b s t
split k b s t e = elim (or_cases (reaches k b s t) (reaches k b s k && reaches k b k t) e) as (λ r. Either k b s t) [
  | inl direct ↦ inl direct
  | inr by ↦ inr (and_parts (reaches k b s k) (reaches k b k t) by)
]

direct : (k : ℕ) (b : BehaviourParts) (s t : ℕ) → reaches k b s t ≡ true → reaches (suc k) b s t ≡ true
direct k b s t e = or_left (reaches k b s t) (reaches k b s k && reaches k b k t) e

by_way_of : (k : ℕ) (b : BehaviourParts) (s t : ℕ) → reaches k b s k ≡ true → reaches k b k t ≡ true
    → reaches (suc k) b s t ≡ true
by_way_of k b s t e f =
    or_right (reaches k b s t) (reaches k b s k && reaches k b k t) (and_from (reaches k b s k) (reaches k b k t) e f)

to_last : (k : ℕ) (b : BehaviourParts) (s : ℕ) → Either k b s k → reaches k b s k ≡ true
to_last k b s (inl e) = e
to_last k b s (inr e) = e.0

from_last : (k : ℕ) (b : BehaviourParts) (t : ℕ) → Either k b k t → reaches k b k t ≡ true
from_last k b t (inl e) = e
from_last k b t (inr e) = e.1

joined_at : (k : ℕ) (b : BehaviourParts) (s m t : ℕ)
    → ((s t : ℕ) → reaches k b s m ≡ true → reaches k b m t ≡ true → reaches k b s t ≡ true) → Either k b s m
    → Either k b m t → reaches (suc k) b s t ≡ true
joined_at k b s m t join (inl e) (inl f) = direct k b s t (join s t e f)
joined_at k b s m t join (inl e) (inr f) = by_way_of k b s t (join s k e f.0) f.1
joined_at k b s m t join (inr e) (inl f) = by_way_of k b s t e.0 (join k t e.1 f)
joined_at k b s m t join (inr e) (inr f) = by_way_of k b s t e.0 f.1

-- two paths with a state below k between them
pub through : (k : ℕ) (b : BehaviourParts) (s m t : ℕ) → m < k → reaches k b s m ≡ true → reaches k b m t ≡ true
    → reaches k b s t ≡ true
through zero b s m t below e f = absurd (omega (arith, below))
through (suc k) b s m t below e f = elim (cases_lt m k) as (λ r. reaches (suc k) b s t ≡ true) [
  | inl less ↦ joined_at k b s m t (λ s t e f. through k b s m t less e f) (split k b s m e) (split k b m t f)
  | inr more' ↦ let last : m ≡ k = omega (arith, below, more') in
      by_way_of k b s t (to_last k b s (split k b s k (subst (λ n. reaches (suc k) b s n ≡ true) last e)))
      (from_last k b t (split k b k t (subst (λ n. reaches (suc k) b n t ≡ true) last f)))
]

-- ---- paths
step_leads : (b : BehaviourParts) (s t : ℕ) → IsWay b 1 s t → leads b s t ≡ true
step_leads b s t (incomplete, (e, here, is)) =
    and_from (not (is_complete b s)) (list_any (λ (e : Edge). nat_eq e.target t) (leaving b s)) (ap not incomplete)
    (list_any_by_element (λ (e : Edge). nat_eq e.target t) (leaving b s) e here
    (ap (λ n. nat_eq n t) is ∙ nat_eq-self t))

pub way_reaches : (n : ℕ) (b : BehaviourParts) (s t : ℕ) → IsWay b (suc n) s t → reaches (length b.states) b s t ≡ true
way_reaches zero b s t way = grows (length b.states) b s t (step_leads b s t way)
way_reaches (suc n) b s t (incomplete, (e, here, rest)) =
    through (length b.states) b s e.target t (incomplete_within b e.target rest.0)
    (grows (length b.states) b s e.target (step_leads b s e.target (incomplete, (e, here, refl))))
    (way_reaches n b e.target t rest)

-- if no state is on a cycle, there is no cycle
pub acyclic_by : (b : BehaviourParts) → ((s : ℕ) → s < length b.states → is_on_cycle b s ≡ false) → IsAcyclic b
unfolding IsAcyclic
acyclic_by b none s n way = true≢false (sym (way_reaches n b s s way) ∙ none s (incomplete_within b s way.0))

joined_ways : (n : ℕ) (b : BehaviourParts) (s m t : ℕ) (q : ℕ) → IsWay b n s m → IsWay b (suc q) m t
    → (r : ℕ) × IsWay b (suc r) s t
joined_ways zero b s m t q way rest = (q, subst (λ x. IsWay b (suc q) x t) (sym way) rest)
joined_ways (suc n) b s m t q (incomplete, (e, here, way)) rest = let on = joined_ways n b e.target m t q way rest in
    (suc on.0, (incomplete, (e, here, on.1)))

-- a reachable state is at the end of a path
pub reached_by_way : (k : ℕ) (b : BehaviourParts) (s t : ℕ) → reaches k b s t ≡ true → (n : ℕ) × IsWay b (suc n) s t
reached_by_way zero b s t e =
    let both' = and_parts (not (is_complete b s)) (list_any (λ (e : Edge). nat_eq e.target t) (leaving b s)) e in
    let found = some_element (λ (e : Edge). nat_eq e.target t) (leaving b s) both'.1 in
    (zero, (not-true (is_complete b s) both'.0, (found.0, found.1, eqb-true found.0.target t found.2)))
reached_by_way (suc k) b s t e = elim (split k b s t e) as (λ r. (n : ℕ) × IsWay b (suc n) s t) [
  | inl way ↦ reached_by_way k b s t way
  | inr ways ↦ let first = reached_by_way k b s k ways.0 in let second = reached_by_way k b k t ways.1 in
      joined_ways (suc first.0) b s k t second.0 first.1 second.1
]
