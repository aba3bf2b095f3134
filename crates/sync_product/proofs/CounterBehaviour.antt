-- The counter of the examples is a behaviour.
use Rattle.std.proofs.Common.{◌≡◌, ◌≢◌, ℕ, zero, suc, List, [], ◌∷◌, Option, None, Some, All, AllPairs, Contains, cond}
use Rattle.std.proofs.Common.{slice_get, refl, ap, subst, arith}
use Rattle.std.specs.Prelude.{codes}
use Rattle.std.proofs.lemmas.Bool.{ne_eqb, true≢false}
use Rattle.std.proofs.lemmas.List.Elements.{All-nil, All-cons}
use Rattle.std.proofs.lemmas.List.Kept.{AllPairs-cons}
use Rattle.list_lemmas.proofs.PairwiseProperties.{AllPairs-one, AllPairs-three, bytes_ne_by_test}
use Rattle.pals_base.specs.declared.behaviour.BehaviourParts.{BehaviourParts}
use Rattle.pals_base.specs.declared.behaviour.StateDecl.{StateDecl}
use Rattle.pals_base.specs.BehaviourRules.{IsBehaviour, IsAcyclic}
use Rattle.pals_base.specs.ExpressionAndActionTrees.{Edge}
use Rattle.pals_base.specs.SingleStep.{leaving}
use Rattle.pals_model.specs.declared.design.Component.{Component}
use Rattle.pals_model.specs.proof.TwoCounters.{two_counters}

-- ---- lists of none and of two
pub all_of_two : {X : Type 0} (P : X → Type 0) (x y : X) → P x → P y → All P (x ∷ y ∷ [])
all_of_two P x y first second = All-cons P x (y ∷ []) first (All-cons P y [] second (All-nil P))

pub pair_of_two : {X : Type 0} (R : X → X → Type 0) (x y : X) → R x y → AllPairs R (x ∷ y ∷ [])
pair_of_two R x y both = AllPairs-cons R x (y ∷ []) (All-cons (R x) y [] both (All-nil (R x))) (AllPairs-one R y)

-- ---- a counter
abbrev behaviour_in : Option Component → BehaviourParts
behaviour_in None = record { ins = []; outs = []; vars = []; states = []; initial = 0; transitions = [] }
behaviour_in (Some c) = c.behaviour

abbrev pub counter : BehaviourParts
counter = behaviour_in (slice_get two_counters.components 0)

no_edge : (k : ℕ) (e : Edge) → Contains (leaving counter (suc k)) e → ⊥
no_edge k e among =
    let none : leaving counter (suc k) ≡ [] =
    ap (λ b. cond b counter.transitions []) (ne_eqb 0 (suc k) (λ same. omega arith)) in
    let here : Contains [] e = subst (λ edges. Contains edges e) none among in
    let within = here.1 in
    omega (arith, within)

-- its state is complete, and none leads to another
counter_settles : IsAcyclic counter
unfolding IsAcyclic
counter_settles zero n way = true≢false way.0
counter_settles (suc k) n way = no_edge k way.1.0 way.1.1

pub counter_behaves : IsBehaviour counter
counter_behaves = record {
  names = record {
    values = refl;
    values_differ =
        AllPairs-three (λ (x y : List ℕ). x ≢ y) (codes "i") (codes "o") (codes "x") (bytes_ne_by_test _ _ refl)
        (bytes_ne_by_test _ _ refl) (bytes_ne_by_test _ _ refl);
    states = refl;
    states_differ = AllPairs-one (λ (s t : StateDecl). s.name ≢ t.name) _;
  };
  firsts = refl;
  initial = refl;
  edges = refl;
  ways = refl;
  acyclic = counter_settles;
}
