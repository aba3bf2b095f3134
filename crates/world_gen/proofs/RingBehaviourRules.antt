-- What a component of a ring does is a behaviour.
use Rattle.std.proofs.Common.{◌≡◌, ◌≢◌, ◌∙◌, ℕ, zero, suc, List, [], Contains, cond, refl, sym, ap, ap₂, subst, arith}
use Rattle.std.specs.Prelude.{codes}
use Rattle.std.proofs.lemmas.Bool.{ne_eqb, true≢false}
use Rattle.list_lemmas.proofs.PairwiseProperties.{AllPairs-one, AllPairs-three, bytes_ne_by_test}
use Rattle.pals_base.specs.declared.behaviour.BehaviourParts.{BehaviourParts}
use Rattle.pals_base.specs.declared.behaviour.PortDecl.{PortDecl}
use Rattle.pals_base.specs.declared.behaviour.VarDecl.{VarDecl}
use Rattle.pals_base.specs.declared.behaviour.StateDecl.{StateDecl}
use Rattle.pals_base.specs.BehaviourRules.{IsBehaviour, IsAcyclic}
use Rattle.pals_base.specs.ExpressionAndActionTrees.{Edge}
use Rattle.pals_base.specs.SingleStep.{leaving}
use Rattle.world_gen.specs.Rings.{ring_behaviour, ring_state}

no_edge : (k : ℕ) (e : Edge) → Contains (leaving ring_behaviour (suc k)) e → ⊥
no_edge k e among =
    let none : leaving ring_behaviour (suc k) ≡ [] =
    ap (λ b. cond b ring_behaviour.transitions []) (ne_eqb 0 (suc k) (λ same. omega arith)) in
    let here : Contains [] e = subst (λ edges. Contains edges e) none among in
    let within = here.1 in
    omega (arith, within)

-- its state is complete, and none leads to another
settles : IsAcyclic ring_behaviour
unfolding IsAcyclic
settles zero n way = true≢false way.0
settles (suc k) n way = no_edge k way.1.0 way.1.1

pub ring_behaves : IsBehaviour ring_behaviour
ring_behaves = record {
  names = record {
    values = refl;
    values_differ =
        AllPairs-three (λ (x y : List ℕ). x ≢ y) (codes "i") (codes "o") (codes "x") (bytes_ne_by_test _ _ refl)
        (bytes_ne_by_test _ _ refl) (bytes_ne_by_test _ _ refl);
    states = refl;
    states_differ = AllPairs-one (λ (s t : StateDecl). s.name ≢ t.name) ring_state;
  };
  firsts = refl;
  initial = refl;
  edges = refl;
  ways = refl;
  acyclic = settles;
}

-- so are parts with the same values
abbrev parts_of : List PortDecl → List PortDecl → List VarDecl → List StateDecl → List Edge → BehaviourParts
parts_of ins outs vars states transitions =
    record { ins = ins; outs = outs; vars = vars; states = states; initial = 0; transitions = transitions }

pub parts_behave : (ins outs : List PortDecl) (vars : List VarDecl) (states : List StateDecl) (transitions : List Edge)
    → ins ≡ ring_behaviour.ins → outs ≡ ring_behaviour.outs → vars ≡ ring_behaviour.vars
    → states ≡ ring_behaviour.states
    → transitions ≡ ring_behaviour.transitions → IsBehaviour (parts_of ins outs vars states transitions)
parts_behave ins outs vars states transitions same_ins same_outs same_vars same_states same_transitions =
    let b = ring_behaviour in
    let ports : parts_of ins outs vars states transitions ≡ parts_of b.ins b.outs vars states transitions =
    ap₂ (λ (i o : List PortDecl). parts_of i o vars states transitions) same_ins same_outs in
    let values : parts_of b.ins b.outs vars states transitions ≡ parts_of b.ins b.outs b.vars b.states transitions =
    ap₂ (λ (v : List VarDecl) (s : List StateDecl). parts_of b.ins b.outs v s transitions) same_vars same_states in
    let edges : parts_of b.ins b.outs b.vars b.states transitions ≡ b =
    ap (λ (t : List Edge). parts_of b.ins b.outs b.vars b.states t) same_transitions in
    subst IsBehaviour (sym (ports ∙ values ∙ edges)) ring_behaves
