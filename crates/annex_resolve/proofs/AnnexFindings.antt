-- The violations of an annex: of one more of its states, and of the whole from its transitions, states and rules.
use Rattle.std.proofs.Common.{◌≡◌, ℕ, ◌+◌, ◌<◌, List, [], ◌∷◌, ◌++◌, length, map, take, get_or, sym, ap, ◌∙◌}
use Rattle.std.proofs.Common.{append_assoc, arith}
use Rattle.std.specs.Prelude.{flat_map}
use Rattle.std.specs.List.{enumerate_from}
use Rattle.std.proofs.lemmas.List.{append-nil}
use Rattle.std.proofs.lemmas.Grind.{flat_map-append}
use Rattle.list_lemmas.proofs.ListOperations.{enumerate_from-push, length-take_within}
use Rattle.pals_base.specs.declared.behaviour.BehaviourParts.{BehaviourParts}
use Rattle.pals_base.specs.ExpressionAndActionTrees.{Edge}
use Rattle.aadl_tree.specs.Annexes.{Transition, AnnexTree}
use Rattle.annex_resolve.specs.declared.scope.Scope.{Scope}
use Rattle.annex_resolve.specs.declared.ports_and_variables.DeclaredValues.{DeclaredValues}
use Rattle.annex_resolve.specs.declared.states.StateAt.{StateAt}
use Rattle.annex_resolve.specs.declared.violation.Violation.{Violation}
use Rattle.annex_resolve.specs.BehavioursAndFindings.{states_of, transitions_of, edge_of, parts_by, behaviour_of}
use Rattle.annex_resolve.specs.BehavioursAndFindings.{transition_findings, rule_findings, annex_findings}
use Rattle.annex_resolve.proofs.ResolvedTermsAndSums.{take_next}

numbered_next : {A B : Type 0} (f : ℕ × A → List B) (xs : List A) (i : ℕ) (x : A) → i < length xs → x ≡ get_or xs i x
    → flat_map f (enumerate_from 0 (take (i + 1) xs)) ≡ flat_map f (enumerate_from 0 (take i xs)) ++ f (i, x)
numbered_next f xs i x within is =
    let e : 0 + length (take i xs) ≡ i = (let g = length-take_within xs i within in omega (arith, g)) in
    ap (λ l. flat_map f (enumerate_from 0 l)) (take_next xs i x within is)
    ∙ ap (flat_map f) (enumerate_from-push 0 (take i xs) x)
    ∙ flat_map-append f (enumerate_from 0 (take i xs)) ((0 + length (take i xs), x) ∷ [])
    ∙ ap (λ l. flat_map f (enumerate_from 0 (take i xs)) ++ l) (append-nil (f (0 + length (take i xs), x)))
    ∙ ap (λ n. flat_map f (enumerate_from 0 (take i xs)) ++ f (n, x)) e

pub one_more_state : {A B : Type 0} (f : ℕ × A → List B) (xs : List A) (i : ℕ) (x : A) (b m a : List B) → i < length xs
    → x ≡ get_or xs i x → m ≡ b ++ flat_map f (enumerate_from 0 (take i xs)) → a ≡ m ++ f (i, x)
    → a ≡ b ++ flat_map f (enumerate_from 0 (take (i + 1) xs))
one_more_state f xs i x b m a within is before added =
    added ∙ ap (λ l. l ++ f (i, x)) before ∙ append_assoc b (flat_map f (enumerate_from 0 (take i xs))) (f (i, x))
    ∙ ap (λ l. b ++ l) (sym (numbered_next f xs i x within is))

pub annex_found : (values : DeclaredValues) (scope : Scope) (at : ℕ) (annex : AnnexTree ℕ) (ts : List (Transition ℕ))
    (ss zs rs : List StateAt) (edges : List Edge) (b : BehaviourParts) (m0 m1 m2 : List Violation)
    → ts ≡ transitions_of annex → ss ≡ states_of annex → zs ≡ states_of annex → rs ≡ states_of annex
    → edges ≡ map (edge_of scope ss) ts → b ≡ parts_by values zs edges
    → m1 ≡ m0 ++ flat_map (transition_findings scope) ts → m2 ≡ m1 ++ rule_findings at b rs ts
    → m2 ≡ m0 ++ annex_findings values scope at annex
annex_found values scope at annex ts ss zs rs edges b m0 m1 m2 ts_are ss_are zs_are rs_are edges_are b_is typed ruled =
    let fs = flat_map (transition_findings scope) (transitions_of annex) in
    let b_all : b ≡ behaviour_of values scope annex = b_is ∙ ap (λ z. parts_by values z edges) zs_are
    ∙ ap (parts_by values (states_of annex))
    (edges_are ∙ ap (λ z. map (edge_of scope z) ts) ss_are ∙ ap (map (edge_of scope (states_of annex))) ts_are) in
    ruled ∙ ap (λ l. l ++ rule_findings at b rs ts)
    (typed ∙ ap (λ l. m0 ++ flat_map (transition_findings scope) l) ts_are)
    ∙ ap (λ p. (m0 ++ fs) ++ rule_findings at p rs ts) b_all
    ∙ ap (λ z. (m0 ++ fs) ++ rule_findings at (behaviour_of values scope annex) z ts) rs_are
    ∙ ap (λ z. (m0 ++ fs) ++ rule_findings at (behaviour_of values scope annex) (states_of annex) z) ts_are
    ∙ append_assoc m0 fs (rule_findings at (behaviour_of values scope annex) (states_of annex) (transitions_of annex))
