-- The transitions of the numbers in a group are the transitions that leave its state.
use Rattle.std.proofs.Common.{◌≡◌, ℕ, zero, suc, ◌+◌, ◌<◌, Bool, true, false, ◌&&◌, cond, nat_eq, List, [], ◌∷◌, ◌++◌}
use Rattle.std.proofs.Common.{length, drop}
use Rattle.std.proofs.Common.{drop-cons, get_or, add-one, Some, None, refl, sym, ap, ◌∙◌, arith}
use Rattle.std.specs.Prelude.{filter, slice_get, slice_index_or, nat_lt}
use Rattle.std.specs.List.{list_all}
use Rattle.std.proofs.lemmas.Bool.{and_parts, ltb-true}
use Rattle.pals_base.specs.BehaviourRules.{is_edge, has_condition, IsBehaviour}
use Rattle.pals_base.specs.TypingRules.{are_sound}
use Rattle.pals_base.specs.declared.behaviour.BehaviourParts.{BehaviourParts}
use Rattle.pals_base.specs.SingleStep.{leaving}
use Rattle.pals_base.specs.ExpressionAndActionTrees.{Edge}
use Rattle.behaviour_sem.specs.proof.GroupedTransitions.{sources_of, numbers_of, with_first, numbered}

-- ---- groups that are made
more_by : (b : Bool) (at k : ℕ) (ns ms : List ℕ) (c : Bool) → ms ≡ cond c (ns ++ k ∷ []) ns
    → cond b (at ∷ ms) ms ≡ cond c (cond b (at ∷ ns) ns ++ k ∷ []) (cond b (at ∷ ns) ns)
more_by true at k ns ms true is = ap (λ l. at ∷ l) is
more_by true at k ns ms false is = ap (λ l. at ∷ l) is
more_by false at k ns ms true is = is
more_by false at k ns ms false is = is

-- one more transition
pub numbers-more : (state at : ℕ) (sources : List ℕ) (source : ℕ)
    → numbers_of state at (sources ++ source ∷ [])
    ≡ cond (nat_eq source state) (numbers_of state at sources ++ (at + length sources) ∷ [])
    (numbers_of state at sources)
numbers-more state at [] source = ap (λ n. cond (nat_eq source state) (n ∷ []) []) (omega arith)
numbers-more state at (s ∷ sources) source =
    let k : suc at + length sources ≡ at + suc (length sources) = omega arith in
    more_by (nat_eq s state) at (at + suc (length sources)) (numbers_of state (suc at) sources)
    (numbers_of state (suc at) (sources ++ source ∷ [])) (nat_eq source state)
    (numbers-more state (suc at) sources source
    ∙ ap (λ n. cond (nat_eq source state) (numbers_of state (suc at) sources ++ n ∷ [])
    (numbers_of state (suc at) sources)) k)

-- ---- groups that are read
got : (k : ℕ) (all : List Edge) (e : Edge) (es : List Edge) → drop k all ≡ e ∷ es → slice_get all k ≡ Some e
got zero all e es h = ap (λ (l : List Edge). slice_get l 0) h
got (suc k) [] e es h = cc
got (suc k) (a ∷ all) e es h = got k all e es h

next : (k : ℕ) (all : List Edge) (e : Edge) (es : List Edge) → drop k all ≡ e ∷ es → drop (suc k) all ≡ es
next zero all e es h = ap (drop 1) h
next (suc k) [] e es h = cc
next (suc k) (a ∷ all) e es h = next k all e es h

leaving_by : (b : Bool) (k : ℕ) (all : List Edge) (e : Edge) (ns : List ℕ) (es : List Edge) → slice_get all k ≡ Some e
    → numbered all ns ≡ es → numbered all (cond b (k ∷ ns) ns) ≡ cond b (e ∷ es) es
leaving_by true k all e ns es here rest =
    ap (λ o. with_first o (numbered all ns)) here ∙ ap (λ l. e ∷ l) rest
leaving_by false k all e ns es here rest = rest

pub leaving-from : (state k : ℕ) (all es : List Edge) → drop k all ≡ es
    → numbered all (numbers_of state k (sources_of es)) ≡ filter (λ (e : Edge). nat_eq e.source state) es
leaving-from state k all [] h = refl
leaving-from state k all (e ∷ es) h =
    leaving_by (nat_eq e.source state) k all e (numbers_of state (suc k) (sources_of es))
    (filter (λ (e : Edge). nat_eq e.source state) es) (got k all e es h)
    (leaving-from state (suc k) all es (next k all e es h))

-- the transitions of the numbers that are read from the groups of a behaviour
pub leaving-read : (b : BehaviourParts) (state : ℕ) (all : List Edge) (ns sources : List ℕ) → all ≡ b.transitions
    → ns ≡ numbers_of state 0 sources → sources ≡ sources_of b.transitions → numbered all ns ≡ leaving b state
leaving-read b state all ns sources all_is ns_is sources_is =
    ap (λ es. numbered es ns) all_is
    ∙ ap (numbered b.transitions) (ns_is ∙ ap (numbers_of state 0) sources_is)
    ∙ leaving-from state 0 b.transitions b.transitions refl

-- the transitions from a number on
pub numbered-from : (all : List Edge) (ns : List ℕ) (i : ℕ) → i < length ns
    → numbered all (drop i ns) ≡ with_first (slice_get all (get_or ns i 0)) (numbered all (drop (i + 1) ns))
numbered-from all ns i within =
    ap (numbered all) (drop-cons ns i 0 within)
    ∙ ap (λ m. with_first (slice_get all (get_or ns i 0)) (numbered all (drop m ns))) (sym (add-one i))

-- a group of no state is empty
pub no_numbers : (groups : List (List ℕ)) (state : ℕ) (ns : List ℕ) → slice_get groups state ≡ None
    → slice_index_or groups state [] ≡ ns → [] ≡ ns
no_numbers [] state ns none is = is
no_numbers (g ∷ groups) zero ns none is = cc
no_numbers (g ∷ groups) (suc state) ns none is = no_numbers groups state ns none is

-- one more empty group
pub empty-more : (groups : List (List ℕ)) (state : ℕ) → ((s : ℕ) → slice_index_or groups s [] ≡ [])
    → slice_index_or (groups ++ [] ∷ []) state [] ≡ []
empty-more [] zero empty = refl
empty-more [] (suc state) empty = refl
empty-more (g ∷ groups) zero empty = empty 0
empty-more (g ∷ groups) (suc state) empty = empty-more groups state (λ s. empty (suc s))

-- a transition of a behaviour leaves one of its states
all-at : (p : Edge → Bool) (es : List Edge) (i : ℕ) (e : Edge) → list_all p es ≡ true → i < length es
    → e ≡ get_or es i e → p e ≡ true
all-at p [] i e all within is = absurd (omega arith)
all-at p (x ∷ es) zero e all within is = ap p is ∙ (and_parts (p x) (list_all p es) all).0
all-at p (x ∷ es) (suc i) e all within is =
    all-at p es i e (and_parts (p x) (list_all p es) all).1 (omega arith) is

pub leaves-state : (b : BehaviourParts) (items : List Edge) (at : ℕ) (item : Edge) → items ≡ b.transitions
    → at < length items → item ≡ get_or items at item → IsBehaviour b → item.source < length b.states
leaves-state b items at item same within is rules =
    let edge = all-at (is_edge b) items at item (ap (list_all (is_edge b)) same ∙ rules.edges) within is in
    let source = nat_lt item.source (length b.states) in
    let target = nat_lt item.target (length b.states) in
    let guard = has_condition b item.trigger in
    let first = and_parts (source && target && guard) (are_sound item.actions b 0 1) edge in
    let second = and_parts (source && target) guard first.0 in
    ltb-true item.source (length b.states) (and_parts source target second.0).0

-- the groups with one more transition
pub grown : (state at : ℕ) (sources more : List ℕ) (source : ℕ) (new old : List ℕ) → more ≡ sources ++ source ∷ []
    → old ≡ numbers_of state 0 sources → at ≡ length sources
    → new ≡ cond (nat_eq source state) (old ++ at ∷ []) old → new ≡ numbers_of state 0 more
grown state at sources more source new old more_is old_is at_is new_is =
    let number : at ≡ 0 + length sources = omega (arith, at_is) in
    new_is ∙ ap (λ l. cond (nat_eq source state) (l ++ at ∷ []) l) old_is
    ∙ ap (λ n. cond (nat_eq source state) (numbers_of state 0 sources ++ n ∷ []) (numbers_of state 0 sources)) number
    ∙ sym (numbers-more state 0 sources source)
    ∙ sym (ap (numbers_of state 0) more_is)
