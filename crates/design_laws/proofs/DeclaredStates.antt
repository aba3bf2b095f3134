-- The states that transitions name are declared.
use Rattle.std.proofs.Common.{◌≡◌, ◌∙◌, ℕ, ◌+◌, ◌<◌, suc, Bool, true, false, nat_lt, cond, ◌||◌, List, [], ◌∷◌, ◌++◌}
use Rattle.std.proofs.Common.{length, Some, None, refl, sym, ap, subst, arith}
use Rattle.std.specs.Prelude.{IsTrue}
use Rattle.std.specs.List.{list_any, list_all, position_or_len}
use Rattle.std.specs.Option.{unwrap_or}
use Rattle.std.proofs.lemmas.Bool.{false≢true, lt-ltb, and_from}
use Rattle.std.proofs.lemmas.List.Recursion.{is_position_or_len}
use Rattle.list_lemmas.proofs.ListOperations.{append_is_nil_right, append_is_nil_left}
use Rattle.list_lemmas.proofs.Elements.{list_any-map, AllByRecursion-weaker}
use Rattle.aadl_tree.specs.Names.{Identifier, same_name}
use Rattle.aadl_tree.specs.Annexes.{Transition, AnnexTree}
use Rattle.aadl_tree.specs.Declarations.{Implementation, PackageTree}
use Rattle.aadl_names.specs.declared.fault.PackageFault.{PackageFault}
use Rattle.aadl_names.specs.declared.fault.PackageFault.TheVariants.{Unknown}
use Rattle.aadl_names.specs.NameUseFaults.{NameRoles}
use Rattle.aadl_names.specs.BehaviourAnnexes as names
use Rattle.aadl_names.specs.PackageNameFaults.{is_among, known_in, state_uses, guard_uses, effect_uses, transition_uses}
use Rattle.aadl_names.specs.PackageNameFaults.{behaviour_faults}
use Rattle.aadl_names.proofs.DuplicatesBesidePorts.{same_name-swapped}
use Rattle.annex_resolve.specs.declared.states.StateAt.{StateAt}
use Rattle.annex_resolve.specs.BehavioursAndFindings.{states_of, first_number, state_number, transitions_of}
use Rattle.design_laws.specs.proof.FittingAnnexNames.{is_declared}
use Rattle.design_laws.proofs.PairwiseDistinctNames.{all_none}
use Rattle.design_laws.proofs.ElementAndPairwiseProperties.{all_true}
use Rattle.design_laws.proofs.BehaviourNames.{same_states}

-- ---- the first element that passes is in the list, if some element passes
abbrev place : {X : Type 0} → (X → Bool) → List X → ℕ
place p [] = 0
place p (x ∷ xs) = cond (p x) 0 (suc (place p xs))

place_is : {X : Type 0} (p : X → Bool) (xs : List X) → place p xs ≡ position_or_len p xs
place_is p xs =
    is_position_or_len (place p) p refl
    (λ x ys. let e : suc (place p ys) ≡ 1 + place p ys = omega arith in ap (cond (p x) 0) e) xs

place_by : (b any : Bool) (n long : ℕ) → (any ≡ true → n < long) → (b || any) ≡ true → cond b 0 (suc n) < suc long
place_by true any n long later some = omega arith
place_by false any n long later some = let h = later some in omega (arith, h)

place_within : {X : Type 0} (p : X → Bool) (xs : List X) → list_any p xs ≡ true → place p xs < length xs
place_within p [] some = absurd (false≢true some)
place_within p (x ∷ xs) some = place_by (p x) (list_any p xs) (place p xs) (length xs) (place_within p xs) some

pub first_within : {X : Type 0} (p : X → Bool) (xs : List X) → list_any p xs ≡ true → first_number p xs < length xs
first_within p xs some =
    let at = position_or_len p xs in
    let within : at < length xs = subst (λ n. n < length xs) (place_is p xs) (place_within p xs some) in
    let first : first_number p xs ≡ at =
    ap (λ t. unwrap_or (cond t (Some at) None) (length xs)) (lt-ltb at (length xs) within) in
    subst (λ n. n < length xs) (sym first) within

-- ---- some of a list
any_by : (a b c d : Bool) → (a ≡ true → b ≡ true) → (c ≡ true → d ≡ true) → (a || c) ≡ true → (b || d) ≡ true
any_by true b c d first later some = rw (first refl) refl
any_by false true c d first later some = refl
any_by false false c d first later some = later some

any_weaker : {X : Type 0} (p q : X → Bool) → ((x : X) → p x ≡ true → q x ≡ true) → (xs : List X) → list_any p xs ≡ true
    → list_any q xs ≡ true
any_weaker p q each [] some = some
any_weaker p q each (x ∷ xs) some =
    any_by (p x) (q x) (list_any p xs) (list_any q xs) (each x) (any_weaker p q each xs) some

-- ---- states
state_within : (annex : AnnexTree ℕ) (name : List ℕ) → is_among (names.states_of annex) name ≡ true
    → nat_lt (state_number (states_of annex) name) (length (states_of annex)) ≡ true
state_within annex name among =
    let spelled = list_any-map (same_name name) (λ (x : Identifier ℕ). x.spelling) (names.states_of annex) in
    let same = ap (list_any (same_name name)) (same_states annex.states) in
    let seen = list_any-map (same_name name) (λ (s : StateAt). s.name) (states_of annex) in
    let some : list_any (λ (s : StateAt). same_name name s.name) (states_of annex)
    ≡ true = sym seen ∙ (same ∙ (spelled ∙ among)) in
    let turned =
    any_weaker (λ (s : StateAt). same_name name s.name) (λ (s : StateAt). same_name s.name name)
    (λ s h. same_name-swapped name s.name h)
    (states_of annex) some in
    lt-ltb (state_number (states_of annex) name) (length (states_of annex))
    (first_within (λ (s : StateAt). same_name s.name name) (states_of annex) turned)

is_state_by : (b : Bool) (fault : PackageFault) → cond b [] (fault ∷ []) ≡ [] → b ≡ true
is_state_by true fault e = refl
is_state_by false fault e = absurd (cc e)

is_known : (is_state : List ℕ → Bool) (x : Identifier ℕ) → state_uses is_state x ≡ [] → is_state x.spelling ≡ true
is_known is_state x none = is_state_by (is_state x.spelling) (Unknown x.spelling x.at) none

declared_by : (annex : AnnexTree ℕ) (known : NameRoles) (t : Transition ℕ)
    → transition_uses (is_among (names.states_of annex)) known t ≡ []
    → is_declared (states_of annex) t ≡ true
declared_by annex known t none =
    let is_state = is_among (names.states_of annex) in
    let ends =
    append_is_nil_left (state_uses is_state t.source ++ state_uses is_state t.target) (guard_uses known t.guard)
    (append_is_nil_left (state_uses is_state t.source ++ state_uses is_state t.target ++ guard_uses known t.guard)
    (effect_uses known t.effect) none) in
    let source =
    is_known is_state t.source
    (append_is_nil_left (state_uses is_state t.source) (state_uses is_state t.target) ends) in
    let target =
    is_known is_state t.target
    (append_is_nil_right (state_uses is_state t.source) (state_uses is_state t.target) ends) in
    and_from (nat_lt (state_number (states_of annex) t.source.spelling) (length (states_of annex)))
    (nat_lt (state_number (states_of annex) t.target.spelling) (length (states_of annex)))
    (state_within annex t.source.spelling source) (state_within annex t.target.spelling target)

pub all_declared : (tree : PackageTree ℕ) (x : Implementation ℕ) (annex : AnnexTree ℕ)
    → behaviour_faults tree x annex ≡ []
    → IsTrue (list_all (is_declared (states_of annex)) (transitions_of annex))
unfolding behaviour_faults
all_declared tree x annex none =
    let uses = transition_uses (is_among (names.states_of annex)) (known_in tree x annex) in
    let each = all_none uses (transitions_of annex) none in
    all_true (is_declared (states_of annex)) (transitions_of annex)
    (AllByRecursion-weaker (λ t. uses t ≡ []) (λ t. is_declared (states_of annex) t ≡ true)
    (λ t h. declared_by annex (known_in tree x annex) t h)
    (transitions_of annex) each)

-- ---- the first behaviour of a thread's implementation
pub of_thread : {Y : Type 0} (b : Bool) (xs ys zs : List Y) → b ≡ true → cond b (xs ++ ys) zs ≡ [] → xs ≡ []
of_thread true xs ys zs is e = append_is_nil_left xs ys e
of_thread false xs ys zs is e = absurd (cc is)
