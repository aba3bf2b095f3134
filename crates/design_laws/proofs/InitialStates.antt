-- If exactly one state is initial, and it is complete, a behaviour can start there.
use Rattle.std.proofs.Common.{◌≡◌, ℕ, ◌+◌, ◌<◌, suc, Bool, true, false, nat_lt, ◌==◌, cond, List, [], ◌∷◌, length, map}
use Rattle.std.proofs.Common.{Some, None, refl, sym, ap, ◌∙◌, subst, arith}
use Rattle.std.specs.Prelude.{filter, slice_get, option_map}
use Rattle.std.specs.List.{list_all, position_or_len}
use Rattle.std.specs.Option.{unwrap_or}
use Rattle.std.proofs.lemmas.Bool.{eqb-true, lt-ltb, and_parts}
use Rattle.std.proofs.lemmas.List.Recursion.{is_position_or_len}
use Rattle.std.proofs.lemmas.Option.{slice_get-map, slice_get_within}
use Rattle.pals_base.specs.SingleStep.{may_begin}
use Rattle.annex_resolve.specs.declared.states.StateAt.{StateAt}
use Rattle.annex_resolve.specs.BehavioursAndFindings.{declared, first_initial, has_initial}

abbrev place : List StateAt → ℕ
place [] = 0
place (s ∷ ss) = cond s.initial 0 (suc (place ss))

place_is : (xs : List StateAt) → place xs ≡ position_or_len (λ (s : StateAt). s.initial) xs
place_is xs =
    is_position_or_len place (λ (s : StateAt). s.initial) refl
    (λ s ss. let e : suc (place ss) ≡ 1 + place ss = omega arith in ap (cond s.initial 0) e) xs

-- an initial state that is complete
abbrev Begins : List StateAt → ℕ → Type 0
Begins xs n = (s : StateAt) × (slice_get xs n ≡ Some s) × (s.complete ≡ true)

begins_by : (i : Bool) (x : StateAt) (xs rest : List StateAt)
    → list_all (λ s. s.complete) (cond i (x ∷ rest) rest) ≡ true → (length (cond i (x ∷ rest) rest) ≡ 0 → ⊥)
    → (list_all (λ s. s.complete) rest ≡ true → (length rest ≡ 0 → ⊥) → Begins xs (place xs))
    → Begins (x ∷ xs) (cond i 0 (suc (place xs)))
begins_by true x xs rest all some later =
    (x, refl, (and_parts x.complete (list_all (λ (s : StateAt). s.complete) rest) all).0)
begins_by false x xs rest all some later = later all some

begins : (xs : List StateAt) → list_all (λ s. s.complete) (filter (λ s. s.initial) xs) ≡ true
    → (length (filter (λ (s : StateAt). s.initial) xs) ≡ 0 → ⊥) → Begins xs (place xs)
begins [] all some = absurd (some refl)
begins (x ∷ xs) all some = begins_by x.initial x xs (filter (λ (s : StateAt). s.initial) xs) all some (begins xs)

first_is : (xs : List StateAt) → place xs < length xs → first_initial xs ≡ place xs
first_is xs within =
    let p : ℕ = position_or_len (λ (s : StateAt). s.initial) xs in
    let below : nat_lt p (length xs) ≡ true = lt-ltb p (length xs) (subst (λ n. n < length xs) (place_is xs) within) in
    ap (λ t. unwrap_or (cond t (Some p) None) (length xs)) below ∙ sym (place_is xs)

pub may_begin_there : (xs : List StateAt) → has_initial xs ≡ true
    → may_begin (slice_get (map declared xs) (first_initial xs)) ≡ true
may_begin_there xs has =
    let p =
    and_parts (length (filter (λ (s : StateAt). s.initial) xs) == 1)
    (list_all (λ (s : StateAt). s.complete) (filter (λ (s : StateAt). s.initial) xs)) has in
    let one = eqb-true (length (filter (λ (s : StateAt). s.initial) xs)) 1 p.0 in
    let s = begins xs p.1 (λ zero'. let bad : 0 ≡ 1 = sym zero' ∙ one in cc bad) in
    ap (λ n. may_begin (slice_get (map declared xs) n)) (first_is xs (slice_get_within xs (place xs) s.0 s.1))
    ∙ ap may_begin (slice_get-map declared xs (place xs) ∙ ap (option_map declared) s.1) ∙ s.2
