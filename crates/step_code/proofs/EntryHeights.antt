-- The stack heights that the verifier starts with: 0 at each entry of the code, and none elsewhere.
use Rattle.std.proofs.Common.{◌≡◌, ◌∙◌, inl, ℕ, ◌+◌, ◌<◌, ◌≤◌, List, [], ◌∷◌, ◌++◌, length, Option, Some, None, sym, ap}
use Rattle.std.proofs.Common.{subst, ⊎_elim, arith, take, slice_index_or}
use Rattle.std.specs.Prelude.{slice_get, slice_set}
use Rattle.std.proofs.lemmas.List.{length-set, take_more}
use Rattle.std.proofs.lemmas.Option.{slice_get-get_or}
use Rattle.step_code.specs.proof.StackHeights.{Member}
use Rattle.step_code.specs.proof.VerifierIntermediateResults.{Holds}
use Rattle.step_code.proofs.ListMembers.{get_set_other, get_set_same, member_left, member_right, member_either}
use Rattle.step_code.proofs.ListMembers.{member_or_not}

-- the heights that these entries give
pub record AreEntered (n : ℕ) (entries heights : List (Option ℕ)) : Type 0 where
  pub count : length heights ≡ n
  pub given : (p h : ℕ) → Holds heights p h → Member entries (Some p) × (h ≡ 0)
  pub held : (p : ℕ) → p < n → Member entries (Some p) → Holds heights p 0

-- one more entry
pub entered_in : (n p : ℕ) (es hs : List (Option ℕ)) → AreEntered n es hs → p < n
    → AreEntered n (es ++ Some p ∷ []) (slice_set hs p (Some 0))
entered_in n p es hs e within =
    let count = e.count in
    record {
      count = length-set hs p (Some 0) ∙ e.count;
      given = λ q h is.
          ⊎_elim
          (λ (same : Member (p ∷ []) q). ⊎_elim
          (λ (x : p ≡ q).
          let there = get_set_same hs p (Some 0) _ (slice_get-get_or hs p None (omega arith)) in
          let twice : ◌≡◌ {A = Option (Option ℕ)} (Some (Some 0)) (Some (Some h)) = sym there
          ∙ ap (slice_get (slice_set hs p (Some 0))) x ∙ is in
          (member_right es (Some p ∷ []) (Some q) (inl (ap Some x)), cc))
          (λ none. absurd none) same)
          (λ (other : Member (p ∷ []) q → ⊥).
          let before = e.given q h (sym (get_set_other hs p q (Some 0) (λ x. other (inl x))) ∙ is) in
          (member_left es (Some p ∷ []) (Some q) before.0, before.1))
          (member_or_not (p ∷ []) q);
      held = λ q small among.
          ⊎_elim
          (λ (same : Member (p ∷ []) q). ⊎_elim
          (λ (x : p ≡ q). subst (λ k. Holds (slice_set hs p (Some 0)) k 0) x
          (get_set_same hs p (Some 0) _ (slice_get-get_or hs p None (omega arith))))
          (λ none. absurd none) same)
          (λ (other : Member (p ∷ []) q → ⊥).
          get_set_other hs p q (Some 0) (λ x. other (inl x))
          ∙ ⊎_elim (λ (a : Member es (Some q)). e.held q small a)
          (λ (b : Member (Some p ∷ []) (Some q)).
          ⊎_elim (λ (x : Some p ≡ Some q). let y : p ≡ q = cc in absurd (other (inl y))) (λ none. absurd none)
          b) (member_either es (Some p ∷ []) (Some q) among))
          (member_or_not (p ∷ []) q);
    }

pub entered_out : (n p : ℕ) (es hs : List (Option ℕ)) → AreEntered n es hs → n ≤ p → AreEntered n (es ++ Some p ∷ []) hs
entered_out n p es hs e beyond = record {
  count = e.count;
  given = λ q h is. let before = e.given q h is in (member_left es (Some p ∷ []) (Some q) before.0, before.1);
  held = λ q small among.
      ⊎_elim (λ (a : Member es (Some q)). e.held q small a)
      (λ (b : Member (Some p ∷ []) (Some q)).
      ⊎_elim (λ (x : Some p ≡ Some q). let y : p ≡ q = cc in absurd (omega arith)) (λ none. absurd none) b)
      (member_either es (Some p ∷ []) (Some q) among);
}

pub entered_none : (n : ℕ) (es hs : List (Option ℕ)) → AreEntered n es hs → AreEntered n (es ++ None ∷ []) hs
entered_none n es hs e = record {
  count = e.count;
  given = λ q h is. let before = e.given q h is in (member_left es (None ∷ []) (Some q) before.0, before.1);
  held = λ q small among.
      ⊎_elim (λ (a : Member es (Some q)). e.held q small a)
      (λ (b : Member (None ∷ []) (Some q)).
      ⊎_elim (λ (x : ◌≡◌ {A = Option ℕ} None (Some q)). cc) (λ none. absurd none) b)
      (member_either es (None ∷ []) (Some q) among);
}

-- the entries so far, and one more
pub entered_more : (n i : ℕ) (es all hs : List (Option ℕ)) (x : Option ℕ) → all ≡ es → i < length all
    → slice_index_or all i None ≡ x → AreEntered n (take i es ++ x ∷ []) hs → AreEntered n (take (i + 1) es) hs
entered_more n i es all hs x same within is e =
    let size = ap length same in
    let more : take (i + 1) es ≡ take i es ++ x ∷ [] = take_more es i None (omega arith)
    ∙ ap (λ y. take i es ++ y ∷ []) (ap (λ l. slice_index_or l i None) (sym same) ∙ is) in
    subst (λ l. AreEntered n l hs) (sym more) e
