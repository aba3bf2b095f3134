-- The stack heights that the verifier has after a place are the heights of the paths from places below it.
use Rattle.std.proofs.Common.{◌≡◌, ◌∙◌, ℕ, zero, suc, ◌+◌, ◌<◌, ◌≤◌, Bool, false, List, length, Option, Some, None}
use Rattle.std.proofs.Common.{option_to_list, sym, ap, subst, ⊎_elim, arith, slice_index_or}
use Rattle.std.specs.Prelude.{slice_get}
use Rattle.std.proofs.lemmas.Bool.{cases_lt, cases_eq}
use Rattle.std.proofs.lemmas.Option.{slice_get-get_or}
use Rattle.step_code.specs.declared.instr.Instr.{Instr}
use Rattle.step_code.specs.declared.instr.Instr.TheVariants.{Store, Jump, JumpZero, LoopStart, LoopNext, Emit, End}
use Rattle.step_code.specs.SuccessorsAndWeights.{forward_successors}
use Rattle.step_code.specs.proof.StackHeights.{after, Member, Reaches, ComesFromBelow, Given, all_successors}
use Rattle.step_code.specs.proof.VerifierRules.{on_some}
use Rattle.step_code.specs.proof.VerifierIntermediateResults.{Holds, Clashes, AreHeights, PassesOn}
use Rattle.step_code.proofs.ListMembers.{member_right, member_or_not}

-- ---- the height of the stack is at most the place
after_little : (h : ℕ) (i : Instr) → after h i ≤ h + 1
after_little h (Store x) = omega arith
after_little h (Jump to) = omega arith
after_little h (JumpZero to) = omega arith
after_little h (LoopStart slot low high exit) = omega arith
after_little h (LoopNext slot high to) = omega arith
after_little h (Emit x) = omega arith
after_little h (End state) = omega arith
after_little h other = omega arith

pub low_stack : (code : List Instr) (entries : List (Option ℕ)) (n p h : ℕ) → Reaches code entries n p h → h ≤ p
low_stack code entries zero p h r = let e = r.1 in omega arith
low_stack code entries (suc n) p h r =
    let below = low_stack code entries n r.0 r.1 r.3 in
    let later = r.7 in
    let little = after_little r.1 r.2 in
    let e = r.8 in
    omega arith

pub low_held : (code : List Instr) (entries heights : List (Option ℕ)) (below p h : ℕ)
    → AreHeights code entries below heights → p < length code → Holds heights p h → h ≤ p
low_held code entries heights below p h are within held = let g = are.given p h within held in
    low_stack code entries g.steps p h g.path

-- ---- heights given from below
from_more : (code : List Instr) (entries : List (Option ℕ)) (b b' n p h : ℕ) (r : Reaches code entries n p h) → b ≤ b'
    → ComesFromBelow code entries b n p h r → ComesFromBelow code entries b' n p h r
from_more code entries b b' zero p h r le from = tt
from_more code entries b b' (suc n) p h r le from = omega arith

given_more : (code : List Instr) (entries : List (Option ℕ)) (b b' p h : ℕ) → b ≤ b' → Given code entries b p h
    → Given code entries b' p h
given_more code entries b b' p h le g =
    record { steps = g.steps; path = g.path; from = from_more code entries b b' g.steps p h g.path le g.from }

from_itself : (code : List Instr) (entries : List (Option ℕ)) (n p h : ℕ) (r : Reaches code entries n p h)
    → ComesFromBelow code entries p n p h r
from_itself code entries zero p h r = tt
from_itself code entries (suc n) p h r = r.7

-- a path's height is the one that is held
pub reached_held : (code : List Instr) (entries heights : List (Option ℕ)) (n p h : ℕ)
    → AreHeights code entries p heights → p < length code → Reaches code entries n p h → Holds heights p h
reached_held code entries heights n p h are within r =
    are.held p h within (record { steps = n; path = r; from = from_itself code entries n p h r })

pub one_height : (heights : List (Option ℕ)) (p h k : ℕ) → Holds heights p h → Holds heights p k → h ≡ k
one_height heights p h k a b = let twice : ◌≡◌ {A = Option (Option ℕ)} (Some (Some h)) (Some (Some k)) = sym a ∙ b in cc

-- ---- heights after a place
-- an instruction that no path reaches gives none
split_unreached : (code : List Instr) (entries heights : List (Option ℕ)) (p t k n : ℕ)
    → AreHeights code entries p heights → p < length code → slice_get heights p ≡ Some None → t < length code
    → (r : Reaches code entries n t k) → ComesFromBelow code entries (p + 1) n t k r → Holds heights t k
split_unreached code entries heights p t k zero are within none small r from =
    are.held t k small (record { steps = zero; path = r; from = tt })
split_unreached code entries heights p t k (suc n) are within none small r from =
    ⊎_elim
    (λ (less : r.0 < p). are.held t k small (record { steps = suc n; path = r; from = less }))
    (λ (ge : p ≤ r.0).
    let same : r.0 ≡ p = omega arith in
    let there =
    reached_held code entries heights n p r.1 are within (subst (λ q. Reaches code entries n q r.1) same r.3) in
    let no : ◌≡◌ {A = Option (Option ℕ)} (Some None) (Some (Some r.1)) = sym none ∙ there in cc)
    (cases_lt r.0 p)

pub unreached_heights : (code : List Instr) (entries heights : List (Option ℕ)) (p : ℕ)
    → AreHeights code entries p heights → p < length code → slice_get heights p ≡ Some None
    → AreHeights code entries (p + 1) heights
unreached_heights code entries heights p are within none = record {
  count = are.count;
  given = λ t k small held. given_more code entries p (p + 1) t k (omega arith) (are.given t k small held);
  held = λ t k small g. split_unreached code entries heights p t k g.steps are within none small g.path g.from;
}

-- a place that no instruction gives another height has this one
agreed : (heights : List (Option ℕ)) (places : List ℕ) (t k a : ℕ) → ¬ Clashes heights places a → Member places t
    → Holds heights t k → k ≡ a
agreed heights places t k a none among held =
    ⊎_elim (λ (e : k ≡ a). e)
    (λ (other : k ≡ a → ⊥). absurd
    (none (record { place = t; among = among; other = k; held = held; differs = other }))) (cases_eq k a)

still_held : (old new : List (Option ℕ)) (p h t k : ℕ) (i : Instr) → PassesOn old new p i h → Holds old t k
    → Holds new t k
still_held old new p h t k i on held =
    ⊎_elim
    (λ (among : Member (forward_successors p (Some i)) t).
    let e = agreed old (all_successors p i) t k (after h i) on.same
    (member_right _ (forward_successors p (Some i)) t among) held in
    subst (Holds new t) (sym e) (on.sets.given t among))
    (λ (none : Member (forward_successors p (Some i)) t → ⊥). on.sets.kept t none ∙ held)
    (member_or_not (forward_successors p (Some i)) t)

-- an instruction that a path comes to gives its height
split_reached : (code : List Instr) (entries old new : List (Option ℕ)) (p h t k n : ℕ) (i : Instr)
    → AreHeights code entries p old → p < length code → slice_get code p ≡ Some i → Holds old p h
    → PassesOn old new p i h
    → t < length code → (r : Reaches code entries n t k) → ComesFromBelow code entries (p + 1) n t k r → Holds new t k
split_reached code entries old new p h t k zero i are within here holds on small r from =
    still_held old new p h t k i on (are.held t k small (record { steps = zero; path = r; from = tt }))
split_reached code entries old new p h t k (suc n) i are within here holds on small r from =
    ⊎_elim
    (λ (less : r.0 < p). still_held old new p h t k i on
    (are.held t k small (record { steps = suc n; path = r; from = less })))
    (λ (ge : p ≤ r.0).
    let same : r.0 ≡ p = omega arith in
    let there = reached_held code entries old n p r.1 are within (subst (λ q. Reaches code entries n q r.1) same r.3) in
    let height : h ≡ r.1 = one_height old p h r.1 holds there in
    let instr : Some i ≡ Some r.2 = sym here ∙ ap (slice_get code) (sym same) ∙ r.4 in
    let e : i ≡ r.2 = cc in
    let is : k ≡ after h i = r.8 ∙ ap (λ j. after r.1 j) (sym e) ∙ ap (λ j. after j i) (sym height) in
    let among : Member (forward_successors p (Some i)) t =
    subst (λ j. Member (forward_successors p (Some j)) t) (sym e)
    (subst (λ q. Member (forward_successors q (Some r.2)) t) same r.6) in
    subst (Holds new t) (sym is) (on.sets.given t among))
    (cases_lt r.0 p)

-- its ways on lead to later places
pub record AreLater (p : ℕ) (places : List ℕ) : Type 0 where
  pub each : (t : ℕ) → Member places t → p < t

given_reached : (code : List Instr) (entries old new : List (Option ℕ)) (p h t k : ℕ) (i : Instr)
    → AreHeights code entries p old → p < length code → slice_get code p ≡ Some i → Holds old p h
    → PassesOn old new p i h → AreLater p (forward_successors p (Some i))
    → t < length code → Holds new t k → Given code entries (p + 1) t k
given_reached code entries old new p h t k i are within here holds on later small held =
    ⊎_elim
    (λ (among : Member (forward_successors p (Some i)) t).
    let g = are.given p h within holds in
    let is : k ≡ after h i = one_height new t k (after h i) held (on.sets.given t among) in
    record {
      steps = suc g.steps;
      path = (p, h, i, g.path, here, on.enough, among, later.each t among, is);
      from = omega arith;
    })
    (λ (none : Member (forward_successors p (Some i)) t → ⊥).
    given_more code entries p (p + 1) t k (omega arith) (are.given t k small (sym (on.sets.kept t none) ∙ held)))
    (member_or_not (forward_successors p (Some i)) t)

pub reached_heights : (code : List Instr) (entries old new : List (Option ℕ)) (p h : ℕ) (i : Instr)
    → AreHeights code entries p old → p < length code → slice_get code p ≡ Some i → Holds old p h
    → PassesOn old new p i h → AreLater p (forward_successors p (Some i))
    → AreHeights code entries (p + 1) new
reached_heights code entries old new p h i are within here holds on later = record {
  count = on.sets.count ∙ are.count;
  given = λ t k small held. given_reached code entries old new p h t k i are within here holds on later small held;
  held =
      λ t k small g. split_reached code entries old new p h t k g.steps i are within here holds on small g.path g.from;
}

-- ---- where the ways on lead
pub on_jump : (o : Option ℕ) (t : ℕ) (test : ℕ → Bool) → on_some o test ≡ false → Member (option_to_list o) t
    → test t ≡ false
on_jump None t test is among = absurd among
on_jump (Some to) t test is among =
    ⊎_elim (λ (e : to ≡ t). subst (λ k. test k ≡ false) e is) (λ none. absurd none) among

pub held_at : (hs : List (Option ℕ)) (p n : ℕ) (x : Option ℕ) → length hs ≡ n → p < n → slice_index_or hs p None ≡ x
    → slice_get hs p ≡ Some x
held_at hs p n x count within is = slice_get-get_or hs p None (omega arith) ∙ ap Some is
