-- The picks that a clock's list gives for a node's targets, one after another.
use Rattle.std.proofs.Common.{◌≡◌, inl, inr, ℕ, zero, suc, ◌+◌, ◌≤◌, nat_lt, Bool, true, false, cond, List, [], ◌∷◌}
use Rattle.std.proofs.Common.{◌++◌, length, take, drop, slice_get, Some, refl, sym, ap, ◌∙◌, arith, length-append}
use Rattle.std.proofs.lemmas.Bool.{ltb-true, false_from_ne_true}
use Rattle.std.proofs.lemmas.List.{take_more, length-take-le, take-append-drop, append-nil}
use Rattle.std.proofs.lemmas.List.Sums.{fold-append}
use Rattle.std.proofs.lemmas.Option.{slice_get_within, get_or_from_slice_get}
use Rattle.pals_base.specs.ClockPicks.{remaining_from, picked, picks}
use Rattle.pals_clock.specs.ClockStates.{ClockState, standing_at, left_after}
use Rattle.pals_clock.proofs.RemainingReadingsAndPicks.{picks_append}
use Rattle.bus_machine.specs.declared.plan.Plan.{Plan}
use Rattle.bus_machine.specs.Nodes.{NodeState}
use Rattle.bus_machine.specs.ActionsAndTargets.{targets}
use Rattle.run_laws.specs.NodeActions.{Follows}
use Rattle.run_laws.specs.proof.ListPicks.{IsPicked}

-- ---- the position of a clock
idem_by : (r : ℕ) (later : List ℕ) (target : ℕ) (b : Bool) → nat_lt r target ≡ b
    → remaining_from (remaining_from later target) target ≡ remaining_from later target
    → remaining_from (cond b (remaining_from later target) (r ∷ later)) target
    ≡ cond b (remaining_from later target) (r ∷ later)
idem_by r later target true is same = same
idem_by r later target false is same = ap (λ b. cond b (remaining_from later target) (r ∷ later)) is

pub reached_again : (left : List ℕ) (target : ℕ)
    → remaining_from (remaining_from left target) target ≡ remaining_from left target
reached_again [] target = refl
reached_again (r ∷ later) target = idem_by r later target (nat_lt r target) refl (reached_again later target)

-- a clock whose current reading is at least a target has reached the target
pub stands : (left : List ℕ) (target at : ℕ) → slice_get left 0 ≡ Some at → target ≤ at
    → remaining_from left target ≡ left
stands [] target at is most = refl
stands (r ∷ later) target at is most =
    let same : r ≡ at = cc in
    let past : nat_lt r target ≡ false =
    false_from_ne_true (nat_lt r target) (λ below. let less = ltb-true r target below in absurd (omega arith)) in
    ap (λ b. cond b (remaining_from later target) (r ∷ later)) past

left_after_more : (readings ts : List ℕ) (target : ℕ)
    → left_after readings (ts ++ target ∷ []) ≡ remaining_from (left_after readings ts) target
left_after_more readings ts target = fold-append remaining_from readings ts (target ∷ [])

picked_one : (rs : List ℕ) (at : ℕ) → slice_get rs 0 ≡ Some at → picks rs [] ≡ [] → picked rs (picks rs []) ≡ at ∷ []
picked_one [] at is none = absurd (cc)
picked_one (r ∷ rs) at is none = let same : r ≡ at = cc in ap (λ x. x ∷ []) same

picks_more : (readings ts : List ℕ) (target at : ℕ) → length (picks readings ts) ≡ length ts
    → slice_get (remaining_from (left_after readings ts) target) 0 ≡ Some at
    → picks readings (ts ++ target ∷ []) ≡ picks readings ts ++ at ∷ []
picks_more readings ts target at many is =
    picks_append readings ts (target ∷ []) many
    ∙ ap (λ ps. picks readings ts ++ ps) (picked_one (remaining_from (left_after readings ts) target) at is refl)

take_next : (ts : List ℕ) (k target : ℕ) → slice_get ts k ≡ Some target → take (k + 1) ts ≡ take k ts ++ target ∷ []
take_next ts k target is =
    take_more ts k 0 (slice_get_within ts k target is)
    ∙ ap (λ x. take k ts ++ x ∷ []) (get_or_from_slice_get ts k target 0 is)

at_end : (xs : List ℕ) (x : ℕ) (ys : List ℕ) (k : ℕ) → length xs ≡ k → slice_get ((xs ++ x ∷ []) ++ ys) k ≡ Some x
at_end [] x ys zero size = refl
at_end [] x ys (suc k) size = absurd (omega arith)
at_end (z ∷ xs) x ys zero size = absurd (omega arith)
at_end (z ∷ xs) x ys (suc k) size = at_end xs x ys k (omega arith)

drop_next : (xs : List ℕ) (k x : ℕ) → slice_get xs k ≡ Some x → drop k xs ≡ x ∷ drop (k + 1) xs
drop_next [] k x is = absurd (cc)
drop_next (y ∷ ys) zero x is = let same : y ≡ x = cc in ap (λ z. z ∷ ys) same
drop_next (y ∷ ys) (suc k) x is = let next : suc k + 1 ≡ suc (k + 1) = omega arith in
    drop_next ys k x is ∙ ap (λ n. x ∷ drop n (y ∷ ys)) (sym next)

-- ---- a node that has done some actions
-- the rest of its list after the next action
left_next : (readings ts : List ℕ) (k target : ℕ) → slice_get ts k ≡ Some target
    → left_after readings (take (k + 1) ts) ≡ remaining_from (left_after readings (take k ts)) target
left_next readings ts k target is =
    ap (left_after readings) (take_next ts k target is) ∙ left_after_more readings (take k ts) target

-- it does the next one, at its clock's reading
pub does_next : (plan : Plan) (rounds : ℕ) (clock : ClockState) (n m : NodeState) (shown : List ℕ)
    (p : IsPicked plan rounds clock n shown) (target at : ℕ)
    → slice_get (targets plan rounds) p.done ≡ Some target → slice_get clock.left 0 ≡ Some at → target ≤ at
    → Follows plan (p.done + 1) m
    → IsPicked plan rounds clock m (shown ++ at ∷ [])
does_next plan rounds clock n m shown p target at is first most follows =
    let ts = targets plan rounds in
    let before = left_after clock.readings (take p.done ts) in
    let after : left_after clock.readings (take (p.done + 1) ts) ≡ remaining_from before target =
    left_next clock.readings ts p.done target is in
    let here : remaining_from clock.left target ≡ clock.left = stands clock.left target at first most in
    let left : clock.left ≡ left_after clock.readings (take (p.done + 1) ts) = elim p.left [
      | inl same ↦ sym here ∙ ap (λ l. remaining_from l target) same ∙ sym after
      | inr same ↦ same
    ] in
    let within = slice_get_within ts p.done target is in
    let many : length (picks clock.readings (take p.done ts)) ≡ length (take p.done ts) = sym (ap length p.shown_are)
    ∙ p.count ∙ sym (length-take-le p.done ts (omega arith)) in
    let pick : slice_get (remaining_from before target) 0 ≡ Some at =
    ap (λ l. slice_get l 0) (sym after ∙ sym left) ∙ first in
    record {
      done = p.done + 1;
      follows = follows;
      count = length-append shown (at ∷ []) ∙ ap (λ c. c + 1) p.count;
      shown_are =
          ap (λ xs. xs ++ at ∷ []) p.shown_are
          ∙ sym (ap (picks clock.readings) (take_next ts p.done target is)
          ∙ picks_more clock.readings (take p.done ts) target at many pick);
      left = inl left;
    }

-- its clock's reading is the pick for it
pub pick_at : (plan : Plan) (rounds : ℕ) (clock : ClockState) (n : NodeState) (shown : List ℕ)
    (p : IsPicked plan rounds clock n shown) (target at : ℕ)
    → slice_get (targets plan rounds) p.done ≡ Some target → slice_get clock.left 0 ≡ Some at → target ≤ at
    → slice_get (picks clock.readings (targets plan rounds)) p.done ≡ Some at
pick_at plan rounds clock n shown p target at is first most =
    let ts = targets plan rounds in
    let before = left_after clock.readings (take p.done ts) in
    let after : left_after clock.readings (take (p.done + 1) ts) ≡ remaining_from before target =
    left_next clock.readings ts p.done target is in
    let here : remaining_from clock.left target ≡ clock.left = stands clock.left target at first most in
    let left : clock.left ≡ left_after clock.readings (take (p.done + 1) ts) = elim p.left [
      | inl same ↦ sym here ∙ ap (λ l. remaining_from l target) same ∙ sym after
      | inr same ↦ same
    ] in
    let within = slice_get_within ts p.done target is in
    let many : length (picks clock.readings (take p.done ts)) ≡ length (take p.done ts) = sym (ap length p.shown_are)
    ∙ p.count ∙ sym (length-take-le p.done ts (omega arith)) in
    let pick : slice_get (remaining_from before target) 0 ≡ Some at =
    ap (λ l. slice_get l 0) (sym after ∙ sym left) ∙ first in
    let more : picks clock.readings (take (p.done + 1) ts) ≡ shown ++ at ∷ [] =
    ap (picks clock.readings) (take_next ts p.done target is)
    ∙ picks_more clock.readings (take p.done ts) target at many pick ∙ ap (λ xs. xs ++ at ∷ []) (sym p.shown_are) in
    let all_many : length (picks clock.readings (take (p.done + 1) ts)) ≡ length (take (p.done + 1) ts) = ap length more
    ∙ length-append shown (at ∷ []) ∙ ap (λ c. c + 1) p.count
    ∙ sym (length-take-le (p.done + 1) ts (omega arith)) in
    let all : picks clock.readings ts ≡ (shown ++ at ∷ [])
    ++ picks (left_after clock.readings (take (p.done + 1) ts)) (drop (p.done + 1) ts) =
    ap (picks clock.readings) (sym (take-append-drop (p.done + 1) ts))
    ∙ picks_append clock.readings (take (p.done + 1) ts) (drop (p.done + 1) ts) all_many
    ∙ ap (λ xs. xs ++ picks (left_after clock.readings (take (p.done + 1) ts)) (drop (p.done + 1) ts)) more in
    ap (λ xs. slice_get xs p.done) all
    ∙ at_end shown at (picks (left_after clock.readings (take (p.done + 1) ts)) (drop (p.done + 1) ts))
    p.done p.count

-- if its clock has no reading for the next target, its picks end there
pub picks_end : (plan : Plan) (rounds : ℕ) (clock : ClockState) (n : NodeState) (shown : List ℕ)
    (p : IsPicked plan rounds clock n shown) (target : ℕ)
    → slice_get (targets plan rounds) p.done ≡ Some target → remaining_from clock.left target ≡ []
    → picks clock.readings (targets plan rounds) ≡ shown
picks_end plan rounds clock n shown p target is none =
    let ts = targets plan rounds in
    let before = left_after clock.readings (take p.done ts) in
    let after : left_after clock.readings (take (p.done + 1) ts) ≡ remaining_from before target =
    left_next clock.readings ts p.done target is in
    let ended : remaining_from before target ≡ [] = elim p.left [
      | inl same ↦ ap (λ l. remaining_from l target) (sym same) ∙ none
      | inr same ↦ sym (reached_again before target) ∙ ap (λ l. remaining_from l target) (sym after ∙ sym same) ∙ none
    ] in
    let within = slice_get_within ts p.done target is in
    let many : length (picks clock.readings (take p.done ts)) ≡ length (take p.done ts) = sym (ap length p.shown_are)
    ∙ p.count ∙ sym (length-take-le p.done ts (omega arith)) in
    let rest : drop p.done ts ≡ target ∷ drop (p.done + 1) ts = drop_next ts p.done target is in
    ap (picks clock.readings) (sym (take-append-drop p.done ts))
    ∙ picks_append clock.readings (take p.done ts) (drop p.done ts) many
    ∙ ap (λ xs. picks clock.readings (take p.done ts) ++ picks before xs) rest
    ∙ ap (λ l. picks clock.readings (take p.done ts) ++ picked l (picks l (drop (p.done + 1) ts))) ended
    ∙ append-nil (picks clock.readings (take p.done ts)) ∙ sym p.shown_are

-- its clock picks for the next one
pub picks_next : (plan : Plan) (rounds : ℕ) (clock : ClockState) (n : NodeState) (shown : List ℕ)
    (p : IsPicked plan rounds clock n shown) (target : ℕ)
    → slice_get (targets plan rounds) p.done ≡ Some target
    → IsPicked plan rounds (standing_at clock (remaining_from clock.left target)) n shown
picks_next plan rounds clock n shown p target is =
    let ts = targets plan rounds in
    let before = left_after clock.readings (take p.done ts) in
    let after : left_after clock.readings (take (p.done + 1) ts) ≡ remaining_from before target =
    left_next clock.readings ts p.done target is in
    record {
      done = p.done;
      follows = p.follows;
      count = p.count;
      shown_are = p.shown_are;
      left = inr (elim p.left [
        | inl same ↦ ap (λ l. remaining_from l target) same ∙ sym after
        | inr same ↦ ap (λ l. remaining_from l target) (same ∙ after) ∙ reached_again before target ∙ sym after
      ]);
    }

-- otherwise it continues
pub goes_otherwise : (plan : Plan) (rounds : ℕ) (clock : ClockState) (n m : NodeState) (shown : List ℕ)
    (p : IsPicked plan rounds clock n shown) → Follows plan p.done m → IsPicked plan rounds clock m shown
goes_otherwise plan rounds clock n m shown p follows =
    record { done = p.done; follows = follows; count = p.count; shown_are = p.shown_are; left = p.left }

-- the readings of its completed actions are a prefix of its picks
pub is_prefix : (plan : Plan) (rounds : ℕ) (clock : ClockState) (n : NodeState) (shown : List ℕ)
    (p : IsPicked plan rounds clock n shown) → p.done ≤ length (targets plan rounds)
    → (later : List ℕ) × (picks clock.readings (targets plan rounds) ≡ shown ++ later)
is_prefix plan rounds clock n shown p within =
    let ts = targets plan rounds in
    let many : length (picks clock.readings (take p.done ts)) ≡ length (take p.done ts) = sym (ap length p.shown_are)
    ∙ p.count ∙ sym (length-take-le p.done ts within) in (
      picks (left_after clock.readings (take p.done ts)) (drop p.done ts),
      ap (picks clock.readings) (sym (take-append-drop p.done ts))
          ∙ picks_append clock.readings (take p.done ts) (drop p.done ts) many
          ∙ ap (λ xs. xs ++ picks (left_after clock.readings (take p.done ts)) (drop p.done ts)) (sym p.shown_are),
    )
