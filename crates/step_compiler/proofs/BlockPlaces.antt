-- The places of the blocks and the dispatch transitions in the compiled code.
use Rattle.std.proofs.Common.{◌≡◌, ◌∙◌, ℕ, ◌+◌, ◌<◌, Bool, true, false, ◌||◌, if◌then◌else◌, List, [], ◌∷◌, ◌++◌}
use Rattle.std.proofs.Common.{length, Some, refl, sym, ap, subst, arith, append_assoc, length-append, nat_eq, ⊎_elim}
use Rattle.std.proofs.Common.{◌-◌, ◌≤◌}
use Rattle.std.specs.Prelude.{slice_get, find}
use Rattle.std.proofs.lemmas.Bool.{false≢true, cases_lt, true≢false, or_right}
use Rattle.pals_base.specs.declared.behaviour.BehaviourParts.{BehaviourParts}
use Rattle.pals_base.specs.ExpressionAndActionTrees.{Edge, Trigger, Dispatch, Always, When}
use Rattle.pals_base.specs.SingleStep.{is_complete, leaving, is_dispatch}
use Rattle.pals_base.specs.BehaviourRules.{IsBehaviour}
use Rattle.pals_base.proofs.UpwardNumbers.{get_or-map_upwards}
use Rattle.step_code.specs.declared.instr.Instr.{Instr}
use Rattle.step_code.specs.CodeLengths.{length_trigger, length_edge}
use Rattle.step_compiler.specs.ExpressionAndActionInstructions.{code_acts}
use Rattle.step_compiler.specs.proof.BlockOrder.{is_placed, block_order}
use Rattle.step_compiler.specs.BlockInstructions.{trigger_code, last_instr, false_guard_target, edge_code, block_code}
use Rattle.step_compiler.specs.BlockInstructions.{block_length}
use Rattle.step_compiler.specs.BlockInstructions.{start_of, blocks_code, dispatch_offset}
use Rattle.step_compiler.specs.proof.BlockLengthsAndStarts.{in_list, order_length}
use Rattle.step_compiler.specs.proof.CompiledCode.{block_starts}
use Rattle.step_compiler.proofs.PlacedCodeLengths.{HasAt, has_front, has_back, edge-length, block-length}
use Rattle.step_compiler.proofs.BlockOrderCompleteness.{order_full}
use Rattle.step_compiler.proofs.BlockOrderInvariant.{AreOnce}

-- ---- a list is at its own beginning
get_seam : (a : List Instr) (x : Instr) (xs : List Instr) → slice_get (a ++ x ∷ xs) (length a) ≡ Some x
get_seam [] x xs = refl
get_seam (y ∷ a) x xs = get_seam a x xs

has_self : (a xs : List Instr) → HasAt (a ++ xs) (length a) xs
has_self a [] = tt
has_self a (x ∷ xs) =
    let place : length (a ++ x ∷ []) ≡ length a + 1 = length-append a (x ∷ []) in (
      get_seam a x xs,
      subst (λ k. HasAt (a ++ x ∷ xs) k xs) place
          (subst (λ w. HasAt w (length (a ++ x ∷ [])) xs) (append_assoc a (x ∷ []) xs) (has_self (a ++ x ∷ []) xs)),
    )

pub whole_at : (whole : List Instr) → HasAt whole 0 whole
whole_at whole = has_self [] whole

-- ---- blocks
block_by : (whole : List Instr) (b : BehaviourParts) (starts : ℕ → ℕ) (order : List ℕ) (t s p : ℕ) (r : Bool)
    → nat_eq t s ≡ r → HasAt whole p (blocks_code b starts (t ∷ order) p)
    → (r ≡ false → HasAt whole (p + block_length b t + start_of b order s)
    (block_code b starts (is_complete b s) (leaving b s) (p + block_length b t + start_of b order s)))
    → HasAt whole (p + (if r then 0 else block_length b t + start_of b order s))
    (block_code b starts (is_complete b s) (leaving b s)
    (p + (if r then 0 else block_length b t + start_of b order s)))
block_by whole b starts order t s p true is has later =
    let at : t ≡ s = grind arith in
    let front =
    has_front whole p (block_code b starts (is_complete b t) (leaving b t) p)
    (blocks_code b starts order (p + block_length b t)) has in
    let place : p ≡ p + 0 = omega arith in
    subst (λ k. HasAt whole k (block_code b starts (is_complete b s) (leaving b s) k)) place
    (subst (λ u. HasAt whole p (block_code b starts (is_complete b u) (leaving b u) p)) at front)
block_by whole b starts order t s p false is has later =
    let place : p + block_length b t + start_of b order s ≡ p + (block_length b t + start_of b order s) = omega arith in
    subst (λ k. HasAt whole k (block_code b starts (is_complete b s) (leaving b s) k)) place (later refl)

pub block_at : (whole : List Instr) (b : BehaviourParts) (starts : ℕ → ℕ) (order : List ℕ) (s p : ℕ)
    → HasAt whole p (blocks_code b starts order p) → is_placed order s ≡ true
    → HasAt whole (p + start_of b order s)
    (block_code b starts (is_complete b s) (leaving b s) (p + start_of b order s))
block_at whole b starts [] s p has placed = absurd (false≢true placed)
block_at whole b starts (t ∷ order) s p has placed =
    block_by whole b starts order t s p (nat_eq t s) refl has
    (λ isnt. block_at whole b starts order s (p + block_length b t)
    (has_back whole p (block_length b t) (p + block_length b t) (block_code b starts (is_complete b t) (leaving b t) p)
    (blocks_code b starts order (p + block_length b t))
    (block-length b starts (is_complete b t) (leaving b t) p) refl has)
    (ap (λ x. x || is_placed order s) (sym isnt) ∙ placed))

-- ---- the place of a block, as it is listed
pub start_is : (b : BehaviourParts) (s : ℕ) → s < length b.states
    → in_list (block_starts b) s ≡ start_of b (block_order b) s
start_is b s within = get_or-map_upwards (start_of b (block_order b)) (length b.states) s 0 within

-- the block of a state of the whole code
pub whole_block : (whole : List Instr) (b : BehaviourParts) (s : ℕ) → IsBehaviour b
    → whole ≡ blocks_code b (in_list (block_starts b)) (block_order b) 0 → s < length b.states
    → HasAt whole (in_list (block_starts b) s)
    (block_code b (in_list (block_starts b)) (is_complete b s) (leaving b s) (in_list (block_starts b) s))
whole_block whole b s rules is within =
    let starts = in_list (block_starts b) in
    let start = start_of b (block_order b) s in
    let has =
    block_at whole b starts (block_order b) s 0 (subst (HasAt whole 0) is (whole_at whole))
    ((order_full b rules).all s within) in
    let place : 0 + start ≡ starts s = (let e = start_is b s within in omega arith) in
    subst (λ k. HasAt whole k (block_code b starts (is_complete b s) (leaving b s) k)) place has

-- ---- the dispatch transition
dispatch_trigger : (t : Trigger) → is_dispatch t ≡ true → t ≡ Dispatch
dispatch_trigger Dispatch is = refl
dispatch_trigger Always is = absurd (false≢true is)
dispatch_trigger (When e) is = absurd (false≢true is)

dispatch_edge : (whole : List Instr) (b : BehaviourParts) (starts : ℕ → ℕ) (complete : Bool) (e : Edge) (p : ℕ)
    → is_dispatch e.trigger ≡ true → HasAt whole p (edge_code b starts complete e p)
    → HasAt whole p (code_acts e.actions (length b.vars) p ++ last_instr b starts e.target ∷ [])
dispatch_edge whole b starts complete e p is has =
    let plain =
    λ (t : Trigger). trigger_code t (false_guard_target complete e p) p
    ++ (code_acts e.actions (length b.vars) (p + length_trigger t) ++ last_instr b starts e.target ∷ []) in
    let place : p + 0 ≡ p = omega arith in
    subst (λ k. HasAt whole p (code_acts e.actions (length b.vars) k ++ last_instr b starts e.target ∷ [])) place
    (subst (λ t. HasAt whole p (plain t)) (dispatch_trigger e.trigger is) has)

dispatch_by : (whole : List Instr) (b : BehaviourParts) (starts : ℕ → ℕ) (complete : Bool) (f : Edge) (es : List Edge)
    (e : Edge) (p : ℕ) (t : Bool) → is_dispatch f.trigger ≡ t
    → HasAt whole p (block_code b starts complete (f ∷ es) p)
    → (if t then Some f else find (λ e. is_dispatch e.trigger) es) ≡ Some e
    → (find (λ e. is_dispatch e.trigger) es ≡ Some e
    → HasAt whole (p + length_edge f + dispatch_offset es)
    (code_acts e.actions (length b.vars) (p + length_edge f + dispatch_offset es)
    ++ last_instr b starts e.target ∷ []))
    → HasAt whole (p + (if t then 0 else length_edge f + dispatch_offset es))
    (code_acts e.actions (length b.vars) (p + (if t then 0 else length_edge f + dispatch_offset es))
    ++ last_instr b starts e.target ∷ [])
dispatch_by whole b starts complete f es e p true is has found later =
    let same : f ≡ e = cc in
    let front =
    has_front whole p (edge_code b starts complete f p) (block_code b starts complete es (p + length_edge f)) has in
    let place : p ≡ p + 0 = omega arith in
    subst (λ k. HasAt whole k (code_acts e.actions (length b.vars) k ++ last_instr b starts e.target ∷ [])) place
    (subst (λ (g : Edge). HasAt whole p (code_acts g.actions (length b.vars) p ++ last_instr b starts g.target ∷ []))
    same (dispatch_edge whole b starts complete f p is front))
dispatch_by whole b starts complete f es e p false is has found later =
    let place : p + length_edge f + dispatch_offset es ≡ p + (length_edge f + dispatch_offset es) = omega arith in
    subst (λ k. HasAt whole k (code_acts e.actions (length b.vars) k ++ last_instr b starts e.target ∷ [])) place
    (later found)

pub dispatch_at : (whole : List Instr) (b : BehaviourParts) (starts : ℕ → ℕ) (complete : Bool) (es : List Edge)
    (e : Edge) (p : ℕ) → HasAt whole p (block_code b starts complete es p)
    → find (λ e. is_dispatch e.trigger) es ≡ Some e
    → HasAt whole (p + dispatch_offset es)
    (code_acts e.actions (length b.vars) (p + dispatch_offset es) ++ last_instr b starts e.target ∷ [])
dispatch_at whole b starts complete [] e p has found = cc
dispatch_at whole b starts complete (f ∷ es) e p has found =
    dispatch_by whole b starts complete f es e p (is_dispatch f.trigger) refl has found
    (λ later. dispatch_at whole b starts complete es e (p + length_edge f)
    (has_back whole p (length_edge f) (p + length_edge f) (edge_code b starts complete f p)
    (block_code b starts complete es (p + length_edge f)) (edge-length b starts complete f p) refl has) later)

-- each place lies in a block
pub record LiesIn (b : BehaviourParts) (order : List ℕ) (p k : ℕ) : Type 0 where
  pub state : ℕ
  pub placed : is_placed order state ≡ true
  pub from : p + start_of b order state ≤ k
  pub before : k < p + start_of b order state + block_length b state

lies_first : (b : BehaviourParts) (t : ℕ) (order : List ℕ) (p k : ℕ) (r : Bool) → nat_eq t t ≡ r → p ≤ k
    → k < p + block_length b t
    → (p + (if r then 0 else block_length b t + start_of b order t) ≤ k)
    × (k < p + (if r then 0 else block_length b t + start_of b order t) + block_length b t)
lies_first b t order p k true is from before = (omega arith, omega arith)
lies_first b t order p k false is from before = absurd (grind arith)

lies_later : (b : BehaviourParts) (t s : ℕ) (order : List ℕ) (p k : ℕ) (r : Bool) → nat_eq t s ≡ r
    → is_placed order t ≡ false → is_placed order s ≡ true → p + block_length b t + start_of b order s ≤ k
    → k < p + block_length b t + start_of b order s + block_length b s
    → (p + (if r then 0 else block_length b t + start_of b order s) ≤ k)
    × (k < p + (if r then 0 else block_length b t + start_of b order s) + block_length b s)
lies_later b t s order p k true is out placed from before = let same : t ≡ s = grind arith in
    absurd (true≢false (sym placed ∙ ap (is_placed order) (sym same) ∙ out))
lies_later b t s order p k false is out placed from before = (omega arith, omega arith)

pub lies_in : (b : BehaviourParts) (order : List ℕ) (p k : ℕ) → AreOnce order → p ≤ k → k < p + order_length b order
    → LiesIn b order p k
lies_in b [] p k once from before = absurd (omega arith)
lies_in b (t ∷ order) p k once from before =
    ⊎_elim
    (λ (early : k < p + block_length b t).
    let x = lies_first b t order p k (nat_eq t t) refl from early in
    record {
      state = t;
      placed = ap (λ y. y || is_placed order t) (let same : nat_eq t t ≡ true = grind arith in same);
      from = x.0;
      before = x.1;
    })
    (λ (late : p + block_length b t ≤ k).
    let w = lies_in b order (p + block_length b t) k once.1 late (omega arith) in
    let x = lies_later b t w.state order p k (nat_eq t w.state) refl once.0 w.placed w.from w.before in
    record {
      state = w.state;
      placed = or_right (nat_eq t w.state) (is_placed order w.state) w.placed;
      from = x.0;
      before = x.1;
    })
    (cases_lt k (p + block_length b t))
