-- The order of blocks that is searched for is as the definition asks, and no other is.
use Rattle.std.proofs.Common.{◌≡◌, ◌∙◌, inl, inr, ℕ, zero, suc, ◌+◌, ◌<◌, ◌≤◌, Bool, true, false, List, [], ◌∷◌, ◌++◌}
use Rattle.std.proofs.Common.{length, take, Option, Some, None, Contains, slice_get, refl, sym, ap, ap₂, subst, arith}
use Rattle.std.specs.Prelude.{not, ◌&&◌, nat_eq}
use Rattle.std.specs.Option.{option_to_list}
use Rattle.std.proofs.lemmas.Bool.{eqb-true, eq-eqb, and_parts, cases_lt, cases_order, cases_Bool, true≢false, not-true}
use Rattle.std.proofs.lemmas.List.{take_all, take-append-le, length-append}
use Rattle.std.proofs.lemmas.List.Folds.{Any-from_list_any, list_any_at}
use Rattle.std.proofs.lemmas.Option.{slice_get_within}
use Rattle.list_lemmas.proofs.ElementPositions.{slice_get-push, slice_get-take}
use Rattle.pals_base.specs.declared.behaviour.BehaviourParts.{BehaviourParts}
use Rattle.pals_base.specs.BehaviourRules.{IsBehaviour}
use Rattle.pals_base.specs.ExpressionAndActionTrees.{Edge}
use Rattle.step_compiler.specs.proof.BlockOrder.{is_placed, is_awaited, leads_from_outside, may_follow, next_state}
use Rattle.step_compiler.specs.proof.BlockOrder.{with_next, ordered, block_order}
use Rattle.step_compiler.specs.LaidOutCode.{complete_states, MayFollow, IsNext, IsBlockOrder}
use Rattle.step_compiler.proofs.NumbersFromZero.{found_is}
use Rattle.step_compiler.proofs.BlockOrderCompleteness.{order_full}
use Rattle.step_compiler.specs.proof.LayoutLaws.{OrderIsOne}
use Rattle.step_compiler.proofs.BlockOrderMembers.{placed_contains, contains_placed, find_least, take_next, get_front}

-- ---- what may follow

not_from : (x : Bool) → (x ≡ true → ⊥) → not x ≡ true
not_from true never = absurd (never refl)
not_from false never = refl

outside_by : (p t : Bool) → (not p && t) ≡ false → t ≡ true → p ≡ true
outside_by true t is at = refl
outside_by false t is at = absurd (true≢false (sym at ∙ is))

module _ (b : BehaviourParts) (order : List ℕ) (s : ℕ) where
  follows : may_follow b order s ≡ true → s < length b.states → MayFollow b order s
  follows is within =
      let both = and_parts (not (is_placed order s)) (not (is_awaited b order s)) is in
      let out = not-true (is_placed order s) both.0 in
      let free = not-true (is_awaited b order s) both.1 in
      record {
        is_state = within;
        new = λ among. true≢false (sym (contains_placed order s among) ∙ out);
        awaits_none = λ e among to.
            placed_contains order e.source
            (outside_by (is_placed order e.source) (nat_eq e.target s) (none e among free) (eq-eqb _ _ to));
      }
    where
      none : (e : Edge) → Contains b.transitions e → is_awaited b order s ≡ false → leads_from_outside order s e ≡ false
      none e among free =
          elim (cases_Bool (leads_from_outside order s e)) [
            | inl leads ↦ absurd (true≢false
                (sym (list_any_at (leads_from_outside order s) b.transitions among.0 e among.1
                (ap (leads_from_outside order s) among.2 ∙ leads)) ∙ free))
            | inr leads_not ↦ leads_not
          ]

  may : MayFollow b order s → may_follow b order s ≡ true
  may known =
      ap₂ (λ x y. x && y)
      (not_from (is_placed order s) (λ placed. known.new (placed_contains order s placed)))
      (not_from (is_awaited b order s)
      (λ awaited.
      let found = Any-from_list_any (leads_from_outside order s) b.transitions awaited in
      let e : Edge = found.1 in
      let both = and_parts (not (is_placed order e.source)) (nat_eq e.target s) found.4 in
      let among = known.awaits_none e (found.0, found.2, found.3) (eqb-true e.target s both.1) in
      true≢false (sym (contains_placed order e.source among) ∙ not-true (is_placed order e.source) both.0)))

next_is : (b : BehaviourParts) (order : List ℕ) (s : ℕ) → next_state b order ≡ Some s → IsNext b order s
next_is b order s found =
    let x = found_is (may_follow b order) (length b.states) s found in
    record {
      may = follows b order s x.0 x.1;
      lowest =
          λ other below known. true≢false
          (sym (may b order other known) ∙ find_least (may_follow b order) (length b.states) s other found below);
    }

-- ---- an order that grows
record Grown (b : BehaviourParts) (order : List ℕ) : Type 0 where
  short : length (complete_states b) ≤ length order
  complete : take (length (complete_states b)) order ≡ complete_states b
  others : (k state : ℕ) → length (complete_states b) ≤ k → slice_get order k ≡ Some state
      → IsNext b (take k order) state

grown_first : (b : BehaviourParts) → Grown b (complete_states b)
grown_first b = record {
  short = omega arith;
  complete = take_all (length (complete_states b)) (complete_states b) (omega arith);
  others =
      λ k state past is. absurd
      (let within = slice_get_within (complete_states b) k state is in omega (arith, within, past));
}

grown_more : (b : BehaviourParts) (order : List ℕ) (s : ℕ) → Grown b order → IsNext b order s
    → Grown b (order ++ s ∷ [])
grown_more b order s before next =
    let short = before.short in
    let size = length-append order (s ∷ []) in
    record {
      short = omega (arith, short, size);
      complete = take-append-le (length (complete_states b)) order (s ∷ []) short ∙ before.complete;
      others = others;
    }
  where
    others : (k state : ℕ) → length (complete_states b) ≤ k → slice_get (order ++ s ∷ []) k ≡ Some state
        → IsNext b (take k (order ++ s ∷ [])) state
    others k state past is =
        elim (cases_order k (length order)) [
          | inl last ↦ (
              let here : Some s ≡ Some state = sym (slice_get-push order s)
              ∙ ap (slice_get (order ++ s ∷ [])) (sym last) ∙ is in
              let same : s ≡ state = cc in
              let front : take k (order ++ s ∷ []) ≡ order = take-append-le k order (s ∷ []) (omega (arith, last))
              ∙ take_all k order (omega (arith, last)) in
              subst (λ xs. IsNext b xs state) (sym front) (subst (IsNext b order) same next))
          | inr other ↦ elim other [
            | inl below ↦ (
                let front : take k (order ++ s ∷ []) ≡ take k order =
                take-append-le k order (s ∷ []) (omega (arith, below)) in
                subst (λ xs. IsNext b xs state) (sym front)
                (before.others k state past (sym (get_front order (s ∷ []) k below) ∙ is)))
            | inr beyond ↦ absurd (
                let within = slice_get_within (order ++ s ∷ []) k state is in
                let size = length-append order (s ∷ []) in
                omega (arith, within, size, beyond))
          ]
        ]

grown_with : (b : BehaviourParts) (order : List ℕ) (o : Option ℕ) → next_state b order ≡ o → Grown b order
    → Grown b (with_next order o)
grown_with b order None is before = before
grown_with b order (Some s) is before = grown_more b order s before (next_is b order s is)

grown : (b : BehaviourParts) (n : ℕ) (order : List ℕ) → Grown b order → Grown b (ordered n b order)
grown b zero order before = before
grown b (suc n) order before =
    grown b n (with_next order (next_state b order)) (grown_with b order (next_state b order) refl before)

pub blocks_are_ordered : (b : BehaviourParts) → IsBehaviour b → IsBlockOrder b (block_order b)
blocks_are_ordered b rules =
    let all = grown b (length b.states) (complete_states b) (grown_first b) in
    record {
      complete = all.complete;
      others = all.others;
      all = λ state within. placed_contains (block_order b) state ((order_full b rules).all state within);
    }

-- ---- no other
module _ (b : BehaviourParts) (o p : List ℕ) (is_o : IsBlockOrder b o) (is_p : IsBlockOrder b p) where
  abbrev completes : ℕ
  completes = length (complete_states b)

  -- no state of one order is after the end of the other
  none_more : (x y : List ℕ) → IsBlockOrder b x → IsBlockOrder b y → (k t : ℕ) → completes ≤ k → take k x ≡ take k y
      → slice_get x k ≡ None → slice_get y k ≡ Some t → ⊥
  none_more x y is_x is_y k t past same ended there =
      let next = is_y.others k t past there in
      let whole : take k x ≡ x = take_all k x (ends_by x k ended) in
      next.may.new (subst (λ xs. Contains xs t) (sym whole ∙ same) (is_x.all t next.may.is_state))
    where
      ends_by : (xs : List ℕ) (n : ℕ) → slice_get xs n ≡ None → length xs ≤ n
      ends_by [] n ended' = omega arith
      ends_by (z ∷ xs) zero ended' = absurd (cc)
      ends_by (z ∷ xs) (suc n) ended' = let rest = ends_by xs n ended' in omega (arith, rest)

  same_by : (k : ℕ) → completes ≤ k → take k o ≡ take k p → (x y : Option ℕ) → slice_get o k ≡ x
      → slice_get p k ≡ y → x ≡ y
  same_by k past same None None at_o at_p = refl
  same_by k past same None (Some t) at_o at_p = absurd (none_more o p is_o is_p k t past same at_o at_p)
  same_by k past same (Some s) None at_o at_p = absurd (none_more p o is_p is_o k s past (sym same) at_p at_o)
  same_by k past same (Some s) (Some t) at_o at_p =
      let first = is_o.others k s past at_o in
      let second = is_p.others k t past at_p in
      elim (cases_order s t) [
        | inl one ↦ ap Some one
        | inr other ↦ elim other [
          | inl less ↦ absurd (second.lowest s less (subst (λ xs. MayFollow b xs s) same first.may))
          | inr more ↦ absurd (first.lowest t more (subst (λ xs. MayFollow b xs t) (sym same) second.may))
        ]
      ]

  same_get : (k : ℕ) → take k o ≡ take k p → slice_get o k ≡ slice_get p k
  same_get k same =
      elim (cases_lt k completes) [
        | inl below ↦ sym (slice_get-take completes o k below)
            ∙ ap (λ xs. slice_get xs k) (is_o.complete ∙ sym is_p.complete)
            ∙ slice_get-take completes p k below
        | inr past ↦ same_by k past same (slice_get o k) (slice_get p k) refl refl
      ]

  same_take : (k : ℕ) → take k o ≡ take k p
  same_take zero = refl
  same_take (suc k) =
      let before = same_take k in
      take_next k o ∙ ap₂ (λ xs x. xs ++ option_to_list x) before (same_get k before) ∙ sym (take_next k p)

  pub one_order : o ≡ p
  one_order =
      let n = length o + length p in
      sym (take_all n o (omega arith)) ∙ same_take n ∙ take_all n p (omega arith)

pub order_is_one : OrderIsOne
order_is_one b order other is_one is_other = one_order b order other is_one is_other
