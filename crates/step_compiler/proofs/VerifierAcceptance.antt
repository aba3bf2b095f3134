-- The verifier accepts the compiled code, so that it can fail only if memory runs out.
use Rattle.std.proofs.Common.{◌≡◌, ◌∙◌, inl, inr, ⊎_elim, ℕ, zero, suc, ◌+◌, ◌-◌, ◌<◌, ◌≤◌, Bool, true, false, ◌&&◌}
use Rattle.std.proofs.Common.{◌||◌, not, if◌then◌else◌, List, [], ◌∷◌, ◌++◌, length, map, Option, Some, None, refl, sym}
use Rattle.std.proofs.Common.{ap, subst, arith, nat_lt, nat_eq}
use Rattle.std.specs.Prelude.{slice_get, find, IsTrue, option_to_list}
use Rattle.std.specs.List.{list_any}
use Rattle.std.proofs.lemmas.Bool.{true≢false, false≢true}
use Rattle.std.proofs.lemmas.Option.{slice_get_within}
use Rattle.pals_base.specs.declared.behaviour.BehaviourParts.{BehaviourParts}
use Rattle.pals_base.specs.declared.limits.TheConstants.{INSTRUCTIONS}
use Rattle.pals_base.specs.ExpressionAndActionTrees.{Edge, Trigger, Dispatch, Always, When}
use Rattle.pals_base.specs.SingleStep.{is_complete, leaving, is_dispatch}
use Rattle.pals_base.specs.UpwardNumbers.{upwards}
use Rattle.pals_base.specs.BehaviourRules.{is_edge, is_always, IsBehaviour}
use Rattle.pals_base.proofs.UpwardNumbers.{slice_get-map_upwards}
use Rattle.step_code.specs.declared.instr.Instr.{Instr}
use Rattle.step_code.specs.declared.instr.Instr.TheVariants as code
use Rattle.step_code.specs.declared.instr.CodeParts.{CodeParts}
use Rattle.step_code.specs.declared.fault.CodeFault.{CodeFault}
use Rattle.step_code.specs.declared.fault.CodeFault.TheVariants as fault
use Rattle.step_code.specs.declared.loops.LoopSpan.{LoopSpan}
use Rattle.step_code.specs.Loops.{around}
use Rattle.step_code.specs.SuccessorsAndWeights.{jump_of, may_go_on, forward_successors}
use Rattle.step_code.specs.proof.CodeRuns.{has_entry}
use Rattle.step_code.specs.proof.StackHeights.{after, Member, Reaches, back_of, all_successors}
use Rattle.step_code.specs.proof.VerifierRules.{on_some, strays, stays, lacks_next, jumps_badly, jumps_back, lacks_loop}
use Rattle.step_code.specs.proof.VerifierRules.{misses_slot, is_none, enters_badly, is_entry, is_bad_entry, finds, Rule}
use Rattle.step_code.specs.proof.VerifierRules.{BadJump, BackJump, BadSlot, Underflow, HeightsDiffer, Finds, IsFaultOf}
use Rattle.step_code.specs.proof.VerifierRules.{IsVerified}
use Rattle.step_code.specs.CodeLengths.{length_of, length_acts, length_trigger, length_edge, length_edges, code_length}
use Rattle.step_compiler.specs.ExpressionAndActionInstructions.{code_of, code_acts}
use Rattle.step_compiler.specs.proof.BlockOrder.{block_order}
use Rattle.step_compiler.specs.LaidOutCode.{states_of}
use Rattle.step_compiler.specs.BlockInstructions.{trigger_code, last_instr, false_guard_target, edge_code, block_code}
use Rattle.step_compiler.specs.BlockInstructions.{block_length}
use Rattle.step_compiler.specs.BlockInstructions.{start_of, blocks_code, dispatch_offset, entry_of}
use Rattle.step_compiler.specs.proof.BlockLengthsAndStarts.{order_length, in_list}
use Rattle.step_compiler.specs.proof.CompiledCode.{block_starts, compiled}
use Rattle.step_compiler.proofs.BehaviourAccessBounds.{SeesTrigger}
use Rattle.step_compiler.proofs.SoundBehaviourAccesses.{acts_seen, trigger_seen}
use Rattle.step_compiler.proofs.PlacedCodeLengths.{HasAt, has_front, has_back, code-length, acts-length, trigger-length}
use Rattle.step_compiler.proofs.PlacedCodeLengths.{edge-length, blocks-length}
use Rattle.step_compiler.proofs.TransitionRules.{edge_has}
use Rattle.step_compiler.proofs.BlockOrderInvariant.{start_below}
use Rattle.step_compiler.proofs.BlockOrderCompleteness.{all_member, some_member, order_full}
use Rattle.step_compiler.proofs.BlockPlaces.{whole_at, start_is, whole_block, lies_in}
use Rattle.step_compiler.proofs.CompilerCorrectness.{sizes, fitting, onward_of, dispatch_of, compiled_length}
use Rattle.step_compiler.proofs.LoopsClosedWithinParts.{Closed, jump_stays, closed_both, none_closed, expr_closed}
use Rattle.step_compiler.proofs.LoopsClosedWithinParts.{acts_closed}
use Rattle.step_compiler.proofs.StackHeights.{height, height_at, expr_height, acts_height, trigger_height, edge_height}
use Rattle.step_compiler.proofs.VerifiedExpressions.{IsFine, AreFine, one_fine, both_fine, none_fine, fine_at}
use Rattle.step_compiler.proofs.VerifiedExpressions.{jump_fine, zero_fine}
use Rattle.step_compiler.proofs.VerifiedActions.{none_round, Matches, value_fine, acts_fine}
use Rattle.step_compiler.proofs.LoopFreePlaces.{trigger_closed, edge_closed, IsLoopFree, calm_edge, calm_at, calm_round}
use Rattle.step_compiler.proofs.LoopFreePlaces.{calm_outer, calm_start}
use Rattle.step_compiler.proofs.UnguardedLastTransition.{member_leaving, edge_depth, some_edges, LastOpen, last_open}
use Rattle.step_compiler.proofs.UnguardedLastTransition.{rest_open, past_inside}

module _ (b : BehaviourParts) (c : CodeParts) (rules : IsBehaviour b)
    (instrs : c.instrs ≡ blocks_code b (in_list (block_starts b)) (block_order b) 0)
    (entries : c.entries ≡ map (entry_of b (in_list (block_starts b))) (states_of b))
    (fits : Matches c (sizes b)) (vars : c.vars ≡ length b.vars) where
  abbrev starts : ℕ → ℕ
  starts = in_list (block_starts b)

  whole_length : length c.instrs ≡ order_length b (block_order b)
  whole_length = ap length instrs ∙ blocks-length b starts (block_order b) 0

  begins : (s : ℕ) → s < length b.states → IsLoopFree c.instrs (starts s)
  begins s within =
      let first : IsLoopFree c.instrs 0 = record { closed = none_closed c.instrs 0 0 (omega arith); level = refl } in
      let place : 0 + start_of b (block_order b) s ≡ starts s = (let e = start_is b s within in omega arith) in
      calm_at c.instrs (0 + start_of b (block_order b) s) (starts s) place
      (calm_start c.instrs b starts (block_order b) s 0 (subst (HasAt c.instrs 0) instrs (whole_at c.instrs)) first)

  ends : (s : ℕ) → s < length b.states → starts s + block_length b s ≤ length c.instrs
  ends s within =
      let e = start_is b s within in
      let n = whole_length in
      let le = start_below b (block_order b) s ((order_full b rules).all s within) in
      omega arith

  entry_there : (t : ℕ) → t < length b.states → is_complete b t ≡ true → has_entry (slice_get c.entries t) ≡ true
  entry_there t within complete =
      ap (λ xs. has_entry (slice_get xs t)) entries
      ∙ ap has_entry (slice_get-map_upwards (entry_of b starts) (length b.states) t within)
      ∙ ap (λ x. has_entry (Some (if x then Some (starts t + dispatch_offset (leaving b t)) else None))) complete

  -- the end of a transition
  end_by : (complete : Bool) (e : Edge) (s q : ℕ) → is_complete b e.target ≡ complete → Member b.transitions e
      → e.source ≡ s → s < length b.states → e.target < length b.states → q < starts s + block_length b s
      → Closed c.instrs 0 q → height c.instrs q ≡ 0
      → slice_get c.instrs q ≡ Some (if complete then code.End e.target else code.Jump (starts e.target))
      → AreFine c q (q + 1)
  end_by true e s q is among from within inside before closed level here =
      one_fine c q (q + 1) (code.End e.target) here refl (record {
        jump = λ t jumps. cc;
        next = λ goes. absurd (false≢true goes);
        loop = refl;
        slot = ap not (entry_there e.target inside is);
        enough = omega arith;
        level = λ t way. absurd way;
      })
  end_by false e s q is among from within inside before closed level here =
      let built = (order_full b rules).built in
      let far = (built.behind e among ((order_full b rules).all e.target inside) is).1 in
      let source = start_is b s within in
      let target = start_is b e.target inside in
      let same = ap (λ k. start_of b (block_order b) k + block_length b k) from in
      let later : q < starts e.target = omega arith in
      let some = some_edges (leaving b e.target) (onward_of b e.target rules inside is).unguarded in
      let most = ends e.target inside in
      let there = begins e.target inside in
      jump_fine c q (starts e.target) 0 here later (omega arith)
      (jump_stays c.instrs q (starts e.target) later (calm_outer c.instrs q (starts e.target) closed)
      (record { each = λ k l opens at below. there.closed.each k l opens (omega arith) below })) level there.level

  -- a guard
  trigger_fine : (t : Trigger) (complete : Bool) (e : Edge) (p : ℕ) → e.trigger ≡ t
      → HasAt c.instrs p (edge_code b starts complete e p)
      → HasAt c.instrs p (trigger_code t (false_guard_target complete e p) p)
      → IsLoopFree c.instrs p → SeesTrigger (sizes b) t
      → height c.instrs (false_guard_target complete e p) ≡ 0 → Closed c.instrs p (false_guard_target complete e p)
      → (is_always t ≡ false → is_dispatch t ≡ false → false_guard_target complete e p < length c.instrs)
      → p + length_trigger t < length c.instrs → p + length_trigger t ≤ false_guard_target complete e p
      → AreFine c p (p + length_trigger t)
  trigger_fine Dispatch complete e p is all has calm sees level closed inside on before =
      none_fine c p (p + 0) (omega arith)
  trigger_fine Always complete e p is all has calm sees level closed inside on before =
      none_fine c p (p + 0) (omega arith)
  trigger_fine (When g) complete e p is all has calm sees level closed inside on before =
      let to = false_guard_target complete e p in
      let r = p + length_of g in
      let front = has_front c.instrs p (code_of g p) (code.JumpZero to ∷ []) has in
      let here =
      (has_back c.instrs p (length_of g) r (code_of g p) (code.JumpZero to ∷ []) (code-length g p) refl has).0 in
      let guard_closed = expr_closed c.instrs g p r front refl in
      let upto = closed_both c.instrs 0 p r (omega arith) calm.closed guard_closed in
      both_fine c p r (p + (length_of g + 1))
      (value_fine c (sizes b) fits g p (length b.vars) front calm.level
      (calm_round c.instrs p (p + length_of g) (length b.vars) calm) (omega arith) (omega arith) sees)
      (fine_at c r (r + 1) (p + (length_of g + 1)) (omega arith)
      (zero_fine c r to 0 here (omega arith) (inside refl refl)
      (jump_stays c.instrs r to (omega arith) (calm_outer c.instrs r to upto)
      (record { each = λ k l opens at below. closed.each k l opens (omega arith) below })) (omega arith)
      (expr_height c.instrs g p 0 front calm.level) level))

  -- a transition of a state
  edge_fine : (complete : Bool) (e : Edge) (s p : ℕ) → Member b.transitions e → e.source ≡ s → s < length b.states
      → HasAt c.instrs p (edge_code b starts complete e p) → IsLoopFree c.instrs p
      → p + length_edge e ≤ starts s + block_length b s
      → (is_always e.trigger ≡ false → is_dispatch e.trigger ≡ false
      → false_guard_target complete e p < length c.instrs)
      → AreFine c p (p + length_edge e)
  edge_fine complete e s p among from within has calm before inside =
      let edge = edge_has b e (all_member (is_edge b) b.transitions e rules.edges among) in
      let t = length_trigger e.trigger in
      let m = length_acts e.actions in
      let n = length b.vars in
      let to = false_guard_target complete e p in
      let guard = trigger_code e.trigger to p in
      let body = code_acts e.actions n (p + t) in
      let i = last_instr b starts e.target in
      let q = p + t + m in
      let all = p + (t + m + 1) in
      let most = ends s within in
      let front = has_front c.instrs p guard (body ++ i ∷ []) has in
      let back = has_back c.instrs p t (p + t) guard (body ++ i ∷ []) (trigger-length e.trigger to p) refl has in
      let acted = has_front c.instrs (p + t) body (i ∷ []) back in
      let here = (has_back c.instrs (p + t) m q body (i ∷ []) (acts-length e.actions n (p + t)) refl back).0 in
      let one = trigger_height c.instrs e.trigger to p front calm.level in
      let two = acts_height c.instrs e.actions n (p + t) acted one in
      let guard_closed = trigger_closed c.instrs e.trigger to p front in
      let body_closed = acts_closed c.instrs e.actions n (p + t) q acted refl in
      let upto_body = closed_both c.instrs p (p + t) q (omega arith) guard_closed body_closed in
      let calm_q : IsLoopFree c.instrs (p + t) =
      record { closed = closed_both c.instrs 0 p (p + t) (omega arith) calm.closed guard_closed; level = one } in
      let room = edge_depth b.transitions e among in
      let sees = acts_seen e.actions b (sizes b) n 0 1 (fitting b) (omega arith) (omega arith) edge.sound in
      let behind = past_calm complete e p q all has calm (omega arith) (omega arith) two upto_body in
      both_fine c p (p + t) all
      (trigger_fine e.trigger complete e p refl has front calm
      (trigger_seen e.trigger b (sizes b) (fitting b) edge.condition) behind.0 behind.1 inside (omega arith)
      (past_behind complete e p))
      (both_fine c (p + t) q all
      (acts_fine c (sizes b) fits e.actions n (p + t) acted one (calm_round c.instrs (p + t) (p + t + m) n calm_q) sees
      (omega arith) (omega arith) (omega arith))
      (fine_at c q (q + 1) all (omega arith)
      (end_by (is_complete b e.target) e s q refl among from within edge.target (omega arith)
      (closed_both c.instrs 0 p q (omega arith) calm.closed upto_body) two here)))
    where
      past_calm : (complete : Bool) (e : Edge) (p q all : ℕ) → HasAt c.instrs p (edge_code b starts complete e p)
          → IsLoopFree c.instrs p → q ≡ p + length_edge e - 1 → all ≡ p + length_edge e → height c.instrs q ≡ 0
          → Closed c.instrs p q
          → (height c.instrs (false_guard_target complete e p) ≡ 0)
          × Closed c.instrs p (false_guard_target complete e p)
      past_calm true e p q all has calm q_is all_is level closed =
          (height_at c.instrs q (p + length_edge e - 1) 0 q_is level, subst (Closed c.instrs p) q_is closed)
      past_calm false e p q all has calm q_is all_is level closed =
          (edge_height c.instrs b starts false e p has calm.level, edge_closed c.instrs b starts false e p has)

      past_behind : (complete : Bool) (e : Edge) (p : ℕ)
          → p + length_trigger e.trigger ≤ false_guard_target complete e p
      past_behind true e p = omega arith
      past_behind false e p = omega arith

  -- the transitions of a state, the last of which has no guard unless the state is complete
  block_fine : (complete : Bool) (es : List Edge) (s p : ℕ)
      → ((e : Edge) → Member es e → Member b.transitions e × (e.source ≡ s)) → s < length b.states
      → HasAt c.instrs p (block_code b starts complete es p) → IsLoopFree c.instrs p
      → p + length_edges es ≡ starts s + block_length b s
      → (complete ≡ false → LastOpen es) → AreFine c p (p + length_edges es)
  block_fine complete [] s p members within has calm at unguarded = none_fine c p (p + 0) (omega arith)
  block_fine complete (e ∷ es) s p members within has calm at unguarded =
      let q = p + length_edge e in
      let all = p + (length_edge e + length_edges es) in
      let part = edge_code b starts complete e p in
      let front = has_front c.instrs p part (block_code b starts complete es q) has in
      let back =
      has_back c.instrs p (length_edge e) q part (block_code b starts complete es q)
      (edge-length b starts complete e p) refl has in
      let one = members e (inl refl) in
      let most = ends s within in
      both_fine c p q all
      (edge_fine complete e s p one.0 one.1 within front calm (omega arith)
      (λ guarded going. past_inside complete e es p (length c.instrs) guarded (omega arith) unguarded))
      (fine_at c q (q + length_edges es) all (omega arith)
      (block_fine complete es s q (λ f among. members f (inr among)) within back
      (calm_edge c.instrs b starts complete e p front calm) (omega arith)
      (λ isnt. rest_open e es (unguarded isnt))))

  -- each place
  fine_places : (k : ℕ) (i : Instr) → slice_get c.instrs k ≡ Some i → IsFine c k i
  fine_places k i is =
      let built = (order_full b rules).built in
      let inside = slice_get_within c.instrs k i is in
      let n = whole_length in
      let w = lies_in b (block_order b) 0 k built.once (omega arith) (omega arith) in
      let s = w.state in
      let within = built.within s w.placed in
      let at = start_is b s within in
      let fine =
      block_fine (is_complete b s) (leaving b s) s (starts s) (λ e among. member_leaving b.transitions s e among)
      within (whole_block c.instrs b s rules instrs within) (begins s within) refl
      (λ going. last_open (leaving b s) (onward_of b s rules within going).unguarded) in
      let from = w.from in
      let before = w.before in
      fine.each k i (omega arith) (omega arith) is

  -- ---- entries
  entry_calm : (complete : Bool) (es : List Edge) (e : Edge) (p : ℕ)
      → HasAt c.instrs p (block_code b starts complete es p) → find (λ e. is_dispatch e.trigger) es ≡ Some e
      → IsLoopFree c.instrs p → IsLoopFree c.instrs (p + dispatch_offset es) × (dispatch_offset es < length_edges es)
  entry_calm complete [] e p has found calm = cc
  entry_calm complete (f ∷ es) e p has found calm =
      let part = edge_code b starts complete f p in
      let q = p + length_edge f in
      by (is_dispatch f.trigger) found
      (λ later. entry_calm complete es e q
      (has_back c.instrs p (length_edge f) q part (block_code b starts complete es q)
      (edge-length b starts complete f p) refl has) later
      (calm_edge c.instrs b starts complete f p
      (has_front c.instrs p part (block_code b starts complete es q) has) calm))
    where
      by : (t : Bool) → (if t then Some f else find (λ e. is_dispatch e.trigger) es) ≡ Some e
          → (find (λ e. is_dispatch e.trigger) es ≡ Some e
          → IsLoopFree c.instrs (p + length_edge f + dispatch_offset es) × (dispatch_offset es < length_edges es))
          → IsLoopFree c.instrs (p + (if t then 0 else length_edge f + dispatch_offset es))
          × ((if t then 0 else length_edge f + dispatch_offset es) < length_edge f + length_edges es)
      by true is later = (calm_at c.instrs p (p + 0) (omega arith) calm, omega arith)
      by false is later = let x = later is in let less = x.1 in (
        calm_at c.instrs (p + length_edge f + dispatch_offset es) (p + (length_edge f + dispatch_offset es))
            (omega arith) x.0,
        omega arith,
      )

  entry_at : (s e : ℕ) (t : Bool) → s < length b.states → is_complete b s ≡ t
      → (if t then Some (starts s + dispatch_offset (leaving b s)) else None) ≡ Some e
      → IsLoopFree c.instrs e × (e < length c.instrs)
  entry_at s e false within is entry = cc
  entry_at s e true within is entry =
      let place : starts s + dispatch_offset (leaving b s) ≡ e = cc in
      let d = dispatch_of b s rules within is in
      let x =
      entry_calm (is_complete b s) (leaving b s) d.edge (starts s) (whole_block c.instrs b s rules instrs within)
      d.found (begins s within) in
      let less = x.1 in
      let most = ends s within in
      (calm_at c.instrs (starts s + dispatch_offset (leaving b s)) e place x.0, omega arith)

  mapped : {A : Type 0} (f : ℕ → A) (from n : ℕ) (y : A) → Member (map f (upwards from n)) y
      → (s : ℕ) × (s < from + n) × (f s ≡ y)
  mapped f from zero y among = absurd among
  mapped f from (suc n) y among =
      ⊎_elim (λ (here : f from ≡ y). (from, omega arith, here))
      (λ later. let x = mapped f (suc from) n y later in let less = x.1 in (x.0, omega arith, x.2)) among

  pub entry_good : (e : ℕ) → Member c.entries (Some e) → IsLoopFree c.instrs e × (e < length c.instrs)
  entry_good e among =
      let x =
      mapped (entry_of b starts) 0 (length b.states) (Some e) (subst (λ es. Member es (Some e)) entries among) in
      let less = x.1 in
      entry_at x.0 e (is_complete b x.0) (omega arith) refl x.2

  -- ---- heights of paths
  onward_way : (p t : ℕ) (i : Instr) → Member (forward_successors p (Some i)) t → Member (all_successors p i) t
  onward_way p t i way = by (back_of i)
    where
      by : (o : Option ℕ) → Member (option_to_list o ++ forward_successors p (Some i)) t
      by None = way
      by (Some x) = inr way

  reached : (n p h : ℕ) → Reaches c.instrs c.entries n p h → h ≡ height c.instrs p
  reached zero p h r = r.1 ∙ sym (entry_good p r.0).0.level
  reached (suc n) p h r =
      let q = r.0 in
      let i = r.2 in
      let fine = fine_places q i r.4 in
      r.8 ∙ ap (λ k. after k i) (reached n q r.1 r.3) ∙ sym (fine.level p (onward_way q p i r.6))

  -- ---- the rules
  no_loops : (e : ℕ) → Closed c.instrs 0 e → is_none (around c.instrs e) ≡ true
  no_loops e closed =
      by (around c.instrs e) (none_round c.instrs (λ l. true) e e
      (λ k l is less lies. absurd (let le = closed.each k l is (omega arith) less in omega arith)))
    where
      by : (ls : List LoopSpan) → list_any (λ l. true) ls ≡ false → is_none ls ≡ true
      by [] none = refl
      by (l ∷ ls) none = absurd (true≢false none)

  is_some : (o : Option ℕ) (p : ℕ) → on_some o (nat_eq p) ≡ true → o ≡ Some p
  is_some None p is = absurd (false≢true is)
  is_some (Some e) p is = let same : p ≡ e = grind arith in ap Some (sym same)

  good_entry : (p : ℕ) → is_bad_entry c.instrs c.entries p ≡ false
  good_entry p = by (is_entry c.entries p) refl
    where
      by : (t : Bool) → is_entry c.entries p ≡ t → (t && enters_badly c.instrs p) ≡ false
      by false is = refl
      by true is =
          let w = some_member (λ entry. on_some entry (nat_eq p)) c.entries is in
          let among : Member c.entries (Some p) = subst (Member c.entries) (is_some w.item p w.holds) w.among in
          let x = entry_good p among in
          let less : nat_lt p (length c.instrs) ≡ true = (let y = x.1 in grind arith) in
          ap (λ y. not (y && is_none (around c.instrs p))) less ∙ ap not (no_loops p x.0.closed)

  finds_none : (test : Instr → Bool) (p : ℕ) → ((i : Instr) → slice_get c.instrs p ≡ Some i → test i ≡ false)
      → finds c test p ≡ false
  finds_none test p none = by (slice_get c.instrs p) refl
    where
      by : (o : Option Instr) → slice_get c.instrs p ≡ o → on_some o test ≡ false
      by None is = refl
      by (Some i) is = none i is

  not_bad : (p : ℕ) (i : Instr) → IsFine c p i → jumps_badly c.instrs p i ≡ false
  not_bad p i fine = ap (λ x. x || lacks_next c.instrs p i) (jumped (jump_of i) refl) ∙ on_next (may_go_on i) refl
    where
      jumped : (o : Option ℕ) → jump_of i ≡ o → on_some o (strays c.instrs p) ≡ false
      jumped None is = refl
      jumped (Some t) is =
          let x = fine.jump t is in
          let less : nat_lt t (length c.instrs) ≡ true = (let y = x.1 in grind arith) in
          ap (λ y. not (y && stays c.instrs p t)) less ∙ ap not x.2

      on_next : (t : Bool) → may_go_on i ≡ t
          → on_some (if t then Some (p + 1) else None) (λ next. not (nat_lt next (length c.instrs))) ≡ false
      on_next false is = refl
      on_next true is = let less = fine.next is in
          let y : nat_lt (p + 1) (length c.instrs) ≡ true = grind arith in ap not y

  not_back : (p : ℕ) (i : Instr) → IsFine c p i → jumps_back c.instrs p i ≡ false
  not_back p i fine = ap (λ x. x || lacks_loop c.instrs p i) (jumped (jump_of i) refl) ∙ fine.loop
    where
      jumped : (o : Option ℕ) → jump_of i ≡ o → on_some o (λ to. not (nat_lt p to)) ≡ false
      jumped None is = refl
      jumped (Some t) is = let x = fine.jump t is in
          let y : nat_lt p t ≡ true = (let less = x.0 in grind arith) in ap not y

  untrue : (x : Bool) → x ≡ false → IsTrue x → ⊥
  untrue x is holds = absurd (true≢false (sym holds ∙ is))

  rule_clean : (p : ℕ) (rule : Rule) → ¬ Finds c rule p
  rule_clean p BadJump found =
      untrue (is_bad_entry c.instrs c.entries p || finds c (jumps_badly c.instrs p) p)
      (ap (λ x. x || finds c (jumps_badly c.instrs p) p) (good_entry p)
      ∙ finds_none (jumps_badly c.instrs p) p (λ i is. not_bad p i (fine_places p i is))) found
  rule_clean p BackJump found =
      untrue (finds c (jumps_back c.instrs p) p)
      (finds_none (jumps_back c.instrs p) p (λ i is. not_back p i (fine_places p i is))) found
  rule_clean p BadSlot found =
      untrue (finds c (misses_slot c p) p) (finds_none (misses_slot c p) p (λ i is. (fine_places p i is).slot)) found
  rule_clean p Underflow found =
      let fine = fine_places p found.instr found.here in
      let at = reached found.steps p found.height found.reached in
      let enough = fine.enough in
      let fewer = found.fewer in
      absurd (omega arith)
  rule_clean p HeightsDiffer found =
      let fine = fine_places p found.instr found.here in
      let at = reached found.steps p found.height found.reached in
      let other = reached found.given.steps found.to found.other found.given.path in
      found.differs (other ∙ fine.level found.to found.leads ∙ ap (λ k. after k found.instr) (sym at))

  pub all_clean : length c.instrs ≤ INSTRUCTIONS → IsVerified c
  all_clean short = record { short = short; clean = rule_clean }

pub compiled_verified : (b : BehaviourParts) → IsBehaviour b → code_length b ≤ INSTRUCTIONS → IsVerified (compiled b)
unfolding compiled
compiled_verified b rules short =
    let same = compiled_length b rules in
    all_clean b (compiled b) rules refl refl (record { declared = refl; slots = refl; outs = refl; ins = refl }) refl
    (omega arith)

-- the only fault of verified parts is that there is not enough memory
pub only_memory : (c : CodeParts) (f : CodeFault) → IsVerified c → IsFaultOf c f → f ≡ fault.Memory
only_memory c (fault.BadJump p) v is = absurd (v.clean p BadJump is.here)
only_memory c (fault.BackJump p) v is = absurd (v.clean p BackJump is.here)
only_memory c (fault.BadSlot p) v is = absurd (v.clean p BadSlot is.here)
only_memory c (fault.Underflow p) v is = absurd (v.clean p Underflow is.here)
only_memory c (fault.HeightsDiffer p) v is = absurd (v.clean p HeightsDiffer is.here)
only_memory c (fault.TooLong n) v is = absurd (let short = v.short in let long = is.1 in omega arith)
only_memory c fault.Memory v is = refl
