-- Without findings, transitions are well formed, each state has its outgoing transitions, and no cycle avoids the
-- complete states.
use Rattle.std.proofs.Common.{◌≡◌, ℕ, ◌+◌, ◌-◌, ◌<◌, Bool, true, false, nat_eq, nat_lt, ◌&&◌, cond, List, [], ◌∷◌, ◌++◌}
use Rattle.std.proofs.Common.{length, map, take, Option, Some, None, refl, sym, ap, ◌∙◌, subst, arith}
use Rattle.std.specs.Prelude.{flat_map, filter, fold, slice_get, option_map}
use Rattle.std.specs.List.{list_all, list_any, enumerate_from}
use Rattle.std.specs.Option.{unwrap_or}
use Rattle.std.proofs.lemmas.Bool.{false≢true, eqb-true, and_from, and_parts, not-false, or_parts}
use Rattle.std.proofs.lemmas.List.{length-map}
use Rattle.std.proofs.lemmas.Option.{slice_get-map}
use Rattle.list_lemmas.proofs.ElementPositions.{slice_get-some}
use Rattle.list_lemmas.proofs.ListOperations.{append_is_nil}
use Rattle.pals_base.specs.declared.behaviour.BehaviourParts.{BehaviourParts}
use Rattle.pals_base.specs.ExpressionAndActionTrees as plain
use Rattle.pals_base.specs.TypingRules.{are_sound}
use Rattle.pals_base.specs.SingleStep.{completes, is_complete, is_dispatch, leaving}
use Rattle.pals_base.specs.BehaviourRules.{has_condition, is_edge, dispatch_count, is_always, ends_unguarded, has_ways}
use Rattle.pals_base.specs.BehaviourRules.{IsAcyclic}
use Rattle.pals_base.specs.UpwardNumbers.{upwards}
use Rattle.pals_base.proofs.TransitionWaysAndCycles.{incomplete_within}
use Rattle.pals_base.proofs.UpwardNumbers.{slice_get-map_upwards, list_all_upwards}
use Rattle.aadl_tree.specs.Annexes.{Guard, dispatch, otherwise, when, Transition}
use Rattle.aadl_tree.specs.Actions.{Block}
use Rattle.annex_resolve.specs.declared.scope.Scope.{Scope}
use Rattle.annex_resolve.specs.declared.states.StateAt.{StateAt}
use Rattle.annex_resolve.specs.declared.outgoing_transitions.Departure.{Departure}
use Rattle.annex_resolve.specs.declared.outgoing_transitions.GuardCase.{GuardCase}
use Rattle.annex_resolve.specs.declared.violation.TheConstants.{DISPATCH_COUNT, NO_OTHERWISE, CYCLE_WITHOUT_COMPLETE}
use Rattle.annex_resolve.specs.FindingRecords.{found_if}
use Rattle.annex_resolve.specs.IncompleteStateCycles.{is_on_cycle}
use Rattle.annex_resolve.specs.BehavioursAndFindings.{declared, state_number, trigger_of, effect_of, edge_of}
use Rattle.annex_resolve.specs.BehavioursAndFindings.{guard_types, effect_findings, transition_findings}
use Rattle.annex_resolve.specs.BehavioursAndFindings.{breaks_dispatch, guard_case_of, departure_of, guard_cases_from}
use Rattle.annex_resolve.specs.BehavioursAndFindings.{is_otherwise}
use Rattle.annex_resolve.specs.BehavioursAndFindings.{is_guarded, is_open, lacks_otherwise, state_rules, cycles_of}
use Rattle.annex_resolve.proofs.StateReachability.{way_reaches}
use Rattle.design_laws.specs.proof.FittingAnnexNames.{FitsScope, is_declared}
use Rattle.design_laws.proofs.EmptyFindingLists.{not_wrong, none_at, filter-map}
use Rattle.design_laws.proofs.SoundActions.{test_sound, block_sound}

-- ---- transitions
guard_sound : (b : BehaviourParts) (scope : Scope) → FitsScope b 0 scope → (g : Option (Guard ℕ))
    → guard_types scope g ≡ [] → has_condition b (trigger_of scope g) ≡ true
guard_sound b scope fit None none = refl
guard_sound b scope fit (Some dispatch) none = refl
guard_sound b scope fit (Some otherwise) none = refl
guard_sound b scope fit (Some (when e)) none = test_sound b 0 scope fit e none

effect_sound : (b : BehaviourParts) (scope : Scope) → FitsScope b 0 scope → (x : Option (Block ℕ))
    → effect_findings scope x ≡ [] → are_sound (effect_of scope x) b 0 1 ≡ true
effect_sound b scope fit None none = refl
effect_sound b scope fit (Some x) none = block_sound b x 0 1 scope fit none

edge_sound : (b : BehaviourParts) (scope : Scope) (states : List StateAt) → FitsScope b 0 scope
    → length b.states ≡ length states → (t : Transition ℕ) → is_declared states t ≡ true
    → transition_findings scope t ≡ []
    → is_edge b (edge_of scope states t) ≡ true
edge_sound b scope states fit count t known none =
    let p = append_is_nil (guard_types scope t.guard) (effect_findings scope t.effect) none in
    let there : (nat_lt (state_number states t.source.spelling) (length b.states)
    && nat_lt (state_number states t.target.spelling) (length b.states)) ≡ true =
    subst (λ n. (nat_lt (state_number states t.source.spelling) n && nat_lt (state_number states t.target.spelling) n)
    ≡ true) (sym count) known in
    and_from (nat_lt (state_number states t.source.spelling) (length b.states)
    && nat_lt (state_number states t.target.spelling) (length b.states)
    && has_condition b (trigger_of scope t.guard)) (are_sound (effect_of scope t.effect) b 0 1)
    (and_from (nat_lt (state_number states t.source.spelling) (length b.states)
    && nat_lt (state_number states t.target.spelling) (length b.states))
    (has_condition b (trigger_of scope t.guard)) there (guard_sound b scope fit t.guard p.0))
    (effect_sound b scope fit t.effect p.1)

pub edges_sound : (b : BehaviourParts) (scope : Scope) (states : List StateAt) → FitsScope b 0 scope
    → length b.states ≡ length states → (ts : List (Transition ℕ)) → list_all (is_declared states) ts ≡ true
    → flat_map (transition_findings scope) ts ≡ [] → list_all (is_edge b) (map (edge_of scope states) ts) ≡ true
edges_sound b scope states fit count [] known none = refl
edges_sound b scope states fit count (t ∷ ts) known none =
    let k = and_parts (is_declared states t) (list_all (is_declared states) ts) known in
    let p = append_is_nil (transition_findings scope t) (flat_map (transition_findings scope) ts) none in
    and_from (is_edge b (edge_of scope states t)) (list_all (is_edge b) (map (edge_of scope states) ts))
    (edge_sound b scope states fit count t k.0 p.0) (edges_sound b scope states fit count ts k.1 p.1)

-- ---- the last transition from a state
module _ (scope : Scope) (states : List StateAt) where
  abbrev edges : List (Transition ℕ) → List plain.Edge
  edges ts = map (edge_of scope states) ts

  abbrev ways : List (Transition ℕ) → List GuardCase
  ways ts = map (λ (leg : Departure). leg.way) (map (departure_of states) ts)

  none_dispatch : (d : Bool) (e : plain.Edge) (rest : List plain.Edge) → length (cond d (e ∷ rest) rest) ≡ 0
      → (d ≡ false) × (length rest ≡ 0)
  none_dispatch true e rest none = absurd (omega (arith, none))
  none_dispatch false e rest none = (refl, none)

  open_guard : (g : Option (Guard ℕ)) → is_dispatch (trigger_of scope g) ≡ false → is_guarded (guard_case_of g) ≡ false
      → is_always (trigger_of scope g) ≡ true
  open_guard None d w = refl
  open_guard (Some dispatch) d w = absurd (false≢true (sym d))
  open_guard (Some otherwise) d w = refl
  open_guard (Some (when e)) d w = absurd (false≢true (sym w))

  last_open : (before : Bool) (t : Transition ℕ) (ts : List (Transition ℕ)) → dispatch_count (edges (t ∷ ts)) ≡ 0
      → is_open (slice_get (ways (t ∷ ts)) (length ts)) ≡ false
      → fold (λ before e. is_always e.trigger) before (edges (t ∷ ts)) ≡ true
  last_open before t [] none shut =
      open_guard t.guard (none_dispatch (is_dispatch (trigger_of scope t.guard)) (edge_of scope states t) []
      none).0 shut
  last_open before t (u ∷ us) none shut =
      last_open (is_always (trigger_of scope t.guard)) u us
      (none_dispatch (is_dispatch (trigger_of scope t.guard)) (edge_of scope states t)
      (filter (λ e. is_dispatch e.trigger) (edges (u ∷ us))) none).1 shut

  pub unguarded : (ts : List (Transition ℕ)) → dispatch_count (edges ts) ≡ 0
      → is_open (slice_get (ways ts) (length (ways ts) - 1)) ≡ false → ends_unguarded (edges ts) ≡ true
  unguarded [] none shut = absurd (false≢true (sym shut))
  unguarded (t ∷ ts) none shut =
      let count : length (ways ts) ≡ length ts =
      length-map (map (departure_of states) ts) (λ (leg : Departure). leg.way)
      ∙ length-map ts (departure_of states) in
      let at : length (ways (t ∷ ts)) - 1 ≡ length ts = omega (arith, count) in
      last_open false t ts none (subst (λ n. is_open (slice_get (ways (t ∷ ts)) n) ≡ false) at shut)

-- ---- the findings of a state

ways_by : (complete : Bool) (count : ℕ) (ends : Bool) → nat_eq count (cond complete 1 0) ≡ true
    → (complete ≡ false → nat_eq count 0 ≡ true → ends ≡ true)
    → cond complete (nat_eq count 1) (nat_eq count 0 && ends) ≡ true
ways_by true count ends right end' = right
ways_by false count ends right end' = and_from (nat_eq count 0) ends right (end' refl right)

otherwise_empty : {X : Type 0} (c : Bool) (xs : List X) → cond c [] xs ≡ [] → c ≡ false → xs ≡ []
otherwise_empty true xs e is = absurd (false≢true (sym is))
otherwise_empty false xs e is = e

module _ (b : BehaviourParts) (scope : Scope) (states : List StateAt) (ts : List (Transition ℕ))
    (is_states : b.states ≡ map declared states) (is_edges : b.transitions ≡ map (edge_of scope states) ts) where
  abbrev leave : ℕ → List (Transition ℕ)
  leave n = filter (λ t. nat_eq (state_number states t.source.spelling) n) ts

  leaving_is : (n : ℕ) → leaving b n ≡ map (edge_of scope states) (leave n)
  leaving_is n =
      ap (filter (λ (e : plain.Edge). nat_eq e.source n)) is_edges
      ∙ filter-map (λ (e : plain.Edge). nat_eq e.source n) (edge_of scope states) ts

  ways_are : (n : ℕ) → guard_cases_from n (map (departure_of states) ts)
      ≡ map (λ (leg : Departure). leg.way) (map (departure_of states) (leave n))
  ways_are n =
      ap (map (λ (leg : Departure). leg.way)) (filter-map (λ (leg : Departure). nat_eq leg.source n)
      (departure_of states) ts)

  complete_is : (n : ℕ) (s : StateAt) → slice_get states n ≡ Some s → is_complete b n ≡ s.complete
  complete_is n s is =
      ap (λ l. completes (slice_get l n)) is_states
      ∙ ap completes (slice_get-map declared states n ∙ ap (option_map declared) is)

  pub state_has_ways : (n : ℕ) (s : StateAt) → slice_get states n ≡ Some s
      → state_rules b (map (departure_of states) ts) (cycles_of b) (n, s) ≡ [] → has_ways b n ≡ true
  state_has_ways n s is none =
      let first = found_if (breaks_dispatch b n) s.at DISPATCH_COUNT s.name in
      let lacks = lacks_otherwise (guard_cases_from n (map (departure_of states) ts)) in
      let second = found_if lacks s.at NO_OTHERWISE s.name in
      let third = found_if (unwrap_or (slice_get (cycles_of b) n) false) s.at CYCLE_WITHOUT_COMPLETE s.name in
      let p = append_is_nil first (cond s.complete [] (second ++ third)) none in
      let count =
      not-false (nat_eq (dispatch_count (leaving b n)) (cond (is_complete b n) 1 0))
      (not_wrong (breaks_dispatch b n) s.at DISPATCH_COUNT s.name p.0) in
      ways_by (is_complete b n) (dispatch_count (leaving b n)) (ends_unguarded (leaving b n)) count (λ open' zero'.
      let rest =
      append_is_nil second third
      (otherwise_empty s.complete (second ++ third) p.1 (sym (complete_is n s is) ∙ open')) in
      let shut =
      (or_parts (is_open (slice_get (guard_cases_from n (map (departure_of states) ts))
      (length (guard_cases_from n (map (departure_of states) ts)) - 1)))
      (list_any is_otherwise (take (length (guard_cases_from n (map (departure_of states) ts)) - 1)
      (guard_cases_from n (map (departure_of states) ts)))) (not_wrong lacks s.at NO_OTHERWISE s.name rest.0)).0 in
      subst (λ l. ends_unguarded l ≡ true) (sym (leaving_is n))
      (unguarded scope states (leave n)
      (subst (λ l. dispatch_count l ≡ 0) (leaving_is n) (eqb-true (dispatch_count (leaving b n)) 0 zero'))
      (subst (λ l. is_open (slice_get l (length l - 1)) ≡ false) (ways_are n) shut)))

  pub state_no_cycle : (n : ℕ) (s : StateAt) → slice_get states n ≡ Some s → n < length b.states
      → state_rules b (map (departure_of states) ts) (cycles_of b) (n, s) ≡ [] → is_complete b n ≡ false
      → is_on_cycle b n ≡ false
  state_no_cycle n s is within none open' =
      let first = found_if (breaks_dispatch b n) s.at DISPATCH_COUNT s.name in
      let second = found_if (lacks_otherwise (guard_cases_from n (map (departure_of states) ts))) s.at NO_OTHERWISE
      s.name in
      let third = found_if (unwrap_or (slice_get (cycles_of b) n) false) s.at CYCLE_WITHOUT_COMPLETE s.name in
      let p = append_is_nil first (cond s.complete [] (second ++ third)) none in
      let rest =
      append_is_nil second third
      (otherwise_empty s.complete (second ++ third) p.1 (sym (complete_is n s is) ∙ open')) in
      sym (ap (λ o. unwrap_or o false) (slice_get-map_upwards (is_on_cycle b) (length b.states) n within))
      ∙ not_wrong (unwrap_or (slice_get (cycles_of b) n) false) s.at CYCLE_WITHOUT_COMPLETE s.name rest.1

  -- the state of a number below the number of states
  state_of : (n : ℕ) → n < length b.states → (s : StateAt) × (slice_get states n ≡ Some s)
  state_of n within =
      slice_get-some states n (subst (λ k. n < k) (ap length is_states ∙ length-map states declared) within)

  pub all_have_ways : flat_map (state_rules b (map (departure_of states) ts) (cycles_of b)) (enumerate_from 0 states)
      ≡ []
      → list_all (has_ways b) (upwards 0 (length b.states)) ≡ true
  all_have_ways none = list_all_upwards (has_ways b) 0 (length b.states) (λ n low high.
      let s = state_of n (omega (arith, high)) in
      let rules' = none_at (state_rules b (map (departure_of states) ts) (cycles_of b)) 0 states none n s.0 s.1 in
      let z : 0 + n ≡ n = omega arith in
      state_has_ways n s.0 s.1
      (sym (ap (λ k. state_rules b (map (departure_of states) ts) (cycles_of b) (k, s.0)) z) ∙ rules'))

  pub no_cycles : flat_map (state_rules b (map (departure_of states) ts) (cycles_of b)) (enumerate_from 0 states) ≡ []
      → IsAcyclic b
  unfolding IsAcyclic
  no_cycles none s n way =
      let within = incomplete_within b s way.0 in
      let x = state_of s within in
      let rules' = none_at (state_rules b (map (departure_of states) ts) (cycles_of b)) 0 states none s x.0 x.1 in
      let z : 0 + s ≡ s = omega arith in
      false≢true (sym (state_no_cycle s x.0 x.1 within
      (sym (ap (λ k. state_rules b (map (departure_of states) ts) (cycles_of b) (k, x.0)) z) ∙ rules') way.0)
      ∙ way_reaches n b s s way)
