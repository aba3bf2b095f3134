-- A step of the compiled code leaves what the behaviour's step leaves.
use Rattle.std.proofs.Common.{◌≡◌, ◌∙◌, inl, inr, ⊎_elim, ℕ, zero, suc, ◌+◌, ◌<◌, ◌≤◌, ℤ, pos, Bool, true, false, ◌&&◌}
use Rattle.std.proofs.Common.{◌||◌, if◌then◌else◌, List, [], ◌∷◌, ◌++◌, length, map, take, replicate, Option, Some}
use Rattle.std.proofs.Common.{None, slice_index_or, refl, sym, ap, subst, arith, length-append, nat_eq}
use Rattle.std.specs.Prelude.{slice_get, filter, find, IsTrue, Result, Ok, Err, max}
use Rattle.std.specs.List.{list_all}
use Rattle.std.proofs.lemmas.Bool.{and_parts}
use Rattle.std.proofs.lemmas.List.{length-map, length-replicate, get_or_append_left}
use Rattle.std.proofs.lemmas.Option.{slice_get-get_or, slice_get_within}
use Rattle.pals_base.specs.declared.basic_types.Trap.{Trap}
use Rattle.pals_base.specs.declared.frames.Frame.{Frame}
use Rattle.pals_base.specs.declared.basic_types.PortValue.{PortValue as Value}
use Rattle.pals_base.specs.declared.basic_types.PortValue.TheVariants.{Absent}
use Rattle.pals_base.specs.declared.behaviour.BehaviourParts.{BehaviourParts}
use Rattle.pals_base.specs.declared.behaviour.StateDecl.{StateDecl}
use Rattle.pals_base.specs.ExpressionAndActionTrees.{Edge}
use Rattle.pals_base.specs.ExpressionValues.{on_value}
use Rattle.pals_base.specs.Actions.{Effect, acts}
use Rattle.pals_base.specs.SingleStep.{Fired, holding, is_present, silence, completes, may_begin, is_complete, leaving}
use Rattle.pals_base.specs.SingleStep.{is_dispatch, first_open, along, settled, dispatched, reaction, outcome, HasShape}
use Rattle.pals_base.specs.SingleStep.{fire}
use Rattle.pals_base.specs.SingleStep as base
use Rattle.pals_base.specs.BehaviourRules.{is_edge, dispatch_count, ends_unguarded, has_ways, IsBehaviour}
use Rattle.pals_base.specs.proof.CycleSearchMarks.{settles}
use Rattle.pals_base.proofs.CycleSearchMarks.{rule_at}
use Rattle.pals_base.proofs.TransitionWaysAndCycles.{settled_unless_cycle}
use Rattle.pals_base.proofs.StepTermination.{leaving_sound}
use Rattle.pals_base.proofs.UpwardNumbers.{length-upwards, slice_get-map_upwards}
use Rattle.step_code.specs.declared.instr.Instr.{Instr}
use Rattle.step_code.specs.declared.instr.CodeParts.{CodeParts}
use Rattle.step_code.specs.InstructionEffects.{StepInputs}
use Rattle.step_code.specs.SuccessorsAndWeights.{weight_of}
use Rattle.step_code.specs.proof.CodeRuns.{CodeOutcome, run, what_is_left, run_from, from_entry, unless_halted, exec}
use Rattle.step_code.specs.proof.CodeRuns.{Leaves}
use Rattle.step_code.specs.proof.CodeRuns.{has_entry, IsOver}
use Rattle.step_code.specs.InstructionsPerStep.{silent, step_inputs}
use Rattle.step_code.specs.proof.StackHeights.{Member}
use Rattle.step_code.specs.proof.VerifierRules.{IsVerified}
use Rattle.step_code.specs.proof.CodeMatchesBehaviour.{Means}
use Rattle.step_code.specs.CodeLengths.{code_length}
use Rattle.step_code.proofs.FuelMonotonicity.{longer}
use Rattle.step_code.proofs.StepResults.{length-holding, member_at, run_over}
use Rattle.step_compiler.specs.LoopDepths.{depth_acts, depth_edges}
use Rattle.step_compiler.specs.LaidOutCode.{states_of}
use Rattle.step_compiler.specs.proof.BlockOrder.{block_order}
use Rattle.step_compiler.specs.BlockInstructions.{block_code, blocks_code, dispatch_offset, entry_of}
use Rattle.step_compiler.specs.proof.BlockLengthsAndStarts.{in_list}
use Rattle.step_compiler.specs.proof.CompiledCode.{block_starts, compiled}
use Rattle.step_compiler.proofs.BehaviourAccessBounds.{Sizes, IsGood, AreGood}
use Rattle.step_compiler.proofs.SoundBehaviourAccesses.{Fitting, acts_seen, trigger_seen}
use Rattle.step_compiler.proofs.PlacedCodeLengths.{HasAt, blocks-length}
use Rattle.step_compiler.proofs.TransitionRules.{edge_has}
use Rattle.step_compiler.proofs.BlockOrderCompleteness.{all_member, order_sum}
use Rattle.step_compiler.proofs.BlockPlaces.{whole_block, dispatch_at}
use Rattle.step_compiler.proofs.ExpressionRuns.{At, at, runs}
use Rattle.step_compiler.proofs.ActionAndLoopEffects.{Fits}
use Rattle.step_compiler.proofs.TransitionRuns.{Finishes, taken, blocks_run}

-- ---- what transitions that leave a state have

kept_depth : (g : Edge → Bool) (es : List Edge) → depth_edges (filter g es) ≤ depth_edges es
kept_depth g [] = omega arith
kept_depth g (e ∷ es) = by (g e) (kept_depth g es)
  where
    by : (t : Bool) → depth_edges (filter g es) ≤ depth_edges es
        → depth_edges (if t then e ∷ filter g es else filter g es) ≤ max (depth_acts e.actions) (depth_edges es)
    by true le = omega arith
    by false le = omega arith

abbrev pub sizes : BehaviourParts → Sizes
sizes b =
    record {
      declared = length b.vars;
      slots = length b.vars + depth_edges b.transitions;
      outs = length b.outs;
      ins = length b.ins;
    }

pub fitting : (b : BehaviourParts) → Fitting b (sizes b)
fitting b = record { declared = refl; outs = refl; ins = refl }

good : (b : BehaviourParts) (m : ℕ) (e : Edge) → is_edge b e ≡ true → settles m b e.target ≡ true
    → depth_acts e.actions ≤ depth_edges b.transitions → IsGood b (sizes b) m e
good b m e sound settle room =
    let has = edge_has b e sound in
    record {
      settles' = settle;
      target = has.target;
      trigger = trigger_seen e.trigger b (sizes b) (fitting b) has.condition;
      actions = acts_seen e.actions b (sizes b) (length b.vars) 0 1 (fitting b) (omega arith) (omega arith) has.sound;
    }

no_dispatch : (e : Edge) (es : List Edge) (t : Bool) → is_dispatch e.trigger ≡ t
    → length (if t then e ∷ filter (λ e. is_dispatch e.trigger) es else filter (λ e. is_dispatch e.trigger) es) ≡ 0
    → (is_dispatch e.trigger ≡ false) × (dispatch_count es ≡ 0)
no_dispatch e es true is none = absurd (omega arith)
no_dispatch e es false is none = (is, none)

goods : (b : BehaviourParts) (m : ℕ) (es : List Edge) → list_all (is_edge b) es ≡ true
    → list_all (λ e. settles m b e.target) es ≡ true → dispatch_count es ≡ 0
    → depth_edges es ≤ depth_edges b.transitions → AreGood b (sizes b) m es
goods b m [] sound settle none room = tt
goods b m (e ∷ es) sound settle none room =
    let s = and_parts (is_edge b e) (list_all (is_edge b) es) sound in
    let t = and_parts (settles m b e.target) (list_all (λ e. settles m b e.target) es) settle in
    let d = no_dispatch e es (is_dispatch e.trigger) refl none in
    (good b m e s.0 t.0 (omega arith), d.0, goods b m es s.1 t.1 d.1 (omega arith))

-- ---- ways
pub record HasOnward (b : BehaviourParts) (s : ℕ) : Type 0 where
  pub none : dispatch_count (leaving b s) ≡ 0
  pub unguarded : ends_unguarded (leaving b s) ≡ true

pub onward_of : (b : BehaviourParts) (s : ℕ) → IsBehaviour b → s < length b.states → is_complete b s ≡ false
    → HasOnward b s
onward_of b s rules within going =
    let ways = rule_at (has_ways b) (length b.states) s rules.ways within in
    let is =
    sym (ap (λ x. if x then nat_eq (dispatch_count (leaving b s)) 1 else nat_eq (dispatch_count (leaving b s)) 0
    && ends_unguarded (leaving b s)) going) ∙ ways in
    let both = and_parts (nat_eq (dispatch_count (leaving b s)) 0) (ends_unguarded (leaving b s)) is in
    record { none = (let e = both.0 in grind arith); unguarded = both.1 }

find_one : (es : List Edge) → dispatch_count es ≡ 1
    → (e : Edge) × (find (λ e. is_dispatch e.trigger) es ≡ Some e) × Member es e
find_one [] one = absurd (omega arith)
find_one (e ∷ es) one = by (is_dispatch e.trigger) refl one (λ rest. find_one es rest)
  where
    by : (t : Bool) → is_dispatch e.trigger ≡ t
        → length (if t then e ∷ filter (λ e. is_dispatch e.trigger) es else filter (λ e. is_dispatch e.trigger) es) ≡ 1
        → (dispatch_count es ≡ 1 → (f : Edge) × (find (λ e. is_dispatch e.trigger) es ≡ Some f) × Member es f)
        → (f : Edge) × ((if t then Some e else find (λ e. is_dispatch e.trigger) es) ≡ Some f) × Member (e ∷ es) f
    by true is one later = (e, refl, inl refl)
    by false is one later = let x = later one in (x.0, x.1, inr x.2)

pub record HasDispatch (b : BehaviourParts) (s : ℕ) : Type 0 where
  pub edge : Edge
  pub found : dispatched b s ≡ Some edge
  pub among : Member (leaving b s) edge

pub dispatch_of : (b : BehaviourParts) (s : ℕ) → IsBehaviour b → s < length b.states → is_complete b s ≡ true
    → HasDispatch b s
dispatch_of b s rules within complete =
    let ways = rule_at (has_ways b) (length b.states) s rules.ways within in
    let is =
    sym (ap (λ x. if x then nat_eq (dispatch_count (leaving b s)) 1 else nat_eq (dispatch_count (leaving b s)) 0
    && ends_unguarded (leaving b s)) complete) ∙ ways in
    let x = find_one (leaving b s) (let e = is in grind arith) in
    record { edge = x.0; found = x.1; among = x.2 }

settled_on : (b : BehaviourParts) (m s : ℕ) → is_complete b s ≡ false → settles (suc m) b s ≡ true
    → list_all (λ e. settles m b e.target) (leaving b s) ≡ true
settled_on b m s going settle = ap (λ x. x || list_all (λ e. settles m b e.target) (leaving b s)) (sym going) ∙ settle

-- ---- runs that are over
same_end : (code : List Instr) (s : StepInputs) (j w : ℕ) (a : At) → IsOver (runs code s j a) → IsOver (runs code s w a)
    → runs code s w a ≡ runs code s j a
same_end code s j w a first second =
    sym (longer code s j w a.place a.stack a.slots a.outs second)
    ∙ ap (λ k. runs code s k a) (omega arith)
    ∙ longer code s w j a.place a.stack a.slots a.outs first

-- ---- what a step does not change
abbrev Keeps : Frame → Result Fired Trap → Type 0
Keeps held (Ok f) = (f.frame.held ≡ held.held) × (f.frame.halt ≡ held.halt)
Keeps held (Err trap) = Unit {0}

along_keeps : (held : Frame) (o : Option Edge) (fresh : List Bool) (f : Fired) → Keeps held (Ok f)
    → Keeps held (along o fresh f)
along_keeps held None fresh f keeps = keeps
along_keeps held (Some e) fresh f keeps = by (acts e.actions f.frame fresh f.outs)
  where
    by : (r : Result Effect Trap)
        → Keeps held (on_value r
        (λ done. Ok (record { frame = record f.frame { state = e.target; vars = done.vars }; outs = done.outs })))
    by (Ok done) = keeps
    by (Err trap) = tt

then_keeps : (held : Frame) (r : Result Fired Trap) (go : Fired → Result Fired Trap) → Keeps held r
    → ((f : Fired) → Keeps held (Ok f) → Keeps held (go f)) → Keeps held (on_value r go)
then_keeps held (Ok f) go keeps later = later f keeps
then_keeps held (Err trap) go keeps later = tt

settled_keeps : (held : Frame) (m : ℕ) (b : BehaviourParts) (fresh : List Bool) (f : Fired) → Keeps held (Ok f)
    → Keeps held (settled m b fresh f)
settled_keeps held zero b fresh f keeps = keeps
settled_keeps held (suc m) b fresh f keeps =
    by (is_complete b f.frame.state) (first_open (leaving b f.frame.state) f.frame fresh)
    (λ o. then_keeps held (along o fresh f) (λ next. settled m b fresh next) (along_keeps held o fresh f keeps)
    (λ next k. settled_keeps held m b fresh next k))
  where
    by : (t : Bool) (r : Result (Option Edge) Trap)
        → ((o : Option Edge) → Keeps held (on_value (along o fresh f) (λ next. settled m b fresh next)))
        → Keeps held (if t then Ok f else on_value r (λ e. on_value (along e fresh f) (λ next. settled m b fresh next)))
    by true r later = keeps
    by false (Ok o) later = later o
    by false (Err trap) later = tt

-- ---- a step
shows_vars : (vars rest : List ℤ) (x : ℕ) → x < length vars
    → slice_get (vars ++ rest) x ≡ Some (slice_index_or vars x (pos 0))
shows_vars vars rest x within =
    slice_get-get_or (vars ++ rest) x (pos 0) (omega (arith, length-append vars rest))
    ∙ ap Some (get_or_append_left vars rest (pos 0) x within)

begin_fits : (b : BehaviourParts) (held : Frame) (inputs : List Value) → length held.vars ≡ length b.vars
    → length held.held ≡ length b.ins → length inputs ≡ length b.ins
    → Fits (step_inputs held.held inputs) (sizes b) (length b.vars)
    (held.vars ++ replicate (depth_edges b.transitions) (pos 0)) (silence b) held (map is_present inputs)
begin_fits b held inputs vars ins size = record {
  shows = record {
    vars = λ x within. shows_vars held.vars (replicate (depth_edges b.transitions) (pos 0)) x within;
    held = λ x within. slice_get-get_or held.held x (pos 0) within;
    fresh' =
        λ x within. slice_get-get_or (map is_present inputs) x false
        (let n = length-map inputs is_present in omega arith);
  };
  size = vars;
  held = ins;
  total =
      (let a = length-append held.vars (replicate (depth_edges b.transitions) (pos 0)) in
      let c = length-replicate (depth_edges b.transitions) (pos 0) in omega arith);
  ports = length-replicate (length b.outs) Absent;
  above = omega arith;
}

-- what the code leaves, by how its run has ended
left_by : (b : BehaviourParts) (whole : List Instr) (c : CodeParts) (held : Frame) (s : StepInputs) (a : At) (w : ℕ)
    (r : Result Fired Trap) → c.vars ≡ length b.vars → c.outs ≡ length b.outs → held.halt ≡ None
    → IsOver (runs whole s w a) → Finishes whole s (length b.vars) a r → Keeps held r
    → what_is_left c held (runs whole s w a) ≡ Leaves (outcome b held r)
left_by b whole c held s a w (Ok f) vars outs halt over ran keeps =
    let same = same_end whole s ran.steps w a (subst IsOver (sym ran.ended) tt) over ∙ ran.ended in
    let kept : take c.vars ran.slots' ≡ f.frame.vars = ap (λ n. take n ran.slots') vars ∙ ran.vars in
    let frame_is : record held { state = f.frame.state; vars = f.frame.vars } ≡ f.frame =
    ap (λ h. record held { state = f.frame.state; vars = f.frame.vars; held = h }) (sym keeps.0)
    ∙ ap (λ h. record held { state = f.frame.state; vars = f.frame.vars; held = f.frame.held; halt = h })
    (sym keeps.1) in
    ap (what_is_left c held) same
    ∙ ap (λ vs. Leaves (record { frame = record held { state = f.frame.state; vars = vs }; outs = f.outs })) kept
    ∙ ap (λ fr. Leaves (record { frame = fr; outs = f.outs })) frame_is
left_by b whole c held s a w (Err trap) vars outs halt over ran keeps =
    let same = same_end whole s ran.0 w a (subst IsOver (sym ran.1) tt) over ∙ ran.1 in
    ap (what_is_left c held) same ∙ ap
    (λ n. Leaves (record { frame = record held { halt = Some trap }; outs = replicate n Absent })) outs

-- the step from an entry
runs_from : (b : BehaviourParts) (c : CodeParts) (held : Frame) (inputs : List Value) → IsBehaviour b → IsVerified c
    → c.instrs ≡ blocks_code b (in_list (block_starts b)) (block_order b) 0
    → c.entries ≡ map (entry_of b (in_list (block_starts b))) (states_of b)
    → c.vars ≡ length b.vars → c.loops ≡ depth_edges b.transitions → c.outs ≡ length b.outs
    → held.state < length b.states → is_complete b held.state ≡ true → held.halt ≡ None
    → length held.vars ≡ length b.vars → length held.held ≡ length b.ins → length inputs ≡ length b.ins
    → what_is_left c held (from_entry c held inputs (slice_get c.entries held.state))
    ≡ Leaves (outcome b held (reaction b (map is_present inputs) held))
runs_from b c held inputs rules verified instrs entries vars loops outs within complete halt size ins inputs_size =
    let starts = in_list (block_starts b) in
    let state = held.state in
    let n = length b.states in
    let d = dispatch_of b state rules within complete in
    let e = d.edge in
    let place = starts state + dispatch_offset (leaving b state) in
    let fresh = map is_present inputs in
    let s = step_inputs held.held inputs in
    let slots = held.vars ++ replicate (depth_edges b.transitions) (pos 0) in
    let entry : slice_get c.entries state ≡ Some (Some place) =
    ap (λ xs. slice_get xs state) entries ∙ slice_get-map_upwards (entry_of b starts) n state within
    ∙ ap (λ x. Some (if x then Some place else None)) complete in
    let over = run_over c held inputs place verified (member_at c.entries state (Some place) entry) in
    let sound = all_member (is_edge b) (leaving b state) e (leaving_sound b state rules) d.among in
    let settle = settled_unless_cycle b e.target rules.acyclic in
    let fits = begin_fits b held inputs size ins inputs_size in
    let room = edge_depth (leaving b state) e d.among in
    let less = kept_depth (λ e. nat_eq e.source state) b.transitions in
    let is_good = good b n e sound settle (omega arith) in
    let blocks = blocks_run c.instrs s (sizes b) b starts fresh refl
    (λ m t going settle' inside.
    let on = onward_of b t rules inside going in (
      subst (λ x. HasAt c.instrs (starts t) (block_code b starts x (leaving b t) (starts t))) going
          (whole_block c.instrs b t rules instrs inside),
      goods b m (leaving b t) (leaving_sound b t rules) (settled_on b m t going settle') on.none
          (kept_depth (λ e. nat_eq e.source t) b.transitions),
      on.unguarded,
    )) n in
    let has =
    dispatch_at c.instrs b starts (is_complete b state) (leaving b state) e (starts state)
    (whole_block c.instrs b state rules instrs within) d.found in
    let ran = taken c.instrs s (sizes b) b starts fresh refl n place e slots (silence b) held blocks is_good fits has in
    let meant : reaction b fresh held ≡ on_value (along (Some e) fresh (record { frame = held; outs = silence b }))
    (λ next. settled n b fresh next) =
    ap (λ o. on_value (along o fresh (record { frame = held; outs = silence b }))
    (λ next. settled n b fresh next)) d.found in
    let finishes = subst (Finishes c.instrs s (length b.vars) (at place [] slots (silence b))) (sym meant) ran in
    let keeps =
    then_keeps held (along (dispatched b state) fresh (record { frame = held; outs = silence b }))
    (λ next. settled n b fresh next)
    (along_keeps held (dispatched b state) fresh (record { frame = held; outs = silence b }) (refl, refl))
    (λ f k. settled_keeps held n b fresh f k) in
    let started : run_from c held inputs place ≡ runs c.instrs s (weight_of c) (at place [] slots (silence b)) =
    ap (λ k. run c.instrs s (weight_of c) place [] (held.vars ++ replicate k (pos 0)) (silent c)) loops
    ∙ ap (λ k. run c.instrs s (weight_of c) place [] slots (replicate k Absent)) outs in
    ap (λ o. what_is_left c held (from_entry c held inputs o)) entry ∙ ap (what_is_left c held) started
    ∙ left_by b c.instrs c held s (at place [] slots (silence b)) (weight_of c) (reaction b fresh held) vars outs halt
    (subst IsOver started over) finishes keeps
  where
    edge_depth : (es : List Edge) (e : Edge) → Member es e → depth_acts e.actions ≤ depth_edges es
    edge_depth [] e among = absurd among
    edge_depth (f ∷ es) e among =
        ⊎_elim (λ (is : f ≡ e). let same = ap (λ (x : Edge). depth_acts x.actions) is in omega arith)
        (λ later. let le = edge_depth es e later in omega arith) among

-- ---- the whole step
begun : (b : BehaviourParts) (s : ℕ) (o : Option StateDecl) → slice_get b.states s ≡ o → IsTrue (may_begin o)
    → (s < length b.states) × (is_complete b s ≡ true)
begun b s None is begins = cc
begun b s (Some d) is begins = (slice_get_within b.states s d is, ap completes is ∙ begins)

halted_or : (b : BehaviourParts) (c : CodeParts) (held : Frame) (halt : Option Trap) (ran : CodeOutcome)
    (r : Result Fired Trap) → c.outs ≡ length b.outs
    → (halt ≡ None → what_is_left c held ran ≡ Leaves (outcome b held r))
    → unless_halted c held halt ran ≡ Leaves (base.unless_halted b held halt r)
halted_or b c held None ran r outs going = going refl
halted_or b c held (Some trap) ran r outs going =
    ap (λ n. Leaves (record { frame = held; outs = replicate n Absent })) outs

steps_same : (b : BehaviourParts) (c : CodeParts) (frame : Frame) (inputs : List Value) → IsBehaviour b → IsVerified c
    → c.instrs ≡ blocks_code b (in_list (block_starts b)) (block_order b) 0
    → c.entries ≡ map (entry_of b (in_list (block_starts b))) (states_of b)
    → c.vars ≡ length b.vars → c.loops ≡ depth_edges b.transitions → c.outs ≡ length b.outs → HasShape b frame
    → length inputs ≡ length b.ins
    → exec c frame inputs ≡ Leaves (fire b frame inputs)
unfolding fire
steps_same b c frame inputs rules verified instrs entries vars loops outs shape size =
    let held : Frame = record frame { held = holding frame.held inputs } in
    let at = begun b frame.state (slice_get b.states frame.state) refl shape.state in
    halted_or b c held frame.halt (from_entry c held inputs (slice_get c.entries frame.state))
    (reaction b (map is_present inputs) held) outs
    (λ halt. runs_from b c held inputs rules verified instrs entries vars loops outs at.0 at.1 halt shape.vars
    (length-holding frame.held inputs ∙ shape.held) size)

entry_by : (b : BehaviourParts) (c : CodeParts) (s : ℕ) (d : StateDecl)
    → c.entries ≡ map (entry_of b (in_list (block_starts b))) (states_of b) → slice_get b.states s ≡ Some d
    → has_entry (slice_get c.entries s) ≡ d.complete
entry_by b c s d entries is =
    let starts = in_list (block_starts b) in
    ap (λ xs. has_entry (slice_get xs s)) entries
    ∙ ap has_entry (slice_get-map_upwards (entry_of b starts) (length b.states) s (slice_get_within b.states s d is))
    ∙ by d.complete (ap completes is)
  where
    by : (t : Bool) → is_complete b s ≡ t → has_entry (Some (entry_of b (in_list (block_starts b)) s)) ≡ t
    by true at =
        ap (λ x. has_entry (Some
        (if x then Some (in_list (block_starts b) s + dispatch_offset (leaving b s)) else None))) at
    by false at =
        ap (λ x. has_entry (Some
        (if x then Some (in_list (block_starts b) s + dispatch_offset (leaving b s)) else None))) at

pub compiled_means : (b : BehaviourParts) → IsBehaviour b → IsVerified (compiled b) → Means (compiled b) b
unfolding compiled
compiled_means b rules verified = record {
  vars = refl;
  ins = refl;
  outs = refl;
  states = length-map (states_of b) (entry_of b (in_list (block_starts b))) ∙ length-upwards 0 (length b.states);
  entries = λ s d is. entry_by b (compiled b) s d refl is;
  steps =
      λ frame inputs shape size.
      steps_same b (compiled b) frame inputs rules verified refl refl refl refl refl shape size;
}

pub compiled_length : (b : BehaviourParts) → IsBehaviour b → length (compiled b).instrs ≡ code_length b
unfolding compiled
compiled_length b rules = blocks-length b (in_list (block_starts b)) (block_order b) 0 ∙ order_sum b rules
