-- The code of transitions and states steps as the behaviour does.
use Rattle.std.proofs.Common.{◌≡◌, ◌∙◌, ℕ, zero, suc, ◌+◌, ◌<◌, ℤ, pos, Bool, true, false, if◌then◌else◌, List, [], ◌∷◌}
use Rattle.std.proofs.Common.{◌++◌, length, take, Option, Some, refl, sym, ap, subst, arith}
use Rattle.std.specs.Prelude.{slice_get, slice_index_or, fold, Result, Ok, Err}
use Rattle.std.proofs.lemmas.Bool.{true≢false, false≢true}
use Rattle.pals_base.specs.declared.basic_types.Trap.{Trap}
use Rattle.pals_base.specs.declared.frames.Frame.{Frame}
use Rattle.pals_base.specs.declared.basic_types.PortValue.{PortValue as Value}
use Rattle.pals_base.specs.declared.behaviour.BehaviourParts.{BehaviourParts}
use Rattle.pals_base.specs.ExpressionValues.{is_true, on_value, eval}
use Rattle.pals_base.specs.Actions.{Effect, acts}
use Rattle.pals_base.specs.ExpressionAndActionTrees.{Edge, Trigger, Dispatch, Always, When}
use Rattle.pals_base.specs.SingleStep.{Fired, is_complete, leaving, is_dispatch, opens, first_open, along, settled}
use Rattle.pals_base.specs.BehaviourRules.{is_always}
use Rattle.pals_base.specs.proof.CycleSearchMarks.{settles}
use Rattle.step_code.specs.declared.instr.Instr.{Instr}
use Rattle.step_code.specs.declared.instr.Instr.TheVariants as code
use Rattle.step_code.specs.InstructionEffects.{StepInputs, step}
use Rattle.step_code.specs.proof.CodeRuns.{Ended, then_run, run}
use Rattle.step_code.specs.CodeLengths.{length_of, length_acts, length_trigger, length_edge}
use Rattle.step_compiler.specs.ExpressionAndActionInstructions.{code_of, code_acts}
use Rattle.step_compiler.proofs.PlacedCodeLengths.{HasAt, has_front, has_back, code-length, acts-length, trigger-length}
use Rattle.step_compiler.proofs.PlacedCodeLengths.{edge-length}
use Rattle.step_compiler.proofs.BehaviourAccessBounds.{Sizes, SeesTrigger, IsGood, AreGood}
use Rattle.step_compiler.specs.BlockInstructions.{trigger_code, last_instr, edge_code, block_code}
use Rattle.step_compiler.proofs.ExpressionRuns.{At, at, runs, Leads, Traps', Gives, leads_on, leads_trap, goes, jumps}
use Rattle.step_compiler.proofs.ExpressionRuns.{passes}
use Rattle.step_compiler.proofs.ActionAndLoopEffects.{Fits, Comes}
use Rattle.step_compiler.proofs.ActionRuns.{value_runs, acts_run}

-- the variables, out of the slots
take_shows : (n : ℕ) (slots vars : List ℤ) → length vars ≡ n
    → ((x : ℕ) → x < n → slice_get slots x ≡ Some (slice_index_or vars x (pos 0))) → take n slots ≡ vars
take_shows zero slots [] size shows = refl
take_shows zero slots (v ∷ vars) size shows = absurd (omega arith)
take_shows (suc n) slots [] size shows = absurd (omega arith)
take_shows (suc n) [] (v ∷ vars) size shows = let no' = shows 0 (omega arith) in cc
take_shows (suc n) (u ∷ slots) (v ∷ vars) size shows =
    let same : Some u ≡ Some v = shows 0 (omega arith) in
    let first : u ≡ v = cc in
    ap (λ x. x ∷ take n slots) first
    ∙ ap (λ xs. v ∷ xs) (take_shows n slots vars (omega arith) (λ x lt. shows (suc x) (omega arith)))

-- the run from a ends in this state with these variables and outputs
pub record Ran (whole : List Instr) (s : StepInputs) (n : ℕ) (a : At) (f : Fired) : Type 0 where
  pub steps : ℕ
  pub slots' : List ℤ
  pub ended : runs whole s steps a ≡ Ended f.frame.state slots' f.outs
  pub vars : take n slots' ≡ f.frame.vars

abbrev pub Finishes : List Instr → StepInputs → ℕ → At → Result Fired Trap → Type 0
Finishes whole s n a (Ok f) = Ran whole s n a f
Finishes whole s n a (Err trap) = Traps' whole s a trap

module _ (whole : List Instr) (s : StepInputs) (z : Sizes) (b : BehaviourParts) (starts : ℕ → ℕ) (fresh : List Bool)
    (vars : length b.vars ≡ z.declared) where
  finish_after : (a c : At) (r : Result Fired Trap) → Leads whole s a c → Finishes whole s z.declared c r
      → Finishes whole s z.declared a r
  finish_after a c (Ok f) l r = let x = l.by r.steps in
      record { steps = x.0; slots' = r.slots'; ended = x.1 ∙ r.ended; vars = r.vars }
  finish_after a c (Err trap) l r = leads_trap whole s a c trap l r

  abbrev standing : Frame → List Value → Fired
  standing frame outs = record { frame = frame; outs = outs }

  -- the block of each passing state does the rest of the step
  abbrev Blocks : ℕ → Type 0
  Blocks m =
      (slots : List ℤ) (outs : List Value) (frame : Frame) → Fits s z z.declared slots outs frame fresh
      → is_complete b frame.state ≡ false → settles m b frame.state ≡ true → frame.state < length b.states
      → Finishes whole s z.declared (at (starts frame.state) [] slots outs) (settled m b fresh (standing frame outs))

  settled-complete : (m : ℕ) (f : Fired) → is_complete b f.frame.state ≡ true → settled m b fresh f ≡ Ok f
  settled-complete zero f is = refl
  settled-complete (suc m) f is =
      ap (λ c. if c then Ok f else on_value (first_open (leaving b f.frame.state) f.frame fresh)
      (λ e. on_value (along e fresh f) (λ next. settled m b fresh next))) is

  -- the end of a transition
  moved : (m q : ℕ) (complete : Bool) (slots : List ℤ) (outs : List Value) (frame : Frame)
      → is_complete b frame.state ≡ complete → Blocks m → Fits s z z.declared slots outs frame fresh
      → settles m b frame.state ≡ true → frame.state < length b.states
      → slice_get whole q ≡ Some (if complete then code.End frame.state else code.Jump (starts frame.state))
      → Finishes whole s z.declared (at q [] slots outs) (settled m b fresh (standing frame outs))
  moved m q true slots outs frame is blocks fits settle within here =
      let ran : Ran whole s z.declared (at q [] slots outs) (standing frame outs) = record {
        steps = suc 0;
        slots' = slots;
        ended = ap (λ o. then_run (step o s q [] slots outs) (run whole s 0)) here;
        vars =
            take_shows z.declared slots frame.vars fits.size
            (λ x lt. let size = fits.size in fits.shows.vars x (omega arith));
      } in
      subst (Finishes whole s z.declared (at q [] slots outs)) (sym (settled-complete m (standing frame outs) is)) ran
  moved m q false slots outs frame is blocks fits settle within here =
      finish_after (at q [] slots outs) (at (starts frame.state) [] slots outs)
      (settled m b fresh (standing frame outs))
      (goes whole s (at q [] slots outs) (at (starts frame.state) [] slots outs) (code.Jump (starts frame.state)) here
      refl) (blocks slots outs frame fits is settle within)

  acted : (m p q : ℕ) (e : Edge) (slots : List ℤ) (outs : List Value) (frame : Frame) (r : Result Effect Trap)
      → Blocks m → IsGood b z m e → Fits s z z.declared slots outs frame fresh
      → slice_get whole q ≡ Some (last_instr b starts e.target)
      → Comes whole s (at p [] slots outs) q [] z z.declared frame.vars r
      → Finishes whole s z.declared (at p [] slots outs)
      (on_value (on_value r (λ done.
      Ok (record { frame = record frame { state = e.target; vars = done.vars }; outs = done.outs })))
      (λ next. settled m b fresh next))
  acted m p q e slots outs frame (Err trap) blocks good fits here c = c
  acted m p q e slots outs frame (Ok done) blocks good fits here c =
      let next : Frame = record frame { state = e.target; vars = done.vars } in
      let fits' : Fits s z z.declared c.slots' done.outs next fresh = record {
        shows =
            record {
              vars = λ x lt. let size = c.size in
                  c.shows x (omega arith);
              held = fits.shows.held;
              fresh' = fits.shows.fresh';
            };
        size = c.size;
        held = fits.held;
        total = c.total;
        ports = c.ports;
        above = fits.above;
      } in
      finish_after (at p [] slots outs) (at q [] c.slots' done.outs)
      (settled m b fresh (standing next done.outs)) c.leads
      (moved m q (is_complete b e.target) c.slots' done.outs next refl blocks fits' good.settles' good.target here)

  -- a transition that is taken, after its guard
  pub taken : (m p : ℕ) (e : Edge) (slots : List ℤ) (outs : List Value) (frame : Frame) → Blocks m → IsGood b z m e
      → Fits s z z.declared slots outs frame fresh
      → HasAt whole p (code_acts e.actions (length b.vars) p ++ last_instr b starts e.target ∷ [])
      → Finishes whole s z.declared (at p [] slots outs)
      (on_value (along (Some e) fresh (standing frame outs)) (λ next. settled m b fresh next))
  taken m p e slots outs frame blocks good fits has =
      let n = length b.vars in
      let q = p + length_acts e.actions in
      let i = last_instr b starts e.target in
      let c = code_acts e.actions n p in
      let here = (has_back whole p (length_acts e.actions) q c (i ∷ []) (acts-length e.actions n p) refl has).0 in
      let has' : HasAt whole p (code_acts e.actions z.declared p) =
      subst (λ k. HasAt whole p (code_acts e.actions k p)) vars (has_front whole p c (i ∷ []) has) in
      acted m p q e slots outs frame (acts e.actions frame fresh outs) blocks good fits here
      (acts_run whole s z e.actions z.declared p [] slots outs frame fresh fits good.actions has')

  -- the code after the first open transition
  abbrev onwards : ℕ → Frame → List Value → Option Edge → Result Fired Trap
  onwards m frame outs e = on_value (along e fresh (standing frame outs)) (λ next. settled m b fresh next)

  choose : (m p q to : ℕ) (e : Edge) (slots : List ℤ) (outs : List Value) (frame : Frame)
      (rest : Result (Option Edge) Trap) (v : ℤ) (t : Bool) → is_true v ≡ t
      → slice_get whole q ≡ Some (code.JumpZero to)
      → Leads whole s (at p [] slots outs) (at q (v ∷ []) slots outs)
      → Finishes whole s z.declared (at (q + 1) [] slots outs) (onwards m frame outs (Some e))
      → Finishes whole s z.declared (at to [] slots outs) (on_value rest (onwards m frame outs))
      → Finishes whole s z.declared (at p [] slots outs)
      (on_value (if t then Ok (Some e) else rest) (onwards m frame outs))
  choose m p q to e slots outs frame rest v true is here l open-one later =
      finish_after (at p [] slots outs) (at (q + 1) [] slots outs) (onwards m frame outs (Some e))
      (leads_on whole s (at p [] slots outs) (at q (v ∷ []) slots outs) (at (q + 1) [] slots outs) l
      (passes whole s q to v [] slots outs here is)) open-one
  choose m p q to e slots outs frame rest v false is here l open-one later =
      finish_after (at p [] slots outs) (at to [] slots outs) (on_value rest (onwards m frame outs))
      (leads_on whole s (at p [] slots outs) (at q (v ∷ []) slots outs) (at to [] slots outs) l
      (jumps whole s q to v [] slots outs here is)) later

  by_value : (m p q to : ℕ) (e : Edge) (slots : List ℤ) (outs : List Value) (frame : Frame)
      (rest : Result (Option Edge) Trap) (r : Result ℤ Trap) → slice_get whole q ≡ Some (code.JumpZero to)
      → Gives whole s (at p [] slots outs) q [] r
      → Finishes whole s z.declared (at (q + 1) [] slots outs) (onwards m frame outs (Some e))
      → Finishes whole s z.declared (at to [] slots outs) (on_value rest (onwards m frame outs))
      → Finishes whole s z.declared (at p [] slots outs)
      (on_value (on_value (on_value r (λ v. Ok (is_true v))) (λ t. if t then Ok (Some e) else rest))
      (onwards m frame outs))
  by_value m p q to e slots outs frame rest (Ok v) here g open-one later =
      choose m p q to e slots outs frame rest v (is_true v) refl here g open-one later
  by_value m p q to e slots outs frame rest (Err trap) here g open-one later = g

  edge_runs : (t : Trigger) (m p : ℕ) (e : Edge) (slots : List ℤ) (outs : List Value) (frame : Frame)
      (rest : Result (Option Edge) Trap) → e.trigger ≡ t → is_dispatch t ≡ false → Blocks m → IsGood b z m e
      → SeesTrigger z t → Fits s z z.declared slots outs frame fresh
      → HasAt whole p (trigger_code t (p + length_edge e) p
      ++ (code_acts e.actions (length b.vars) (p + length_trigger t) ++ last_instr b starts e.target ∷ []))
      → (is_always t ≡ false → Finishes whole s z.declared (at (p + length_edge e) [] slots outs)
      (on_value rest (onwards m frame outs)))
      → Finishes whole s z.declared (at p [] slots outs)
      (on_value (on_value (opens t frame fresh) (λ o. if o then Ok (Some e) else rest)) (onwards m frame outs))
  edge_runs Dispatch m p e slots outs frame rest is not_dispatch blocks good sees fits has later =
      absurd (true≢false not_dispatch)
  edge_runs Always m p e slots outs frame rest is not_dispatch blocks good sees fits has later =
      let place : p + 0 ≡ p = omega arith in
      taken m p e slots outs frame blocks good fits
      (subst (λ k. HasAt whole p
      (code_acts e.actions (length b.vars) k ++ last_instr b starts e.target ∷ [])) place has)
  edge_runs (When g) m p e slots outs frame rest is not_dispatch blocks good sees fits has later =
      let to = p + length_edge e in
      let q = p + length_of g in
      let tail = code_acts e.actions (length b.vars) (p + (length_of g + 1)) ++ last_instr b starts e.target ∷ [] in
      let front = has_front whole p (code_of g p ++ code.JumpZero to ∷ []) tail has in
      let here =
      (has_back whole p (length_of g) q (code_of g p) (code.JumpZero to ∷ []) (code-length g p) refl front).0 in
      let place : p + (length_of g + 1) ≡ q + 1 = omega arith in
      let back =
      has_back whole p (length_of g + 1) (q + 1) (code_of g p ++ code.JumpZero to ∷ []) tail
      (trigger-length (When g) to p) (omega arith) has in
      by_value m p q to e slots outs frame rest (eval g frame fresh) here
      (value_runs whole s z g z.declared p [] slots outs frame fresh fits sees
      (has_front whole p (code_of g p) _ front))
      (taken m (q + 1) e slots outs frame blocks good fits
      (subst (λ k. HasAt whole (q + 1) (code_acts e.actions (length b.vars) k ++ last_instr b starts e.target ∷ []))
      place back)) (later refl)

  pub edges_run : (es : List Edge) (m p : ℕ) (slots : List ℤ) (outs : List Value) (frame : Frame) → Blocks m
      → AreGood b z m es → Fits s z z.declared slots outs frame fresh → HasAt whole p (block_code b starts false es p)
      → fold (λ before e. is_always e.trigger) false es ≡ true
      → Finishes whole s z.declared (at p [] slots outs)
      (on_value (first_open es frame fresh) (onwards m frame outs))
  edges_run [] m p slots outs frame blocks good fits has unguarded = absurd (false≢true unguarded)
  edges_run (e ∷ es) m p slots outs frame blocks good fits has unguarded =
      let c = edge_code b starts false e p in
      let next = p + length_edge e in
      let there =
      has_back whole p (length_edge e) next c (block_code b starts false es next)
      (edge-length b starts false e p) refl has in
      edge_runs e.trigger m p e slots outs frame (first_open es frame fresh) refl good.1 blocks good.0 good.0.trigger
      fits (has_front whole p c _ has)
      (λ guard. edges_run es m next slots outs frame blocks good.2 fits there
      (subst (λ x. fold (λ before e. is_always e.trigger) x es ≡ true) guard unguarded))

  -- all blocks, by how many transitions a step may still take
  pub blocks_run : ((m : ℕ) (state : ℕ) → is_complete b state ≡ false → settles (suc m) b state ≡ true
      → state < length b.states
      → HasAt whole (starts state) (block_code b starts false (leaving b state) (starts state))
      × AreGood b z m (leaving b state) × (fold (λ before e. is_always e.trigger) false (leaving b state) ≡ true))
      → (m : ℕ) → Blocks m
  blocks_run has zero slots outs frame fits going settle within = absurd (true≢false (sym settle ∙ going))
  blocks_run has (suc m) slots outs frame fits going settle within =
      let h = has m frame.state going settle within in
      let ran =
      edges_run (leaving b frame.state) m (starts frame.state) slots outs frame (blocks_run has m) h.1
      fits h.0 h.2 in
      let f = standing frame outs in
      subst (Finishes whole s z.declared (at (starts frame.state) [] slots outs))
      (sym (ap (λ c. if c then Ok f else on_value (first_open (leaving b f.frame.state) f.frame fresh)
      (λ e. on_value (along e fresh f) (λ next. settled m b fresh next))) going)) ran
