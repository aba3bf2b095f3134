-- What a list of actions and the turns of a loop leave in slots and out ports, for the runs of compiled actions.
use Rattle.std.proofs.Common.{◌≡◌, ◌∙◌, ℕ, zero, suc, ◌+◌, ◌<◌, ◌≤◌, ℤ, pos, ◌+ℤ◌, Bool, true, false, if◌then◌else◌}
use Rattle.std.proofs.Common.{List, [], ◌∷◌, ◌++◌, length, take, Some, refl, sym, ap, subst, ⊎_elim, arith}
use Rattle.std.proofs.Common.{length-append}
use Rattle.std.specs.Prelude.{slice_get, slice_set, slice_index_or, int_lt, Result, Ok, Err}
use Rattle.std.proofs.lemmas.Int.{ints}
use Rattle.std.proofs.lemmas.Bool.{cases_lt}
use Rattle.std.proofs.lemmas.List.{get_or-take, get_or_append_left, get_or-set_other, length-set, length-take-le}
use Rattle.std.proofs.Math.Seq.{get_or-append_seam}
use Rattle.std.proofs.lemmas.Option.{slice_get-get_or}
use Rattle.pals_base.specs.declared.basic_types.Trap.{Trap}
use Rattle.pals_base.specs.declared.frames.Frame.{Frame}
use Rattle.pals_base.specs.declared.basic_types.PortValue.{PortValue as Value}
use Rattle.pals_base.specs.declared.basic_types.PortValue.TheVariants.{Present}
use Rattle.pals_base.specs.ExpressionValues.{on_value}
use Rattle.pals_base.specs.Actions.{Effect, for_each, with_vars, without_loop, acts}
use Rattle.pals_base.specs.ForRanges.{counted_from}
use Rattle.pals_base.specs.ExpressionAndActionTrees.{Actions}
use Rattle.step_code.specs.declared.instr.Instr.{Instr}
use Rattle.step_code.specs.declared.instr.Instr.TheVariants as code
use Rattle.step_code.specs.InstructionEffects.{Goes, StepInputs, on_found, step}
use Rattle.step_code.specs.CodeLengths.{length_acts}
use Rattle.step_compiler.proofs.BehaviourAccessBounds.{Sizes}
use Rattle.step_code.proofs.ListMembers.{get_set_other, get_set_same}
use Rattle.step_compiler.proofs.ExpressionRuns.{At, at, Leads, Traps', Gives, Shows, leads_on, leads_trap, goes}

-- ---- slots and variables
pub set_shows : (slots vars : List ℤ) (x : ℕ) (v : ℤ)
    → ((y : ℕ) → y < length vars → slice_get slots y ≡ Some (slice_index_or vars y (pos 0)))
    → (y : ℕ) → y < length vars
    → slice_get (slice_set slots x v) y ≡ Some (slice_index_or (slice_set vars x v) y (pos 0))
set_shows slots [] x v shows y within = absurd (omega arith)
set_shows [] (w ∷ ws) x v shows y within = let no = shows 0 (omega arith) in cc
set_shows (u ∷ us) (w ∷ ws) zero v shows zero within = refl
set_shows (u ∷ us) (w ∷ ws) zero v shows (suc y) within = shows (suc y) within
set_shows (u ∷ us) (w ∷ ws) (suc x) v shows zero within = shows 0 within
set_shows (u ∷ us) (w ∷ ws) (suc x) v shows (suc y) within =
    set_shows us ws x v (λ k h. shows (suc k) (omega arith)) y (omega arith)

past : (xs : List ℤ) (x : ℕ) → length xs ≤ x → slice_index_or xs x (pos 0) ≡ pos 0
past [] x far = refl
past (y ∷ ys) zero far = absurd (omega arith)
past (y ∷ ys) (suc x) far = past ys x (omega arith)

pub record Fits (s : StepInputs) (z : Sizes) (n : ℕ) (slots : List ℤ) (outs : List Value) (frame : Frame)
    (fresh : List Bool) : Type 0 where
  pub shows : Shows s slots frame fresh
  pub size : length frame.vars ≡ n
  pub held : length frame.held ≡ z.ins
  pub total : length slots ≡ z.slots
  pub ports : length outs ≡ z.outs
  pub above : z.declared ≤ n

-- the code comes from a to a place with this effect; the variables of the loops round it stay
pub record Arrives (whole : List Instr) (s : StepInputs) (a : At) (q : ℕ) (stack : List ℤ) (z : Sizes) (n : ℕ)
    (before : List ℤ) (e : Effect) : Type 0 where
  pub slots' : List ℤ
  pub leads : Leads whole s a (at q stack slots' e.outs)
  pub shows : (x : ℕ) → x < n → slice_get slots' x ≡ Some (slice_index_or e.vars x (pos 0))
  pub size : length e.vars ≡ n
  pub kept : (x : ℕ) → z.declared ≤ x → slice_index_or e.vars x (pos 0) ≡ slice_index_or before x (pos 0)
  pub total : length slots' ≡ z.slots
  pub ports : length e.outs ≡ z.outs

abbrev pub Comes : List Instr → StepInputs → At → ℕ → List ℤ → Sizes → ℕ → List ℤ → Result Effect Trap → Type 0
Comes whole s a q stack z n before (Ok e) = Arrives whole s a q stack z n before e
Comes whole s a q stack z n before (Err trap) = Traps' whole s a trap

module _ (whole : List Instr) (s : StepInputs) (z : Sizes) where
  pub come_after : (a b : At) (q n : ℕ) (stack before : List ℤ) (r : Result Effect Trap) → Leads whole s a b
      → Comes whole s b q stack z n before r → Comes whole s a q stack z n before r
  come_after a b q n stack before (Ok e) l c =
      record {
        slots' = c.slots';
        leads = leads_on whole s a b (at q stack c.slots' e.outs) l c.leads;
        shows = c.shows;
        size = c.size;
        kept = c.kept;
        total = c.total;
        ports = c.ports;
      }
  come_after a b q n stack before (Err trap) l c = leads_trap whole s a b trap l c

  rebased : (a : At) (q n : ℕ) (stack before middle : List ℤ) (r : Result Effect Trap)
      → ((x : ℕ) → z.declared ≤ x → slice_index_or middle x (pos 0) ≡ slice_index_or before x (pos 0))
      → Comes whole s a q stack z n middle r → Comes whole s a q stack z n before r
  rebased a q n stack before middle (Ok e) same c =
      record {
        slots' = c.slots';
        leads = c.leads;
        shows = c.shows;
        size = c.size;
        kept = λ x above. c.kept x above ∙ same x above;
        total = c.total;
        ports = c.ports;
      }
  rebased a q n stack before middle (Err trap) same c = c

  pub comes_at : (a : At) (p q n : ℕ) (stack before : List ℤ) (r : Result Effect Trap) → p ≡ q
      → Comes whole s a p stack z n before r → Comes whole s a q stack z n before r
  comes_at a p q n stack before r e c = subst (λ x. Comes whole s a x stack z n before r) e c

  pub then_comes : (a : At) (p q n : ℕ) (stack before : List ℤ) (r : Result Effect Trap)
      (go : Effect → Result Effect Trap)
      → Comes whole s a p stack z n before r
      → ((e : Effect) → (c : Arrives whole s a p stack z n before e)
      → Comes whole s (at p stack c.slots' e.outs) q stack z n e.vars (go e))
      → Comes whole s a q stack z n before (on_value r go)
  then_comes a p q n stack before (Ok e) go c h =
      come_after a (at p stack c.slots' e.outs) q n stack before (go e) c.leads
      (rebased (at p stack c.slots' e.outs) q n stack before e.vars (go e) c.kept (h e c))
  then_comes a p q n stack before (Err trap) go c h = c

  pub with_value : (a : At) (p q n : ℕ) (stack before : List ℤ) (r : Result ℤ Trap) (go : ℤ → Result Effect Trap)
      → Gives whole s a p stack r
      → ((v : ℤ) → Comes whole s (at p (v ∷ stack) a.slots a.outs) q stack z n before (go v))
      → Comes whole s a q stack z n before (on_value r go)
  with_value a p q n stack before (Ok v) go g h =
      come_after a (at p (v ∷ stack) a.slots a.outs) q n stack before (go v) g (h v)
  with_value a p q n stack before (Err trap) go g h = g

  pub next_fits : (a : At) (q n : ℕ) (stack slots : List ℤ) (outs : List Value) (frame : Frame) (fresh : List Bool)
      (before : List ℤ) (e : Effect) → Fits s z n slots outs frame fresh
      → (c : Arrives whole s a q stack z n before e) → Fits s z n c.slots' e.outs (with_vars frame e.vars) fresh
  next_fits a q n stack slots outs frame fresh before e f c = record {
    shows =
        record {
          vars = λ x within. c.shows x (subst (λ k. x < k) c.size within);
          held = f.shows.held;
          fresh' = f.shows.fresh';
        };
    size = c.size;
    held = f.held;
    total = c.total;
    ports = c.ports;
    above = f.above;
  }

  -- ---- assignments and sends
  pub assigned : (n p x : ℕ) (v : ℤ) (stack slots : List ℤ) (outs : List Value) (frame : Frame) (fresh : List Bool)
      → Fits s z n slots outs frame fresh → x < z.declared
      → slice_get whole p ≡ Some (code.Store x)
      → Comes whole s (at p (v ∷ stack) slots outs) (p + 1) stack z n frame.vars
      (Ok (record { vars = slice_set frame.vars x v; outs = outs }))
  assigned n p x v stack slots outs frame fresh f below here =
      let size = f.size in
      let above = f.above in
      let inside : x < length frame.vars = omega arith in
      record {
        slots' = slice_set slots x v;
        leads =
            goes whole s (at p (v ∷ stack) slots outs) (at (p + 1) stack (slice_set slots x v) outs) (code.Store x) here
            (ap (λ o. on_found o (λ before. Goes (p + 1) stack (slice_set slots x v) outs)) (f.shows.vars x inside));
        shows = λ y within. set_shows slots frame.vars x v f.shows.vars y (omega arith);
        size = length-set frame.vars x v ∙ f.size;
        kept = λ y far. get_or-set_other frame.vars x y v (pos 0) (λ e. absurd (omega arith));
        total = length-set slots x v ∙ f.total;
        ports = f.ports;
      }

  pub sent : (n p q : ℕ) (v : ℤ) (stack slots : List ℤ) (outs : List Value) (frame : Frame) (fresh : List Bool)
      → Fits s z n slots outs frame fresh → q < z.outs
      → slice_get whole p ≡ Some (code.Emit q)
      → Comes whole s (at p (v ∷ stack) slots outs) (p + 1) stack z n frame.vars
      (Ok (record { vars = frame.vars; outs = slice_set outs q (Present v) }))
  sent n p q v stack slots outs frame fresh f below here =
      let size = f.size in
      let ports = f.ports in
      let found = slice_get-get_or outs q (Present v) (omega arith) in
      record {
        slots' = slots;
        leads =
            goes whole s (at p (v ∷ stack) slots outs) (at (p + 1) stack slots (slice_set outs q (Present v)))
            (code.Emit q) here (ap (λ o.
            on_found o (λ before. Goes (p + 1) stack slots (slice_set outs q (Present v)))) found);
        shows = λ y within. f.shows.vars y (omega arith);
        size = f.size;
        kept = λ y far. refl;
        total = f.total;
        ports = length-set outs q (Present v) ∙ f.ports;
      }

  -- ---- loops
  -- the variable of a loop after the variables in scope
  shows_behind : (n : ℕ) (slots vars : List ℤ) (v : ℤ) → length vars ≡ n
      → ((x : ℕ) → x < n → slice_get slots x ≡ Some (slice_index_or vars x (pos 0))) → slice_get slots n ≡ Some v
      → (x : ℕ) → x < n + 1 → slice_get slots x ≡ Some (slice_index_or (vars ++ v ∷ []) x (pos 0))
  shows_behind n slots vars v size shows last x within =
      ⊎_elim
      (λ (lt : x < n). shows x lt ∙ ap Some (sym (get_or_append_left vars (v ∷ []) (pos 0) x (omega arith))))
      (λ (ge : n ≤ x).
      let is : length vars ≡ x = omega arith in
      let place : n ≡ x = omega arith in
      subst (λ k. slice_get slots k ≡ Some (slice_index_or (vars ++ v ∷ []) k (pos 0))) is
      (subst (λ k. slice_get slots k ≡ Some v) (sym size) last ∙ ap Some (sym (get_or-append_seam vars v [] (pos 0)))))
      (cases_lt x n)

  pub loop_fits : (n : ℕ) (slots vars : List ℤ) (outs : List Value) (v : ℤ) (frame : Frame) (fresh : List Bool)
      (slots0 : List ℤ) (outs0 : List Value) → Fits s z n slots0 outs0 frame fresh → length vars ≡ n
      → ((x : ℕ) → x < n → slice_get slots x ≡ Some (slice_index_or vars x (pos 0))) → slice_get slots n ≡ Some v
      → length slots ≡ z.slots → length outs ≡ z.outs
      → Fits s z (n + 1) slots outs (with_vars frame (vars ++ v ∷ [])) fresh
  loop_fits n slots vars outs v frame fresh slots0 outs0 f size shows last total ports =
      let long : length (vars ++ v ∷ []) ≡ n + 1 = omega (arith, length-append vars (v ∷ [])) in
      let above = f.above in
      record {
        shows =
            record {
              vars = λ x within. shows_behind n slots vars v size shows last x (omega arith);
              held = f.shows.held;
              fresh' = f.shows.fresh';
            };
        size = long;
        held = f.held;
        total = total;
        ports = ports;
        above = omega arith;
      }

  -- what one turn does
  abbrev pub turn : Actions → Frame → List Bool → ℤ → Effect → Result Effect Trap
  turn body frame fresh v e =
      without_loop (length frame.vars) (acts body (with_vars frame (e.vars ++ v ∷ [])) fresh e.outs)

  abbrev pub Bodies : Actions → ℕ → ℕ → List ℤ → Frame → List Bool → Type 0
  Bodies body n p stack frame fresh =
      (v : ℤ) (slots vars : List ℤ) (outs : List Value)
      → Fits s z (n + 1) slots outs (with_vars frame (vars ++ v ∷ [])) fresh
      → Comes whole s (at p stack slots outs) (p + length_acts body) stack z (n + 1) (vars ++ v ∷ [])
      (acts body (with_vars frame (vars ++ v ∷ [])) fresh outs)

  -- after a body: the number in the slot is still the turn's
  still_there : (a : At) (q n : ℕ) (stack vars : List ℤ) (v : ℤ) (e : Effect) → length vars ≡ n → z.declared ≤ n
      → (c : Arrives whole s a q stack z (n + 1) (vars ++ v ∷ []) e) → slice_get c.slots' n ≡ Some v
  still_there a q n stack vars v e size above c =
      c.shows n (omega arith) ∙ ap Some
      (c.kept n above ∙ ap (λ k. slice_index_or (vars ++ v ∷ []) k (pos 0)) (sym size)
      ∙ get_or-append_seam vars v [] (pos 0))

  -- the effect of a turn, once the loop's variable is dropped
  dropped : (a : At) (q r n : ℕ) (stack vars : List ℤ) (v : ℤ) (e : Effect) (frame : Frame) (slots'' : List ℤ)
      → length frame.vars ≡ n → length vars ≡ n → z.declared ≤ n
      → (c : Arrives whole s a q stack z (n + 1) (vars ++ v ∷ []) e) → Leads whole s a (at r stack slots'' e.outs)
      → ((x : ℕ) → x < n → slice_get slots'' x ≡ slice_get c.slots' x) → length slots'' ≡ z.slots
      → Arrives whole s a r stack z n vars (record { vars = take (length frame.vars) e.vars; outs = e.outs })
  dropped a q r n stack vars v e frame slots'' framed size above c leads same total =
      let long = c.size in
      let cut : length (take (length frame.vars) e.vars) ≡ length frame.vars =
      length-take-le (length frame.vars) e.vars (omega arith) in
      record {
        slots' = slots'';
        leads = leads;
        shows =
            λ x within. same x within ∙ c.shows x (omega arith)
            ∙ ap Some (sym (get_or-take (length frame.vars) e.vars x (pos 0) (omega arith)));
        size = cut ∙ framed;
        kept = λ x far.
            ⊎_elim
            (λ (lt : x < n). get_or-take (length frame.vars) e.vars x (pos 0) (omega arith) ∙ c.kept x far
            ∙ get_or_append_left vars (v ∷ []) (pos 0) x (omega arith))
            (λ (ge : n ≤ x). past (take (length frame.vars) e.vars) x (omega arith) ∙ sym (past vars x (omega arith)))
            (cases_lt x n);
        total = total;
        ports = c.ports;
      }

  turn_on : (body : Actions) (ns : List ℤ) (n p : ℕ) (high v : ℤ) (stack vars slots : List ℤ) (outs : List Value)
      (frame : Frame) (fresh : List Bool) (slots0 : List ℤ) (outs0 : List Value) → Fits s z n slots0 outs0 frame fresh
      → slice_get whole (p + length_acts body) ≡ Some (code.LoopNext n high p) → length vars ≡ n
      → (r : Result Effect Trap)
      → Comes whole s (at p stack slots outs) (p + length_acts body) stack z (n + 1) (vars ++ v ∷ []) r
      → (int_lt v high ≡ false → ns ≡ [])
      → (int_lt v high ≡ true → (slots2 vars2 : List ℤ) (outs2 : List Value) → length vars2 ≡ n
      → Fits s z (n + 1) slots2 outs2 (with_vars frame (vars2 ++ (v +ℤ pos 1) ∷ [])) fresh
      → Comes whole s (at p stack slots2 outs2) (p + length_acts body + 1) stack z n vars2
      (for_each ns (turn body frame fresh) (record { vars = vars2; outs = outs2 })))
      → (b : Bool) → int_lt v high ≡ b
      → Comes whole s (at p stack slots outs) (p + length_acts body + 1) stack z n vars
      (on_value (without_loop (length frame.vars) r) (λ e. for_each ns (turn body frame fresh) e))
  unfolding dropped
  turn_on body ns n p high v stack vars slots outs frame fresh slots0 outs0 f here size (Err trap) c done again b is = c
  turn_on body ns n p high v stack vars slots outs frame fresh slots0 outs0 f here size (Ok e) c done again false is =
      let q = p + length_acts body in
      let a = at p stack slots outs in
      let mid = at q stack c.slots' e.outs in
      let found = still_there a q n stack vars v e size f.above c in
      let go : step (Some (code.LoopNext n high p)) s q stack c.slots' e.outs ≡ Goes (q + 1) stack c.slots' e.outs =
      ap (λ o. on_found o (λ w.
      if int_lt w high then Goes p stack (slice_set c.slots' n (w +ℤ pos 1)) e.outs else Goes (q + 1) stack c.slots'
      e.outs)) found
      ∙ ap (λ b. if b then Goes p stack (slice_set c.slots' n (v +ℤ pos 1)) e.outs else Goes (q + 1) stack c.slots'
      e.outs) is in
      let leads =
      leads_on whole s a mid (at (q + 1) stack c.slots' e.outs) c.leads
      (goes whole s mid (at (q + 1) stack c.slots' e.outs) (code.LoopNext n high p) here go) in
      let left : Effect = record { vars = take (length frame.vars) e.vars; outs = e.outs } in
      let arrived =
      dropped a q (q + 1) n stack vars v e frame c.slots' f.size size f.above c leads (λ x within. refl) c.total in
      subst (λ ns. Comes whole s a (q + 1) stack z n vars (for_each ns (turn body frame fresh) left))
      (sym (done is)) arrived
  turn_on body ns n p high v stack vars slots outs frame fresh slots0 outs0 f here size (Ok e) c done again true is =
      let q = p + length_acts body in
      let a = at p stack slots outs in
      let mid = at q stack c.slots' e.outs in
      let found = still_there a q n stack vars v e size f.above c in
      let slots2 = slice_set c.slots' n (v +ℤ pos 1) in
      let go : step (Some (code.LoopNext n high p)) s q stack c.slots' e.outs ≡ Goes p stack slots2 e.outs =
      ap (λ o. on_found o (λ w.
      if int_lt w high then Goes p stack (slice_set c.slots' n (w +ℤ pos 1)) e.outs else Goes (q + 1) stack c.slots'
      e.outs)) found
      ∙ ap (λ b. if b then Goes p stack slots2 e.outs else Goes (q + 1) stack c.slots' e.outs) is in
      let leads =
      leads_on whole s a mid (at p stack slots2 e.outs) c.leads
      (goes whole s mid (at p stack slots2 e.outs) (code.LoopNext n high p) here go) in
      let left : Effect = record { vars = take (length frame.vars) e.vars; outs = e.outs } in
      let total : length slots2 ≡ z.slots = length-set c.slots' n (v +ℤ pos 1) ∙ c.total in
      let arrived =
      dropped a q p n stack vars v e frame slots2 f.size size f.above c leads
      (λ x within. get_set_other c.slots' n x (v +ℤ pos 1) (λ same. absurd (omega arith))) total in
      let fits =
      loop_fits n slots2 left.vars e.outs (v +ℤ pos 1) frame fresh slots0 outs0 f arrived.size arrived.shows
      (get_set_same c.slots' n (v +ℤ pos 1) v found) total c.ports in
      let next = for_each ns (turn body frame fresh) left in
      come_after a (at p stack slots2 e.outs) (q + 1) n stack vars next leads
      (rebased (at p stack slots2 e.outs) (q + 1) n stack vars left.vars next arrived.kept
      (again is slots2 left.vars e.outs arrived.size fits))

  -- all turns from one on, k after it
  pub turns_run : (body : Actions) (k n p : ℕ) (high v : ℤ) (stack vars slots : List ℤ) (outs : List Value)
      (frame : Frame)
      (fresh : List Bool) (slots0 : List ℤ) (outs0 : List Value) → Fits s z n slots0 outs0 frame fresh
      → slice_get whole (p + length_acts body) ≡ Some (code.LoopNext n high p) → Bodies body n p stack frame fresh
      → high ≡ v +ℤ pos k → length vars ≡ n
      → Fits s z (n + 1) slots outs (with_vars frame (vars ++ v ∷ [])) fresh
      → Comes whole s (at p stack slots outs) (p + length_acts body + 1) stack z n vars
      (for_each (counted_from v (suc k)) (turn body frame fresh) (record { vars = vars; outs = outs }))
  turns_run body zero n p high v stack vars slots outs frame fresh slots0 outs0 f here bodies top size fits =
      turn_on body [] n p high v stack vars slots outs frame fresh slots0 outs0 f here size
      (acts body (with_vars frame (vars ++ v ∷ [])) fresh outs) (bodies v slots vars outs fits)
      (λ no. refl) (λ (yes : int_lt v high ≡ true). absurd (grind (arith, ints))) (int_lt v high) refl
  turns_run body (suc k) n p high v stack vars slots outs frame fresh slots0 outs0 f here bodies top size fits =
      turn_on body (counted_from (v +ℤ pos 1) (suc k)) n p high v stack vars slots outs frame fresh slots0 outs0 f here
      size (acts body (with_vars frame (vars ++ v ∷ [])) fresh outs) (bodies v slots vars outs fits)
      (λ (no : int_lt v high ≡ false). absurd (grind (arith, ints)))
      (λ yes slots2 vars2 outs2 size2 fits2. let top2 : high ≡ (v +ℤ pos 1) +ℤ pos k = omega (arith, ints) in
      turns_run body k n p high (v +ℤ pos 1) stack vars2 slots2 outs2 frame fresh slots0 outs0 f here bodies top2
      size2 fits2)
      (int_lt v high) refl
