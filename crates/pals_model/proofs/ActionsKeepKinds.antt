-- For the law that steps keep kinds: actions keep the kinds of variables and of out ports.
use Rattle.std.proofs.Common.{◌≡◌, ℕ, ◌+◌, ◌*◌, ◌≤◌, ℤ, pos, Bool, true, List, [], ◌∷◌, ◌++◌, length, take, slice_get}
use Rattle.std.proofs.Common.{Option, Some, sym, ap, ◌∙◌, subst, arith, length-append, length-take}
use Rattle.std.specs.Prelude.{Result, Ok, Err, IfOk, slice_index_or, slice_set}
use Rattle.std.proofs.lemmas.Bool.{and_parts}
use Rattle.std.proofs.lemmas.List.{length-set, get_or_append_left, get_or-take}
use Rattle.std.proofs.lemmas.Option.{slice_get_within}
use Rattle.list_lemmas.proofs.Booleans.{and_three_parts}
use Rattle.pals_base.specs.declared.basic_types.Trap.{Trap}
use Rattle.pals_base.specs.declared.frames.Frame.{Frame}
use Rattle.pals_base.specs.declared.basic_types.PortValue.{PortValue}
use Rattle.pals_base.specs.declared.basic_types.PortValue.TheVariants.{Absent, Present}
use Rattle.pals_base.specs.declared.behaviour.PortDecl.{PortDecl}
use Rattle.pals_base.specs.declared.behaviour.VarDecl.{VarDecl}
use Rattle.pals_base.specs.declared.behaviour.BehaviourParts.{BehaviourParts}
use Rattle.pals_base.specs.declared.expression_kinds.Kinds.{Kinds}
use Rattle.pals_base.specs.Actions.{Effect, act, acts, act_first, for_each, with_vars, without_loop}
use Rattle.pals_base.specs.ForRanges.{numbers}
use Rattle.pals_base.specs.ExpressionValues.{is_true, eval}
use Rattle.pals_base.specs.TypingRules.{suits_variable, suits_port, kinds_of, turns, is_short, is_sound, are_sound}
use Rattle.pals_base.specs.TypingRules.{branches_are_sound}
use Rattle.pals_base.specs.ExpressionAndActionTrees.{Action, Assign, Emit, If, For, Actions, Nothing, Do, Branches}
use Rattle.pals_base.specs.ExpressionAndActionTrees.{NoBranch, Where}
use Rattle.pals_base.proofs.StepTermination.{then_ok}
use Rattle.pals_model.specs.proof.ValuesFitKinds.{Fits, PortFits, VarsFit, HeldFit, PortsFit}
use Rattle.pals_model.proofs.AllElements.{set_keeps, on_ok, if_ok}
use Rattle.pals_model.proofs.ExpressionsFitKinds.{MayBe, allowed_fits, eval_may}

-- the variables that are declared are there and fit, and so do the outputs
pub record EffectFits (b : BehaviourParts) (e : Effect) : Type 0 where
  pub many : length b.vars ≤ length e.vars
  pub vars : VarsFit b e.vars
  pub outs : PortsFit b.outs e.outs

-- ---- the written values
suits_var : (o : Option VarDecl) (d : VarDecl) (kinds : Kinds) (v : ℤ) → o ≡ Some d → suits_variable o kinds ≡ true
    → MayBe kinds v → Fits d.kind v
suits_var o d kinds v is suits may = allowed_fits d.kind kinds v (sym (ap (λ p. suits_variable p kinds) is) ∙ suits) may

suits_out : (o : Option PortDecl) (d : PortDecl) (kinds : Kinds) (v : ℤ) → o ≡ Some d → suits_port o kinds ≡ true
    → MayBe kinds v → Fits d.kind v
suits_out o d kinds v is suits may = allowed_fits d.kind kinds v (sym (ap (λ p. suits_port p kinds) is) ∙ suits) may

assigned : (b : BehaviourParts) (vars : List ℤ) (x : ℕ) (kinds : Kinds) (v : ℤ)
    → suits_variable (slice_get b.vars x) kinds ≡ true → MayBe kinds v → VarsFit b vars → VarsFit b (slice_set vars x v)
assigned b vars x kinds v suits may fits = λ y d is.
    set_keeps (Fits d.kind) vars x y v (pos 0)
    (λ same. suits_var (slice_get b.vars x) d kinds v (ap (slice_get b.vars) (sym same) ∙ is) suits may)
    (fits y d is)

emitted : (b : BehaviourParts) (outs : List PortValue) (p : ℕ) (kinds : Kinds) (v : ℤ)
    → suits_port (slice_get b.outs p) kinds ≡ true → MayBe kinds v → PortsFit b.outs outs
    → PortsFit b.outs (slice_set outs p (Present v))
emitted b outs p kinds v suits may fits = λ y d is.
    set_keeps (PortFits d.kind) outs p y (Present v) Absent
    (λ same. suits_out (slice_get b.outs p) d kinds v (ap (slice_get b.outs) (sym same) ∙ is) suits may)
    (fits y d is)

-- ---- loops
with_loop : (b : BehaviourParts) (vars : List ℤ) (n : ℤ) → length b.vars ≤ length vars → VarsFit b vars
    → VarsFit b (vars ++ n ∷ [])
with_loop b vars n many fits = λ x d is.
    let within = slice_get_within b.vars x d is in
    let here : slice_index_or (vars ++ n ∷ []) x (pos 0) ≡ slice_index_or vars x (pos 0) =
    get_or_append_left vars (n ∷ []) (pos 0) x (omega arith) in
    subst (Fits d.kind) (sym here) (fits x d is)

back_fits : (b : BehaviourParts) (vars : List ℤ) (k : ℕ) → length b.vars ≤ k → VarsFit b vars → VarsFit b (take k vars)
back_fits b vars k some fits = λ x d is.
    let within = slice_get_within b.vars x d is in
    let here : slice_index_or (take k vars) x (pos 0) ≡ slice_index_or vars x (pos 0) =
    get_or-take k vars x (pos 0) (omega arith) in
    subst (Fits d.kind) (sym here) (fits x d is)

without_fits : (b : BehaviourParts) (k : ℕ) (r : Result Effect Trap) → length b.vars ≤ k → IfOk r (EffectFits b)
    → IfOk (without_loop k r) (EffectFits b)
without_fits b k (Ok e) some fits =
    let size = length-take k e.vars in
    let many = fits.many in
    record { many = omega arith; vars = back_fits b e.vars k some fits.vars; outs = fits.outs }
without_fits b k (Err trap) some fits = tt

for_each_fits : (b : BehaviourParts) (ns : List ℤ) (body : ℤ → Effect → Result Effect Trap)
    → ((n : ℤ) (e : Effect) → EffectFits b e → IfOk (body n e) (EffectFits b)) → (e : Effect) → EffectFits b e
    → IfOk (for_each ns body e) (EffectFits b)
for_each_fits b [] body keeps e fits = fits
for_each_fits b (n ∷ ns) body keeps e fits =
    then_ok (EffectFits b) (EffectFits b) (body n e) (λ next. for_each ns body next) (keeps n e fits)
    (λ next so_far. for_each_fits b ns body keeps next so_far)

-- ---- actions

mutual
  act_fits : (a : Action) (b : BehaviourParts) (loops around : ℕ) (frame : Frame) (fresh : List Bool)
      (outs : List PortValue)
      → is_sound a b loops around ≡ true → length b.vars ≤ length frame.vars → VarsFit b frame.vars
      → HeldFit b frame.held → PortsFit b.outs outs
      → IfOk (act a frame fresh outs) (EffectFits b)
  act_fits (Assign x e) b loops around frame fresh outs sound many vars held ports =
      then_ok (MayBe (kinds_of e b loops)) (EffectFits b) (eval e frame fresh) _
      (eval_may e b loops frame fresh vars held)
      (λ v may. record {
        many = (let size = length-set frame.vars x v in omega arith);
        vars = assigned b frame.vars x (kinds_of e b loops) v sound may vars;
        outs = ports;
      })
  act_fits (Emit p e) b loops around frame fresh outs sound many vars held ports =
      then_ok (MayBe (kinds_of e b loops)) (EffectFits b) (eval e frame fresh) _
      (eval_may e b loops frame fresh vars held)
      (λ v may. record { many = many; vars = vars; outs = emitted b outs p (kinds_of e b loops) v sound may ports })
  act_fits (If branches otherwise) b loops around frame fresh outs sound many vars held ports =
      let parts = and_parts (branches_are_sound branches b loops around) (are_sound otherwise b loops around) sound in
      first_fits branches b loops around frame fresh outs (acts otherwise frame fresh outs) parts.0 many vars held ports
      (acts_fit otherwise b loops around frame fresh outs parts.1 many vars held ports)
  act_fits (For low high body) b loops around frame fresh outs sound many vars held ports =
      let parts =
      and_parts (is_short (turns low high) around) (are_sound body b (loops + 1) (around * turns low high)) sound in
      for_each_fits b (numbers low high) _
      (λ n e fits. without_fits b (length frame.vars) (acts body (with_vars frame (e.vars ++ n ∷ [])) fresh e.outs) many
      (acts_fit body b (loops + 1) (around * turns low high) (with_vars frame (e.vars ++ n ∷ [])) fresh e.outs parts.1
      (let size = length-append e.vars (n ∷ []) in let own = fits.many in omega arith)
      (with_loop b e.vars n fits.many fits.vars) held fits.outs))
      (record { vars = frame.vars; outs = outs }) (record { many = many; vars = vars; outs = ports })

  pub acts_fit : (as' : Actions) (b : BehaviourParts) (loops around : ℕ) (frame : Frame) (fresh : List Bool)
      (outs : List PortValue)
      → are_sound as' b loops around ≡ true → length b.vars ≤ length frame.vars → VarsFit b frame.vars
      → HeldFit b frame.held → PortsFit b.outs outs
      → IfOk (acts as' frame fresh outs) (EffectFits b)
  acts_fit Nothing b loops around frame fresh outs sound many vars held ports =
      record { many = many; vars = vars; outs = ports }
  acts_fit (Do a rest) b loops around frame fresh outs sound many vars held ports =
      let parts = and_parts (is_sound a b loops around) (are_sound rest b loops around) sound in
      then_ok (EffectFits b) (EffectFits b) (act a frame fresh outs)
      (λ e. acts rest (with_vars frame e.vars) fresh e.outs)
      (act_fits a b loops around frame fresh outs parts.0 many vars held ports)
      (λ e fits. acts_fit rest b loops around (with_vars frame e.vars) fresh e.outs parts.1 fits.many fits.vars
      held fits.outs)

  first_fits : (branches : Branches) (b : BehaviourParts) (loops around : ℕ) (frame : Frame) (fresh : List Bool)
      (outs : List PortValue) (otherwise : Result Effect Trap)
      → branches_are_sound branches b loops around ≡ true → length b.vars ≤ length frame.vars → VarsFit b frame.vars
      → HeldFit b frame.held → PortsFit b.outs outs
      → IfOk otherwise (EffectFits b) → IfOk (act_first branches frame fresh outs otherwise) (EffectFits b)
  first_fits NoBranch b loops around frame fresh outs otherwise sound many vars held ports fits = fits
  first_fits (Where guard actions rest) b loops around frame fresh outs otherwise sound many vars held ports fits =
      let parts =
      and_three_parts (kinds_of guard b loops).boolean (are_sound actions b loops around)
      (branches_are_sound rest b loops around) sound in
      on_ok (EffectFits b) (eval guard frame fresh) _
      (λ n. if_ok (EffectFits b) (is_true n) (acts actions frame fresh outs) (act_first rest frame fresh outs otherwise)
      (acts_fit actions b loops around frame fresh outs parts.1 many vars held ports)
      (first_fits rest b loops around frame fresh outs otherwise parts.2 many vars held ports fits))
