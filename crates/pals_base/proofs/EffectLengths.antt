-- Actions preserve the numbers of variables and out ports.
use Rattle.std.proofs.Common.{◌≡◌, ◌∙◌, ℕ, ◌+◌, ℤ, Bool, true, false, if◌then◌else◌, List, [], ◌∷◌, ◌++◌, length, sym}
use Rattle.std.proofs.Common.{ap, subst, arith, Ok, Err}
use Rattle.std.specs.Prelude.{Result, IfOk}
use Rattle.std.proofs.lemmas.List.{length-set, length-append, length-take-le}
use Rattle.pals_base.specs.declared.basic_types.Trap.{Trap}
use Rattle.pals_base.specs.declared.frames.Frame.{Frame}
use Rattle.pals_base.specs.declared.basic_types.PortValue.{PortValue}
use Rattle.pals_base.specs.declared.basic_types.PortValue.TheVariants.{Present}
use Rattle.pals_base.specs.ExpressionAndActionTrees.{Action, Assign, Emit, If, For, Actions, Nothing, Do, Branches}
use Rattle.pals_base.specs.ExpressionAndActionTrees.{NoBranch, Where}
use Rattle.pals_base.specs.ExpressionValues.{on_value, eval, is_true}
use Rattle.pals_base.specs.Actions.{Effect, act, acts, act_first, for_each, with_vars, without_loop}
use Rattle.pals_base.specs.ForRanges.{numbers}

-- an effect has v variables and o outputs
abbrev pub HasLengths : ℕ → ℕ → Effect → Type 0
HasLengths v o e = (length e.vars ≡ v) × (length e.outs ≡ o)

abbrev pub Keeps : ℕ → ℕ → Result Effect Trap → Type 0
Keeps v o r = IfOk r (HasLengths v o)

then_keeps : {A : Type 0} (v o : ℕ) (r : Result A Trap) (go : A → Result Effect Trap) → ((x : A) → Keeps v o (go x))
    → Keeps v o (on_value r go)
then_keeps v o (Ok x) go keeps = keeps x
then_keeps v o (Err trap) go keeps = tt

after_keeps : (v o : ℕ) (r : Result Effect Trap) (go : Effect → Result Effect Trap) → Keeps v o r
    → ((e : Effect) → HasLengths v o e → Keeps v o (go e)) → Keeps v o (on_value r go)
after_keeps v o (Ok e) go has keeps = keeps e has
after_keeps v o (Err trap) go has keeps = tt

for_each_keeps : (v o : ℕ) (ns : List ℤ) (body : ℤ → Effect → Result Effect Trap)
    → ((n : ℤ) (e : Effect) → HasLengths v o e → Keeps v o (body n e)) → (e : Effect) → HasLengths v o e
    → Keeps v o (for_each ns body e)
for_each_keeps v o [] body keeps e has = has
for_each_keeps v o (n ∷ ns) body keeps e has =
    after_keeps v o (body n e) (λ next. for_each ns body next) (keeps n e has)
    (λ next lengths. for_each_keeps v o ns body keeps next lengths)

without_loop_keeps : (v o : ℕ) (r : Result Effect Trap) → Keeps (v + 1) o r → Keeps v o (without_loop v r)
without_loop_keeps v o (Ok e) has = (length-take-le v e.vars (let size = has.0 in omega (arith, size)), has.1)
without_loop_keeps v o (Err trap) has = tt

if_keeps : (v o : ℕ) (b : Bool) (x y : Result Effect Trap) → Keeps v o x → Keeps v o y → Keeps v o (if b then x else y)
if_keeps v o true x y first second = first
if_keeps v o false x y first second = second

loop_keeps : (v o : ℕ) (inner : Result Effect Trap) (n : ℕ) → n ≡ v → Keeps (v + 1) o inner
    → Keeps v o (without_loop n inner)
loop_keeps v o inner n same keeps =
    subst (λ k. Keeps v o (without_loop k inner)) (sym same) (without_loop_keeps v o inner keeps)

mutual
  pub act_keeps : (v o : ℕ) (a : Action) (frame : Frame) (fresh : List Bool) (outs : List PortValue)
      → length frame.vars ≡ v → length outs ≡ o → Keeps v o (act a frame fresh outs)
  act_keeps v o (Assign x e) frame fresh outs vars ports =
      then_keeps v o (eval e frame fresh) _ (λ n. (length-set frame.vars x n ∙ vars, ports))
  act_keeps v o (Emit p e) frame fresh outs vars ports =
      then_keeps v o (eval e frame fresh) _ (λ n. (vars, length-set outs p (Present n) ∙ ports))
  act_keeps v o (If branches otherwise) frame fresh outs vars ports =
      act_first_keeps v o branches frame fresh outs (acts otherwise frame fresh outs) vars ports
      (acts_keeps v o otherwise frame fresh outs vars ports)
  act_keeps v o (For low high body) frame fresh outs vars ports =
      for_each_keeps v o (numbers low high) _
      (λ n e has. loop_keeps v o (acts body (with_vars frame (e.vars ++ n ∷ [])) fresh e.outs) (length frame.vars) vars
      (acts_keeps (v + 1) o body (with_vars frame (e.vars ++ n ∷ [])) fresh e.outs
      (length-append e.vars (n ∷ []) ∙ ap (λ k. k + 1) has.0) has.1))
      (record { vars = frame.vars; outs = outs }) (vars, ports)

  pub acts_keeps : (v o : ℕ) (as' : Actions) (frame : Frame) (fresh : List Bool) (outs : List PortValue)
      → length frame.vars ≡ v → length outs ≡ o → Keeps v o (acts as' frame fresh outs)
  acts_keeps v o Nothing frame fresh outs vars ports = (vars, ports)
  acts_keeps v o (Do a rest) frame fresh outs vars ports =
      after_keeps v o (act a frame fresh outs) (λ e. acts rest (with_vars frame e.vars) fresh e.outs)
      (act_keeps v o a frame fresh outs vars ports)
      (λ e has. acts_keeps v o rest (with_vars frame e.vars) fresh e.outs has.0 has.1)

  act_first_keeps : (v o : ℕ) (branches : Branches) (frame : Frame) (fresh : List Bool) (outs : List PortValue)
      (otherwise : Result Effect Trap) → length frame.vars ≡ v → length outs ≡ o → Keeps v o otherwise
      → Keeps v o (act_first branches frame fresh outs otherwise)
  act_first_keeps v o NoBranch frame fresh outs otherwise vars ports keeps = keeps
  act_first_keeps v o (Where guard actions rest) frame fresh outs otherwise vars ports keeps =
      then_keeps v o (eval guard frame fresh) _
      (λ n. if_keeps v o (is_true n) (acts actions frame fresh outs) (act_first rest frame fresh outs otherwise)
      (acts_keeps v o actions frame fresh outs vars ports)
      (act_first_keeps v o rest frame fresh outs otherwise vars ports keeps))
