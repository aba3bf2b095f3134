-- The effect of actions: new variables and this step's outputs, or a trap.
use Rattle.std.specs.Prelude.{ℕ, ℤ, Bool, if◌then◌else◌, List, [], ◌∷◌, ◌++◌, length, take, Result, Ok, slice_set}
use Rattle.pals_base.specs.declared.basic_types.Trap.{Trap}
use Rattle.pals_base.specs.declared.frames.Frame.{Frame}
use Rattle.pals_base.specs.declared.basic_types.PortValue.{PortValue}
use Rattle.pals_base.specs.declared.basic_types.PortValue.TheVariants.{Present}
use Rattle.pals_base.specs.ExpressionValues.{eval, on_value, is_true}
use Rattle.pals_base.specs.ExpressionAndActionTrees.{Action, Assign, Emit, If, For, Actions, Nothing, Do, Branches}
use Rattle.pals_base.specs.ExpressionAndActionTrees.{NoBranch, Where}
use Rattle.pals_base.specs.ForRanges.{numbers}

-- the variables, and the values of the out ports in this step so far
pub record Effect : Type 0 where
  pub vars : List ℤ
  pub outs : List PortValue

-- a body once for each number, in order
abbrev pub for_each : List ℤ → (ℤ → Effect → Result Effect Trap) → Effect → Result Effect Trap
for_each [] body so_far = Ok so_far
for_each (n ∷ ns) body so_far = on_value (body n so_far) (λ e. for_each ns body e)

-- a frame with these variables
abbrev pub with_vars : Frame → List ℤ → Frame
with_vars frame vars = record frame { vars = vars }

-- the effect without the variable of a loop, which is the one after the first n
abbrev pub without_loop : ℕ → Result Effect Trap → Result Effect Trap
without_loop n done = on_value done (λ e. Ok (record e { vars = take n e.vars }))

abbrev mutual
  pub act : Action → Frame → List Bool → List PortValue → Result Effect Trap
  act (Assign x e) frame fresh outs =
      on_value (eval e frame fresh) (λ v. Ok (record { vars = slice_set frame.vars x v; outs = outs }))
  act (Emit p e) frame fresh outs =
      on_value (eval e frame fresh) (λ v. Ok (record { vars = frame.vars; outs = slice_set outs p (Present v) }))
  act (If branches otherwise) frame fresh outs = act_first branches frame fresh outs (acts otherwise frame fresh outs)
  act (For low high body) frame fresh outs =
      for_each (numbers low high)
      (λ n e. without_loop (length frame.vars) (acts body (with_vars frame (e.vars ++ n ∷ [])) fresh e.outs))
      (record { vars = frame.vars; outs = outs })

  -- actions in sequence
  pub acts : Actions → Frame → List Bool → List PortValue → Result Effect Trap
  acts Nothing frame fresh outs = Ok (record { vars = frame.vars; outs = outs })
  acts (Do a rest) frame fresh outs =
      on_value (act a frame fresh outs) (λ e. acts rest (with_vars frame e.vars) fresh e.outs)

  -- the effect of the first branch with a true guard, else the given effect
  pub act_first : Branches → Frame → List Bool → List PortValue → Result Effect Trap → Result Effect Trap
  act_first NoBranch frame fresh outs otherwise = otherwise
  act_first (Where guard actions rest) frame fresh outs otherwise =
      on_value (eval guard frame fresh)
      (λ v. if is_true v then acts actions frame fresh outs else act_first rest frame fresh outs otherwise)
