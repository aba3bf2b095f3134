-- No expression and no action reads the state or the halt of its frame.
use Rattle.std.proofs.Common.{◌≡◌, ℤ, List, [], ◌∷◌, ◌++◌, length, refl, ap, ◌∙◌}
use Rattle.std.specs.Prelude.{Bool, not, if◌then◌else◌, Result, Ok, Err, slice_set}
use Rattle.pals_base.specs.declared.basic_types.Trap.{Trap}
use Rattle.pals_base.specs.declared.frames.Frame.{Frame}
use Rattle.pals_base.specs.declared.basic_types.PortValue.{PortValue}
use Rattle.pals_base.specs.declared.basic_types.PortValue.TheVariants.{Present}
use Rattle.pals_base.specs.Arithmetic.{negation_of, magnitude_of}
use Rattle.pals_base.specs.ExpressionValues.{eval, eval_rest, on_value, combined, is_true, truth}
use Rattle.pals_base.specs.Actions.{Effect, act, acts, act_first, for_each, with_vars, without_loop}
use Rattle.pals_base.specs.ForRanges.{numbers}
use Rattle.pals_base.specs.SingleStep.{opens}
use Rattle.pals_base.specs.ExpressionAndActionTrees.{Expression, Literal, Variable, PortRead, Fresh, Neg, Abs, Not}
use Rattle.pals_base.specs.ExpressionAndActionTrees.{Chain, Operands}
use Rattle.pals_base.specs.ExpressionAndActionTrees.{NoMore, Then, Action, Assign, Emit, If, For, Actions, Nothing, Do}
use Rattle.pals_base.specs.ExpressionAndActionTrees.{Branches}
use Rattle.pals_base.specs.ExpressionAndActionTrees.{NoBranch, Where, Trigger, Dispatch, Always, When}
use Rattle.behaviour_sem.specs.proof.EvaluationFrames.{frame_of}
use Rattle.behaviour_sem.specs.proof.ActionExecution.{effect}

-- equal goings on
pub on_value-same : {A B : Type 0} (r : Result A Trap) (f g : A → Result B Trap) → ((v : A) → f v ≡ g v)
    → on_value r f ≡ on_value r g
on_value-same (Ok v) f g same = same v
on_value-same (Err t) f g same = refl

for_each-same : (ns : List ℤ) (f g : ℤ → Effect → Result Effect Trap) (e : Effect)
    → ((n : ℤ) (d : Effect) → f n d ≡ g n d) → for_each ns f e ≡ for_each ns g e
for_each-same [] f g e same = refl
for_each-same (n ∷ ns) f g e same =
    ap (λ r. on_value r (λ d. for_each ns f d)) (same n e)
    ∙ on_value-same (g n e) _ _ (λ d. for_each-same ns f g d same)

mutual
  pub eval-seen : (e : Expression) (frame : Frame) (fresh : List Bool)
      → eval e frame fresh ≡ eval e (frame_of frame.vars frame.held) fresh
  eval-seen (Literal n) frame fresh = refl
  eval-seen (Variable x) frame fresh = refl
  eval-seen (PortRead p) frame fresh = refl
  eval-seen (Fresh p) frame fresh = refl
  eval-seen (Neg e) frame fresh = ap (λ r. on_value r negation_of) (eval-seen e frame fresh)
  eval-seen (Abs e) frame fresh = ap (λ r. on_value r magnitude_of) (eval-seen e frame fresh)
  eval-seen (Not e) frame fresh = ap (λ r. on_value r (λ v. Ok (truth (not (is_true v))))) (eval-seen e frame fresh)
  eval-seen (Chain first rest) frame fresh =
      ap (λ r. on_value r (λ v. eval_rest rest frame fresh v)) (eval-seen first frame fresh)
      ∙ on_value-same (eval first (frame_of frame.vars frame.held) fresh) _ _ (λ v. eval_rest-seen rest frame fresh v)

  eval_rest-seen : (os : Operands) (frame : Frame) (fresh : List Bool) (left : ℤ)
      → eval_rest os frame fresh left ≡ eval_rest os (frame_of frame.vars frame.held) fresh left
  eval_rest-seen NoMore frame fresh left = refl
  eval_rest-seen (Then op e rest) frame fresh left =
      ap (λ r. on_value (combined op left r) (λ v. eval_rest rest frame fresh v)) (eval-seen e frame fresh)
      ∙ on_value-same (combined op left (eval e (frame_of frame.vars frame.held) fresh)) _ _
      (λ v. eval_rest-seen rest frame fresh v)

mutual
  pub act-seen : (a : Action) (frame : Frame) (fresh : List Bool) (outs : List PortValue)
      → act a frame fresh outs ≡ act a (frame_of frame.vars frame.held) fresh outs
  act-seen (Assign x e) frame fresh outs =
      ap (λ r. on_value r (λ v. Ok (effect (slice_set frame.vars x v) outs))) (eval-seen e frame fresh)
  act-seen (Emit p e) frame fresh outs =
      ap (λ r. on_value r (λ v. Ok (effect frame.vars (slice_set outs p (Present v))))) (eval-seen e frame fresh)
  act-seen (If branches otherwise) frame fresh outs =
      act_first-seen branches frame fresh outs (acts otherwise frame fresh outs)
      ∙ ap (λ r. act_first branches (frame_of frame.vars frame.held) fresh outs r)
      (acts-seen otherwise frame fresh outs)
  act-seen (For low high body) frame fresh outs =
      for_each-same (numbers low high) _ _ (effect frame.vars outs)
      (λ n e. ap (λ r. without_loop (length frame.vars) r)
      (acts-seen body (with_vars frame (e.vars ++ n ∷ [])) fresh e.outs))

  pub acts-seen : (as' : Actions) (frame : Frame) (fresh : List Bool) (outs : List PortValue)
      → acts as' frame fresh outs ≡ acts as' (frame_of frame.vars frame.held) fresh outs
  acts-seen Nothing frame fresh outs = refl
  acts-seen (Do a rest) frame fresh outs =
      ap (λ r. on_value r (λ e. acts rest (with_vars frame e.vars) fresh e.outs)) (act-seen a frame fresh outs)
      ∙ on_value-same (act a (frame_of frame.vars frame.held) fresh outs) _ _
      (λ e. acts-seen rest (with_vars frame e.vars) fresh e.outs)

  act_first-seen : (bs : Branches) (frame : Frame) (fresh : List Bool) (outs : List PortValue)
      (otherwise : Result Effect Trap)
      → act_first bs frame fresh outs otherwise ≡ act_first bs (frame_of frame.vars frame.held) fresh outs otherwise
  act_first-seen NoBranch frame fresh outs otherwise = refl
  act_first-seen (Where guard actions rest) frame fresh outs otherwise =
      ap (λ r. on_value r (λ v.
      if is_true v then acts actions frame fresh outs else act_first rest frame fresh outs otherwise))
      (eval-seen guard frame fresh)
      ∙ on_value-same (eval guard (frame_of frame.vars frame.held) fresh) _ _
      (λ v.
      ap (λ r. if is_true v then r else act_first rest frame fresh outs otherwise) (acts-seen actions frame fresh outs)
      ∙ ap (λ r. if is_true v then acts actions (frame_of frame.vars frame.held) fresh outs else r)
      (act_first-seen rest frame fresh outs otherwise))

pub opens-seen : (t : Trigger) (frame : Frame) (fresh : List Bool)
    → opens t frame fresh ≡ opens t (frame_of frame.vars frame.held) fresh
opens-seen Dispatch frame fresh = refl
opens-seen Always frame fresh = refl
opens-seen (When e) frame fresh = ap (λ r. on_value r (λ v. Ok (is_true v))) (eval-seen e frame fresh)
