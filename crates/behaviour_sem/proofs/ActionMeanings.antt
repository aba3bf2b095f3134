-- What the tree of an action means, by the lists of its parts, and the numbers of a loop.
use Rattle.std.proofs.Common.{◌≡◌, ℕ, suc, ℤ, pos, negsuc, ◌+ℤ◌, ◌-ℤ◌, ◌≤ℤ◌, List, [], ◌∷◌, ◌++◌, sym, ap, ◌∙◌, arith}
use Rattle.std.specs.Prelude.{Bool, Result, Ok, Err}
use Rattle.std.proofs.lemmas.Int.{ints}
use Rattle.std.specs.declared.alloc.Global.{Global}
use Rattle.std.specs.declared.vec.Vec.{Vec}
use Rattle.pals_base.specs.declared.basic_types.Trap.{Trap}
use Rattle.pals_base.specs.declared.frames.Frame.{Frame}
use Rattle.pals_base.specs.declared.basic_types.PortValue.{PortValue}
use Rattle.pals_base.specs.declared.behaviour.Act.{Act}
use Rattle.pals_base.specs.declared.behaviour.Act.TheVariants as variants
use Rattle.pals_base.specs.declared.behaviour.Branch.{Branch}
use Rattle.pals_base.specs.Actions.{Effect, act, acts, act_first, for_each, without_loop}
use Rattle.pals_base.specs.ForRanges.{numbers, counted_from, count_of}
use Rattle.pals_base.specs.ExpressionAndActionTrees.{Actions, For}
use Rattle.pals_base.specs.ExpressionValues.{on_value}
use Rattle.pals_base.specs.proof.TreeViews.{action_of, actions_along, branches_along}
use Rattle.pals_base.proofs.TreeViews.{action_of-If, action_of-For}
use Rattle.behaviour_sem.specs.declared.early_end.EarlyEnd.{EarlyEnd}
use Rattle.behaviour_sem.specs.declared.early_end.EarlyEnd.TheVariants as stop
use Rattle.behaviour_sem.specs.proof.EvaluationFrames.{frame_of}
use Rattle.behaviour_sem.specs.proof.PartialStepResults.{IsStepResult, IsBranchResult}

-- ---- trees
pub act-If : (branches : Vec Branch Global) (otherwise : Vec Act Global) (frame : Frame) (fresh : List Bool)
    (outs : List PortValue) → act (action_of (variants.If branches otherwise)) frame fresh outs
    ≡ act_first (branches_along branches.items) frame fresh outs (acts (actions_along otherwise.items) frame fresh outs)
act-If branches otherwise frame fresh outs = ap (λ a. act a frame fresh outs) (action_of-If branches otherwise)

pub act-For : (low high : ℤ) (body : Vec Act Global) (frame : Frame) (fresh : List Bool) (outs : List PortValue)
    → act (action_of (variants.For low high body)) frame fresh outs
    ≡ act (For low high (actions_along body.items)) frame fresh outs
act-For low high body frame fresh outs = ap (λ a. act a frame fresh outs) (action_of-For low high body)

-- a turn of a loop round which there were `depth` variables, after other turns
abbrev pub turn_after : ℕ → Actions → List ℤ → List Bool → ℤ → Effect → Result Effect Trap
turn_after depth body held fresh number so_far =
    without_loop depth (acts body (frame_of (so_far.vars ++ number ∷ []) held) fresh so_far.outs)

-- ---- answers
pub Left-chose-err : {A : Type 0} (s : EarlyEnd) (reached before reached' : A) (otherwise meant : Result A Trap)
    → IsBranchResult (Err s) reached before otherwise meant → IsStepResult (Err s) reached' meant
Left-chose-err (stop.Trapped trap) reached before reached' otherwise meant chose = chose
Left-chose-err stop.NoMemory reached before reached' otherwise meant chose = tt

-- ---- numbers of a loop
count_of-more : (x y : ℤ) → y +ℤ pos 1 ≡ x → pos 0 ≤ℤ x → count_of x ≡ suc (count_of y)
count_of-more (pos m) (pos k) e h = omega (arith, ints)
count_of-more (pos m) (negsuc k) e h = omega (arith, ints)
count_of-more (negsuc m) y e h = absurd (omega (arith, ints))

pub numbers-more : (low high : ℤ) → low ≤ℤ high → numbers low high ≡ low ∷ numbers (low +ℤ pos 1) high
numbers-more low high h =
    ap (counted_from low) (count_of-more (high -ℤ low) (high -ℤ (low +ℤ pos 1)) (omega (arith, ints))
    (omega (arith, ints)))

-- one more number, and those after it
pub for_each-more : (low high : ℤ) (body : ℤ → Effect → Result Effect Trap) (before after : Effect) → low ≤ℤ high
    → body low before ≡ Ok after
    → for_each (numbers (low +ℤ pos 1) high) body after ≡ for_each (numbers low high) body before
for_each-more low high body before after more ran =
    sym (ap (λ r. on_value r (λ e. for_each (numbers (low +ℤ pos 1) high) body e)) ran)
    ∙ sym (ap (λ ns. for_each ns body before) (numbers-more low high more))
