-- Transitions that are tried one after another, and the one that is taken.
use Rattle.std.proofs.Common.{◌≡◌, ℕ, suc, ◌+◌, ℤ, ◌<◌, List, length, drop, get_or, cond, refl, sym, ap, ◌∙◌}
use Rattle.std.specs.Prelude.{Bool, true, false, Result, Ok, Err, Option, None, Some, slice_get, if◌then◌else◌}
use Rattle.pals_base.specs.declared.basic_types.Trap.{Trap}
use Rattle.pals_base.specs.declared.frames.Frame.{Frame}
use Rattle.pals_base.specs.declared.basic_types.PortValue.{PortValue}
use Rattle.pals_base.specs.ExpressionValues.{on_value}
use Rattle.pals_base.specs.Actions.{Effect, acts}
use Rattle.pals_base.specs.SingleStep.{Fired, along, first_open, is_complete, leaving, settled}
use Rattle.pals_base.specs.ExpressionAndActionTrees.{Edge}
use Rattle.behaviour_sem.specs.declared.early_end.EarlyEnd.{EarlyEnd}
use Rattle.behaviour_sem.specs.declared.early_end.EarlyEnd.TheVariants as stop
use Rattle.behaviour_sem.specs.proof.EvaluationFrames.{frame_of}
use Rattle.behaviour_sem.specs.proof.PartialStepResults.{IsStepResult}
use Rattle.behaviour_sem.specs.proof.ActionExecution.{effect}
use Rattle.behaviour_sem.specs.proof.TransitionMoves.{move, opens_at, dispatches, dispatch_among}
use Rattle.behaviour_sem.specs.proof.GroupedTransitions.{with_first, numbered}
use Rattle.behaviour_sem.proofs.GroupedTransitions.{numbered-from}
use Rattle.behaviour_sem.specs.declared.transitions.StepState.{StepState}
use Rattle.pals_base.specs.declared.behaviour.BehaviourParts.{BehaviourParts}
use Rattle.behaviour_sem.proofs.StateIndependence.{acts-seen, opens-seen}

-- ---- traps
-- a trap that ends a run ends every run that continues from it
pub Left-stops : {A B : Type 0} (s : EarlyEnd) (first : Result A Trap) (go : A → Result B Trap) (reached : A)
    (reached' : B) → IsStepResult (Err s) reached first → IsStepResult (Err s) reached' (on_value first go)
Left-stops (stop.Trapped trap) first go reached reached' left = ap (λ r. on_value r go) left
Left-stops stop.NoMemory first go reached reached' left = tt

-- ---- transitions
pub along-ran : (e : Edge) (at : Fired) (fresh : List Bool) (vars : List ℤ) (outs : List PortValue)
    → acts e.actions (frame_of at.frame.vars at.frame.held) fresh at.outs ≡ Ok (effect vars outs)
    → along (Some e) fresh at ≡ Ok (record { frame = record at.frame { state = e.target; vars = vars }; outs = outs })
along-ran e at fresh vars outs ran =
    ap (λ r. on_value r (λ (done : Effect).
    Ok (record { frame = record at.frame { state = e.target; vars = done.vars }; outs = done.outs })))
    (acts-seen e.actions at.frame fresh at.outs ∙ ran)

pub along-stops : (s : EarlyEnd) (e : Edge) (at : Fired) (fresh : List Bool) (reached : Effect) (reached' : Fired)
    → IsStepResult (Err s) reached (acts e.actions (frame_of at.frame.vars at.frame.held) fresh at.outs)
    → IsStepResult (Err s) reached' (along (Some e) fresh at)
along-stops (stop.Trapped trap) e at fresh reached reached' left =
    ap (λ r. on_value r (λ (done : Effect).
    Ok (record { frame = record at.frame { state = e.target; vars = done.vars }; outs = done.outs })))
    (acts-seen e.actions at.frame fresh at.outs ∙ left)
along-stops stop.NoMemory e at fresh reached reached' left = tt

-- the first open transition, of one that there may be and those after it
first_open-with : (o : Option Edge) (es : List Edge) (frame : Frame) (fresh : List Bool)
    → first_open (with_first o es) frame fresh
    ≡ on_value (opens_at o (frame_of frame.vars frame.held) fresh)
    (λ yes. if yes then Ok o else first_open es frame fresh)
first_open-with None es frame fresh = refl
first_open-with (Some e) es frame fresh =
    ap (λ r. on_value r (λ yes. if yes then Ok (Some e) else first_open es frame fresh))
    (opens-seen e.trigger frame fresh)

-- the first open transition from a number on
pub first_open-from : (frame : Frame) (fresh : List Bool) (all : List Edge) (ns : List ℕ) (i : ℕ)
    (answer : Result Bool Trap) → i < length ns
    → opens_at (slice_get all (get_or ns i 0)) (frame_of frame.vars frame.held) fresh ≡ answer
    → first_open (numbered all (drop i ns)) frame fresh
    ≡ on_value answer (λ yes.
    if yes then Ok (slice_get all (get_or ns i 0)) else first_open (numbered all (drop (i + 1) ns)) frame fresh)
first_open-from frame fresh all ns i answer within asked =
    ap (λ es. first_open es frame fresh) (numbered-from all ns i within)
    ∙ first_open-with (slice_get all (get_or ns i 0)) (numbered all (drop (i + 1) ns)) frame fresh
    ∙ ap (λ r. on_value r (λ yes.
    if yes then Ok (slice_get all (get_or ns i 0)) else first_open (numbered all (drop (i + 1) ns)) frame fresh)) asked

-- the answer for a transition, asked at a place that has not changed
pub opens-same : (answer : Result Bool Trap) (here start : StepState) (vars held : List ℤ) (fresh : List Bool)
    (o : Option Edge) → vars ≡ here.vars.items → here ≡ start → answer ≡ opens_at o (frame_of vars held) fresh
    → opens_at o (frame_of start.vars.items held) fresh ≡ answer
opens-same answer here start vars held fresh o same place asked =
    sym (asked ∙ ap (λ vs. opens_at o (frame_of vs held) fresh) same
    ∙ ap (λ (p : StepState). opens_at o (frame_of p.vars.items held) fresh) place)

-- the first dispatch transition from a number on
dispatch-with : (o : Option Edge) (es : List Edge) (b : Bool) → dispatches o ≡ b
    → dispatch_among (with_first o es) ≡ cond b o (dispatch_among es)
dispatch-with None es true h = cc
dispatch-with None es false h = refl
dispatch-with (Some e) es b h = ap (λ c. cond c (Some e) (dispatch_among es)) h

pub dispatch-from : (all : List Edge) (ns : List ℕ) (i : ℕ) (b : Bool) → i < length ns
    → b ≡ dispatches (slice_get all (get_or ns i 0))
    → dispatch_among (numbered all (drop i ns))
    ≡ cond b (slice_get all (get_or ns i 0)) (dispatch_among (numbered all (drop (i + 1) ns)))
dispatch-from all ns i b within is =
    ap dispatch_among (numbered-from all ns i within)
    ∙ dispatch-with (slice_get all (get_or ns i 0)) (numbered all (drop (i + 1) ns)) b (sym is)

on_value-on_value : {A B C : Type 0} (r : Result A Trap) (f : A → Result B Trap) (g : B → Result C Trap)
    → on_value r (λ a. on_value (f a) g) ≡ on_value (on_value r f) g
on_value-on_value (Ok v) f g = refl
on_value-on_value (Err t) f g = refl

-- from a state that is not complete, one transition and those after it
pub settled-more : (n : ℕ) (b : BehaviourParts) (fresh : List Bool) (at : Fired) → is_complete b at.frame.state ≡ false
    → settled (suc n) b fresh at ≡ on_value (move (leaving b at.frame.state) fresh at) (λ next. settled n b fresh next)
settled-more n b fresh at under_way =
    ap (λ done. if done then Ok at else on_value (first_open (leaving b at.frame.state) at.frame fresh)
    (λ e. on_value (along e fresh at) (λ next. settled n b fresh next))) under_way
    ∙ on_value-on_value (first_open (leaving b at.frame.state) at.frame fresh) (λ e. along e fresh at)
    (λ next. settled n b fresh next)
