-- The dispatch transition among the transitions that leave a state, and the move along the first one whose guard is
-- true.
use Rattle.std.specs.Prelude.{find, Bool, false, List, Option, None, Some, Result, Ok}
use Rattle.pals_base.specs.declared.basic_types.Trap.{Trap}
use Rattle.pals_base.specs.declared.frames.Frame.{Frame}
use Rattle.pals_base.specs.SingleStep.{Fired, opens, first_open, along, is_dispatch}
use Rattle.pals_base.specs.ExpressionValues.{on_value}
use Rattle.pals_base.specs.ExpressionAndActionTrees.{Edge}

-- whether there is a transition, and it is a dispatch transition
abbrev pub dispatches : Option Edge → Bool
dispatches None = false
dispatches (Some e) = is_dispatch e.trigger

-- whether there is a transition, and its guard is true
abbrev pub opens_at : Option Edge → Frame → List Bool → Result Bool Trap
opens_at None frame fresh = Ok false
opens_at (Some e) frame fresh = opens e.trigger frame fresh

-- the first dispatch transition
abbrev pub dispatch_among : List Edge → Option Edge
dispatch_among edges = find (λ (e : Edge). is_dispatch e.trigger) edges

-- goes along the first transition whose guard is true, if there is one
abbrev pub move : List Edge → List Bool → Fired → Result Fired Trap
move edges fresh at = on_value (first_open edges at.frame fresh) (λ e. along e fresh at)
