-- One step of a behaviour: held inputs, transitions and the next frame; and the initial frame of a component, and the
-- frames that fit a behaviour.
use Rattle.std.specs.Prelude.{◌≡◌, IsTrue, ℕ, zero, suc, nat_eq, ℤ, pos, Bool, true, false, if◌then◌else◌, List, []}
use Rattle.std.specs.Prelude.{◌∷◌, length, map, replicate, filter, find, Option, Some, None, Result, Ok, Err, slice_get}
use Rattle.pals_base.specs.declared.basic_types.Trap.{Trap}
use Rattle.pals_base.specs.declared.frames.Frame.{Frame}
use Rattle.pals_base.specs.declared.basic_types.PortValue.{PortValue}
use Rattle.pals_base.specs.declared.basic_types.PortValue.TheVariants.{Absent, Present}
use Rattle.pals_base.specs.declared.behaviour.BehaviourParts.{BehaviourParts}
use Rattle.pals_base.specs.declared.behaviour.StateDecl.{StateDecl}
use Rattle.pals_base.specs.declared.behaviour.VarDecl.{VarDecl}
use Rattle.pals_base.specs.ExpressionValues.{eval, on_value, is_true}
use Rattle.pals_base.specs.Actions.{acts}
use Rattle.pals_base.specs.ExpressionAndActionTrees.{Edge, Trigger, Dispatch, Always, When}

-- ---- inputs
-- the value of a present input, else the value held before
abbrev pub held_of : ℤ → PortValue → ℤ
held_of before Absent = before
held_of before (Present v) = v

-- holds the value of each present input
abbrev pub holding : List ℤ → List PortValue → List ℤ
holding [] inputs = []
holding (v ∷ held) [] = v ∷ held
holding (v ∷ held) (input ∷ inputs) = held_of v input ∷ holding held inputs

abbrev pub is_present : PortValue → Bool
is_present Absent = false
is_present (Present v) = true

-- no value on any out port
abbrev pub silence : BehaviourParts → List PortValue
silence b = replicate (length b.outs) Absent

-- ---- transitions
-- an undeclared state counts as complete: no transition leaves it
abbrev pub completes : Option StateDecl → Bool
completes None = true
completes (Some s) = s.complete

-- the state is declared and complete, so a step may begin there
abbrev pub may_begin : Option StateDecl → Bool
may_begin None = false
may_begin (Some s) = s.complete

abbrev pub is_complete : BehaviourParts → ℕ → Bool
is_complete b state = completes (slice_get b.states state)

-- the transitions that leave a state, in the order of the text
abbrev pub leaving : BehaviourParts → ℕ → List Edge
leaving b state = filter (λ e. nat_eq e.source state) b.transitions

abbrev pub is_dispatch : Trigger → Bool
is_dispatch Dispatch = true
is_dispatch Always = false
is_dispatch (When e) = false

-- whether a trigger enables a transition after the dispatch
abbrev pub opens : Trigger → Frame → List Bool → Result Bool Trap
opens Dispatch frame fresh = Ok false
opens Always frame fresh = Ok true
opens (When e) frame fresh = on_value (eval e frame fresh) (λ v. Ok (is_true v))

-- the first transition whose guard is true
abbrev pub first_open : List Edge → Frame → List Bool → Result (Option Edge) Trap
first_open [] frame fresh = Ok None
first_open (e ∷ es) frame fresh =
    on_value (opens e.trigger frame fresh) (λ open'. if open' then Ok (Some e) else first_open es frame fresh)

-- ---- a step
-- a frame, and the values of the out ports
pub record Fired : Type 0 where
  pub frame : Frame
  pub outs : List PortValue

-- takes a transition, if there is one
abbrev pub along : Option Edge → List Bool → Fired → Result Fired Trap
along None fresh at = Ok at
along (Some e) fresh at =
    on_value (acts e.actions at.frame fresh at.outs)
    (λ done. Ok (record { frame = record at.frame { state = e.target; vars = done.vars }; outs = done.outs }))

-- from a state to the first complete state, by at most n transitions
abbrev pub settled : ℕ → BehaviourParts → List Bool → Fired → Result Fired Trap
settled zero b fresh at = Ok at
settled (suc n) b fresh at =
    if is_complete b at.frame.state then Ok at
    else on_value (first_open (leaving b at.frame.state) at.frame fresh)
    (λ e. on_value (along e fresh at) (λ next. settled n b fresh next))

-- the dispatch transition of a complete state
abbrev pub dispatched : BehaviourParts → ℕ → Option Edge
dispatched b state = find (λ e. is_dispatch e.trigger) (leaving b state)

-- the whole step of a frame after it held its inputs; it visits no state twice before a complete one
abbrev pub reaction : BehaviourParts → List Bool → Frame → Result Fired Trap
reaction b fresh frame =
    on_value (along (dispatched b frame.state) fresh (record { frame = frame; outs = silence b }))
    (λ at. settled (length b.states) b fresh at)

-- the result of a step; at a trap, the frame before it with the new held inputs and the halt, and no outputs
abbrev pub outcome : BehaviourParts → Frame → Result Fired Trap → Fired
outcome b held (Ok fired) = fired
outcome b held (Err trap) = record { frame = record held { halt = Some trap }; outs = silence b }

-- a halted frame remains halted
abbrev pub unless_halted : BehaviourParts → Frame → Option Trap → Result Fired Trap → Fired
unless_halted b held None reacted = outcome b held reacted
unless_halted b held (Some trap) reacted = record { frame = held; outs = silence b }

-- one step at these inputs
unfoldable pub fire : BehaviourParts → Frame → List PortValue → Fired
fire b frame inputs =
    let held : Frame = record frame { held = holding frame.held inputs } in
    unless_halted b held frame.halt (reaction b (map is_present inputs) held)

-- ---- frames
-- the initial frame of a component
abbrev pub initial : BehaviourParts → Frame
initial b =
    record {
      state = b.initial;
      vars = map (λ (v : VarDecl). v.first) b.vars;
      held = replicate (length b.ins) (pos 0);
      halt = None;
    }

-- the frame fits the behaviour: a complete state, and matching numbers of variables and held inputs
pub record HasShape (b : BehaviourParts) (frame : Frame) : Type 0 where
  pub state : IsTrue (may_begin (slice_get b.states frame.state))
  pub vars : length frame.vars ≡ length b.vars
  pub held : length frame.held ≡ length b.ins
