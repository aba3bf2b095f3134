-- The values of a ring's variables are small, and what they add up to in a world in which all nodes are done.
use Rattle.std.proofs.Common.{◌≡◌, ◌≢◌, ℕ, zero, suc, ◌+◌, ◌*◌, ◌<◌, ◌≤◌, nat_eq, ℤ, pos, ◌+ℤ◌, ◌≤ℤ◌, ◌<ℤ◌, inl, inr}
use Rattle.std.proofs.Common.{Bool, true, false, cond, List, [], ◌∷◌, length, map, Option, Some, None, Ok, Err, All}
use Rattle.std.proofs.Common.{refl, sym, ap, ◌∙◌, subst, arith}
use Rattle.std.specs.Prelude.{Result, IfOk, find, fold, sum_by, slice_index_or, slice_set, if◌then◌else◌}
use Rattle.std.proofs.lemmas.Int.{ints}
use Rattle.std.proofs.lemmas.List.Elements.{All-nil, All-cons, All-head, All-tail, All-map}
use Rattle.std.proofs.lemmas.List.{get_or_past}
use Rattle.std.proofs.lemmas.List.Sums.{sum_by-cons}
use Rattle.std.proofs.lemmas.Bool.{cases_lt, false≢true}
use Rattle.pals_base.specs.declared.basic_types.Trap.{Trap}
use Rattle.pals_base.specs.declared.frames.Frame.{Frame}
use Rattle.pals_base.specs.declared.basic_types.PortValue.{PortValue}
use Rattle.pals_base.specs.ExpressionValues.{eval, on_value}
use Rattle.pals_base.specs.Arithmetic.{modulus_of}
use Rattle.pals_base.specs.Actions.{Effect, acts, with_vars}
use Rattle.pals_base.specs.ExpressionAndActionTrees.{Edge, Emit, Variable, Do, Nothing, Actions}
use Rattle.pals_base.specs.SingleStep.{Fired, holding, is_present, silence, is_dispatch, is_complete, along, settled}
use Rattle.pals_base.specs.SingleStep.{dispatched, reaction, unless_halted, fire, initial}
use Rattle.pals_base.specs.StepSequences.{Stepped, frame_after, steps}
use Rattle.pals_base.specs.UpwardNumbers.{upwards}
use Rattle.pals_base.proofs.RemaindersAndModuli.{modulus_of-is}
use Rattle.pals_base.proofs.UpwardNumbers.{slice_get-map_upwards, get_or-map_upwards, map_upwards_same}
use Rattle.pals_model.specs.declared.design.Component.{Component}
use Rattle.pals_model.specs.declared.design.DesignParts.{DesignParts}
use Rattle.pals_model.specs.ComponentInputs.{no_env, inputs_of, values_at}
use Rattle.pals_model.specs.Composition.{steps_from, comp, state, no_frame}
use Rattle.pals_model.specs.declared.design.Link.{Link}
use Rattle.pals_runs.specs.declared.phase.Phase.{Phase}
use Rattle.pals_runs.specs.declared.phase.Phase.TheVariants.{Done}
use Rattle.bus_machine.specs.Nodes.{NodeState, round_of, sent_rounds}
use Rattle.bus_machine.specs.BusStates.{BusState, node_at}
use Rattle.bus_machine.specs.Plans.{link_at, no_link}
use Rattle.bus_machine.specs.RunParameters.{Run}
use Rattle.bus_machine.specs.MissedMessages.{rounds_sent_on}
use Rattle.bus_machine.specs.Agreement.{IsAtRest, PhaseAgrees, Agrees}
use Rattle.world_gen.specs.Rings.{number_sum, next_number, ring_actions, ring_edge, ring_behaviour, before_in}
use Rattle.world_gen.specs.Rings.{ring_component, ring_link, ring, ring_number}
use Rattle.world_gen.specs.proof.RingLaws.{RingNumbersAreSmall, ring_run, number_at, IsRingDone, DoneRingsAddUp}
use Rattle.world_gen.proofs.TabulatedLists.{numbered_all}
use Rattle.world_gen.proofs.RingDesigns.{before_below}

-- ---- the remainder modulo 1000
abbrev IsSmall : ℤ → Type 0
IsSmall x = (pos 0 ≤ℤ x) × (x <ℤ pos 1000)

small_of : (sum : Result ℤ Trap) → IfOk (on_value sum (λ s. modulus_of s (pos 1000))) IsSmall
small_of (Err trap) = tt
small_of (Ok s) =
    let other : pos 1000 ≢ pos 0 = λ same. cc in
    let left = modulus_of-is s (pos 1000) other in
    left.above_0 (omega (arith, ints))

next_small : (frame : Frame) (fresh : List Bool) → IfOk (eval next_number frame fresh) IsSmall
next_small frame fresh = small_of (eval number_sum frame fresh)

-- ---- one step
-- o!(x)
abbrev emitting : Actions
emitting = Do (Emit 0 (Variable 0)) Nothing

-- the only variable is small
record HasSmall (vars : List ℤ) : Type 0 where
  number : ℤ
  only : vars ≡ number ∷ []
  small : IsSmall number

abbrev FiresSmall : Fired → Type 0
FiresSmall fired = HasSmall fired.frame.vars

set_small : (vars : List ℤ) (x : ℤ) → HasSmall vars → IsSmall x → HasSmall (slice_set vars 0 x)
set_small vars x before small = record { number = x; only = ap (λ vs. slice_set vs 0 x) before.only; small = small }

assigned_small : (r : Result ℤ Trap) (frame : Frame) (fresh : List Bool) (outs : List PortValue) → HasSmall frame.vars
    → IfOk r IsSmall
    → IfOk (on_value (on_value r (λ v. Ok (record { vars = slice_set frame.vars 0 v; outs = outs })))
    (λ (e : Effect). acts emitting (with_vars frame e.vars) fresh e.outs)) (λ (e : Effect). HasSmall e.vars)
assigned_small (Err trap) frame fresh outs before small = tt
assigned_small (Ok x) frame fresh outs before small = set_small frame.vars x before small

acts_small : (frame : Frame) (fresh : List Bool) (outs : List PortValue) → HasSmall frame.vars
    → IfOk (acts ring_actions frame fresh outs) (λ (e : Effect). HasSmall e.vars)
acts_small frame fresh outs before =
    assigned_small (eval next_number frame fresh) frame fresh outs before (next_small frame fresh)

moved_small : (r : Result Effect Trap) (frame : Frame) → IfOk r (λ (e : Effect). HasSmall e.vars)
    → IfOk (on_value r (λ (done : Effect).
    Ok (record { frame = record frame { state = 0; vars = done.vars }; outs = done.outs }))) FiresSmall
moved_small (Err trap) frame small = tt
moved_small (Ok e) frame small = small

-- along the transition, if the state has it
along_small : (leaves : Bool) (fresh : List Bool) (at : Fired) → FiresSmall at
    → IfOk (along (find (λ (e : Edge). is_dispatch e.trigger) (cond leaves (ring_edge ∷ []) [])) fresh at) FiresSmall
along_small true fresh at before =
    moved_small (acts ring_actions at.frame fresh at.outs) at.frame (acts_small at.frame fresh at.outs before)
along_small false fresh at before = before

completes_all : (state : ℕ) → is_complete ring_behaviour state ≡ true
completes_all zero = refl
completes_all (suc state) = refl

if_complete : (complete : Bool) (at : Fired) (other : Result Fired Trap) → complete ≡ true → FiresSmall at
    → IfOk (if complete then Ok at else other) FiresSmall
if_complete true at other is before = before
if_complete false at other is before = absurd (false≢true is)

then_small : (r : Result Fired Trap) (fresh : List Bool) → IfOk r FiresSmall
    → IfOk (on_value r (λ (at : Fired). settled (length ring_behaviour.states) ring_behaviour fresh at)) FiresSmall
then_small (Err trap) fresh small = tt
then_small (Ok at) fresh small =
    if_complete (is_complete ring_behaviour at.frame.state) at _ (completes_all at.frame.state) small

unless_small : (held : Frame) (halt : Option Trap) (r : Result Fired Trap) → HasSmall held.vars → IfOk r FiresSmall
    → FiresSmall (unless_halted ring_behaviour held halt r)
unless_small held None (Ok fired) before small = small
unless_small held None (Err trap) before small = before
unless_small held (Some trap) r before small = before

fires_small : (frame : Frame) (inputs : List PortValue) → HasSmall frame.vars
    → FiresSmall (fire ring_behaviour frame inputs)
unfolding fire
fires_small frame inputs before =
    let held : Frame = record frame { held = holding frame.held inputs } in
    let fresh = map is_present inputs in
    let at : Fired = record { frame = held; outs = silence ring_behaviour } in
    unless_small held frame.halt (reaction ring_behaviour fresh held) before
    (then_small (along (dispatched ring_behaviour held.state) fresh at) fresh
    (along_small (nat_eq 0 held.state) fresh at before))

-- ---- rounds
after_small : (vectors : List (List PortValue)) (frame : Frame) → HasSmall frame.vars
    → HasSmall (frame_after ring_behaviour frame vectors).vars
after_small [] frame before = before
after_small (inputs ∷ vectors) frame before =
    after_small vectors (fire ring_behaviour frame inputs).frame (fires_small frame inputs before)

abbrev IsRinging : Component → Type 0
IsRinging c = c.behaviour ≡ ring_behaviour

steps_small : (design : DesignParts) (values : List PortValue) (messages : List (List PortValue)) (node : ℕ)
    (components : List Component) (frames : List Frame)
    → All IsRinging components → All (λ (f : Frame). HasSmall f.vars) frames
    → All (λ (s : Stepped). HasSmall s.frame.vars) (steps_from design values messages node components frames)
steps_small design values messages node [] frames ring before = All-nil (λ (s : Stepped). HasSmall s.frame.vars)
steps_small design values messages node (c ∷ cs) [] ring before = All-nil (λ (s : Stepped). HasSmall s.frame.vars)
steps_small design values messages node (c ∷ cs) (frame ∷ frames) ring before =
    let P : Frame → Type 0 = λ f. HasSmall f.vars in
    let vectors = inputs_of design values messages node c in
    let here : HasSmall (frame_after c.behaviour frame vectors).vars =
    subst (λ b. HasSmall (frame_after b frame vectors).vars) (sym (All-head IsRinging c cs ring))
    (after_small vectors frame (All-head P frame frames before)) in
    All-cons (λ (s : Stepped). HasSmall s.frame.vars) (steps c.behaviour frame vectors)
    (steps_from design values messages (suc node) cs frames) here
    (steps_small design values messages (suc node) cs frames (All-tail IsRinging c cs ring)
    (All-tail P frame frames before))

all_small : (n rounds : ℕ) → All (λ (f : Frame). HasSmall f.vars) (comp (ring n) no_env rounds).frames
unfolding comp
all_small n zero =
    All-map (λ (f : Frame). HasSmall f.vars) (λ (c : Component). initial c.behaviour) (ring n).components
    (numbered_all (λ (c : Component). HasSmall (initial c.behaviour).vars) ring_component n
    (λ k below. record { number = pos 0; only = refl; small = (omega (arith, ints), omega (arith, ints)) }))
all_small n (suc rounds) =
    let before = comp (ring n) no_env rounds in
    All-map (λ (f : Frame). HasSmall f.vars) (λ (s : Stepped). s.frame)
    (steps_from (ring n) (values_at no_env rounds) before.messages 0 (ring n).components before.frames)
    (steps_small (ring n) (values_at no_env rounds) before.messages 0 (ring n).components before.frames
    (numbered_all IsRinging ring_component n (λ k below. refl)) (all_small n rounds))

number_small : (vars : List ℤ) → HasSmall vars → IsSmall (slice_index_or vars 0 (pos 0))
number_small vars has = subst IsSmall (sym (ap (λ vs. slice_index_or vs 0 (pos 0)) has.only)) has.small

zero_small : IsSmall (pos 0)
zero_small = (omega (arith, ints), omega (arith, ints))

pub ring_numbers_are_small : RingNumbersAreSmall
unfolding state
ring_numbers_are_small n rounds node =
    let frames = (comp (ring n) no_env rounds).frames in
    elim (cases_lt node (length frames)) [
      | inl within ↦ number_small (slice_index_or frames node no_frame).vars (all_small n rounds node no_frame within)
      | inr past ↦
          let none : slice_index_or frames node no_frame ≡ no_frame = get_or_past frames node no_frame past in
          subst (λ (f : Frame). IsSmall (slice_index_or f.vars 0 (pos 0))) (sym none) zero_small
    ]

-- ---- a ring in a world
sum_from : (f : ℕ → ℕ) (each from n count : ℕ) → from + n ≡ count → ((j : ℕ) → j < count → f j ≡ each)
    → sum_by f (upwards from n) ≡ n * each
sum_from f each from zero count is same = omega arith
sum_from f each from (suc n) count is same =
    let first = same from (omega arith) in
    let rest = sum_from f each (suc from) n count (omega arith) same in
    let parts = sum_by-cons f from (upwards (suc from) n) in
    omega arith

record IsAtEnd (run : Run) (node : ℕ) (n : NodeState) : Type 0 where
  frame : n.frame ≡ state run.design run.env node run.rounds
  sent : sent_rounds n ≡ run.rounds

at_end : (run : Run) (node : ℕ) (c : Component) (n : NodeState) (p : Phase) → p ≡ Done → PhaseAgrees run node c n p
    → IsAtEnd run node n
at_end run node c n p is agrees =
    let rest : IsAtRest run node n × (n.count ≡ run.rounds) = subst (PhaseAgrees run node c n) is agrees in
    record {
      frame = rest.0.frame ∙ ap (state run.design run.env node) rest.1;
      sent = ap (λ b. if b then n.count else round_of n) rest.0.sent ∙ rest.1;
    }

module _ (n rounds : ℕ) (bus : BusState) (some : 2 ≤ n) (agrees : Agrees (ring_run n rounds) bus)
    (done : (node : ℕ) → node < n → (node_at bus node).phase ≡ Done) where
  node_ends : (node : ℕ) → node < n → IsAtEnd (ring_run n rounds) node (node_at bus node)
  node_ends node below =
      let n_agrees = agrees.nodes node (ring_component node) (slice_get-map_upwards ring_component n node below) in
      at_end (ring_run n rounds) node (ring_component node) (node_at bus node) (node_at bus node).phase
      (done node below) n_agrees.phase

  number_is : (node : ℕ) → node < n → number_at bus node ≡ ring_number n rounds node
  number_is node below = ap (λ (f : Frame). slice_index_or f.vars 0 (pos 0)) (node_ends node below).frame

  sent_on : (link : ℕ) → link < n → rounds_sent_on (ring_run n rounds) bus link ≡ rounds
  sent_on link below =
      let is : link_at (ring n) link ≡ ring_link n link = get_or-map_upwards (ring_link n) n link no_link below in
      ap (λ (l : Link). sent_rounds (node_at bus l.source.0)) is
      ∙ (node_ends (before_in n link) (before_below n link some below)).sent

  ring_is_done : IsRingDone n rounds bus
  ring_is_done = record {
    sum = ap (fold ◌+ℤ◌ (pos 0)) (map_upwards_same (number_at bus) (ring_number n rounds) 0 n
        (λ node above below. number_is node (omega arith)));
    messages = sum_from (rounds_sent_on (ring_run n rounds) bus) rounds 0 n n (omega arith) sent_on;
  }

pub done_rings_add_up : DoneRingsAddUp
done_rings_add_up n rounds bus some agrees done = ring_is_done n rounds bus some agrees done
