-- The law that steps keep kinds: a step, from its held inputs to its outputs.
use Rattle.std.proofs.Common.{◌≡◌, inl, ℕ, zero, suc, ◌≤◌, nat_eq, nat_lt, ℤ, pos, Bool, true, false, ◌&&◌}
use Rattle.std.proofs.Common.{if◌then◌else◌, List, [], ◌∷◌, length, map, replicate, slice_get, All, Option, Some, None}
use Rattle.std.proofs.Common.{refl, sym, subst, arith}
use Rattle.std.specs.Prelude.{Result, Ok, Err, IfOk, slice_index_or}
use Rattle.std.proofs.lemmas.List.Elements.{All-head, All-tail, All-filter, All-nil, All-cons}
use Rattle.list_lemmas.proofs.ElementPositions.{get_or-replicate_constant}
use Rattle.pals_model.proofs.FirstMatches.{at_element}
use Rattle.pals_base.specs.declared.basic_types.Trap.{Trap}
use Rattle.pals_base.specs.declared.frames.Frame.{Frame}
use Rattle.pals_base.specs.declared.basic_types.PortValue.{PortValue}
use Rattle.pals_base.specs.declared.basic_types.PortValue.TheVariants.{Absent, Present}
use Rattle.pals_base.specs.declared.behaviour.Kind.{Kind}
use Rattle.pals_base.specs.declared.behaviour.Kind.TheVariants.{Integer, Boolean}
use Rattle.pals_base.specs.declared.behaviour.VarDecl.{VarDecl}
use Rattle.pals_base.specs.declared.behaviour.BehaviourParts.{BehaviourParts}
use Rattle.pals_base.specs.Actions.{acts}
use Rattle.pals_base.specs.ExpressionValues.{on_value}
use Rattle.pals_base.specs.SingleStep.{Fired, HasShape, held_of, holding, is_present, silence, is_complete, leaving}
use Rattle.pals_base.specs.SingleStep.{is_dispatch, opens, first_open, along, settled, dispatched, reaction, outcome}
use Rattle.pals_base.specs.SingleStep.{unless_halted, fire, initial}
use Rattle.pals_base.specs.TypingRules.{literal_kinds, are_sound}
use Rattle.pals_base.specs.BehaviourRules.{has_first, has_condition, is_edge, IsBehaviour}
use Rattle.pals_base.specs.StepSequences.{frame_after, outputs}
use Rattle.pals_base.specs.ExpressionAndActionTrees.{Edge}
use Rattle.pals_base.proofs.StepTermination.{fires_well, then_ok}
use Rattle.pals_model.proofs.WordBytes.{all_pass}
use Rattle.pals_model.specs.proof.ValuesFitKinds.{Fits, PortFits, VarsFit, HeldFit, PortsFit, FrameFits}
use Rattle.pals_model.specs.proof.CompositionLaws.Kinds.{FiringFits}
use Rattle.pals_model.proofs.AllElements.{find_fits, if_ok}
use Rattle.pals_model.proofs.ExpressionsFitKinds.{allowed_fits, literal_may}
use Rattle.pals_model.proofs.ActionsKeepKinds.{EffectFits, acts_fit}

-- ---- inputs
held_fits : (kind : Kind) (before : ℤ) (input : PortValue) → Fits kind before → PortFits kind input
    → Fits kind (held_of before input)
held_fits kind before Absent old new = old
held_fits kind before (Present v) old new = new

holding_fits : (kind : Kind) (held : List ℤ) (inputs : List PortValue) (p : ℕ)
    → Fits kind (slice_index_or held p (pos 0))
    → PortFits kind (slice_index_or inputs p Absent) → Fits kind (slice_index_or (holding held inputs) p (pos 0))
holding_fits kind [] inputs p old new = old
holding_fits kind (v ∷ held) [] p old new = old
holding_fits kind (v ∷ held) (input ∷ inputs) zero old new = held_fits kind v input old new
holding_fits kind (v ∷ held) (input ∷ inputs) (suc p) old new = holding_fits kind held inputs p old new

silence_fits : (b : BehaviourParts) → PortsFit b.outs (silence b)
silence_fits b = λ p port is. subst (PortFits port.kind) (sym (get_or-replicate_constant Absent (length b.outs) p)) tt

-- ---- transitions
abbrev IsTyped : BehaviourParts → Edge → Type 0
IsTyped b e = are_sound e.actions b 0 1 ≡ true

edge_is_typed : (b : BehaviourParts) (e : Edge) → is_edge b e ≡ true → IsTyped b e
edge_is_typed b e is =
    four (nat_lt e.source (length b.states)) (nat_lt e.target (length b.states)) (has_condition b e.trigger)
    (are_sound e.actions b 0 1) is
  where
    four : (x y z w : Bool) → (x && y && z && w) ≡ true → w ≡ true
    four true true true w all = all
    four true true false w all = absurd (cc)
    four true false z w all = absurd (cc)
    four false y z w all = absurd (cc)

edges_are_typed : (b : BehaviourParts) → IsBehaviour b → All (IsTyped b) b.transitions
edges_are_typed b rules =
    let edges =
    all_pass (is_edge b) b.transitions rules.edges in
    λ k d within. edge_is_typed b (slice_index_or b.transitions k d) (edges k d within)

leaving_are_typed : (b : BehaviourParts) (state : ℕ) → IsBehaviour b → All (IsTyped b) (leaving b state)
leaving_are_typed b state rules =
    All-filter (λ (e : Edge). nat_eq e.source state) (IsTyped b) b.transitions (edges_are_typed b rules)

-- a transition that is found, if there is one
abbrev IfTyped : BehaviourParts → Option Edge → Type 0
IfTyped b o = (e : Edge) → o ≡ Some e → IsTyped b e

open_by : (b : BehaviourParts) (r : Result Bool Trap) (e : Edge) (rest : Result (Option Edge) Trap) → IsTyped b e
    → IfOk rest (IfTyped b) → IfOk (on_value r (λ open'. if open' then Ok (Some e) else rest)) (IfTyped b)
open_by b (Ok true) e rest here later = λ found is. subst (IsTyped b) (let same : e ≡ found = cc in same) here
open_by b (Ok false) e rest here later = later
open_by b (Err trap) e rest here later = tt

open_typed : (b : BehaviourParts) (es : List Edge) (frame : Frame) (fresh : List Bool) → All (IsTyped b) es
    → IfOk (first_open es frame fresh) (IfTyped b)
open_typed b [] frame fresh all = λ found is. absurd (cc)
open_typed b (e ∷ es) frame fresh all =
    open_by b (opens e.trigger frame fresh) e (first_open es frame fresh) (All-head (IsTyped b) e es all)
    (open_typed b es frame fresh (All-tail (IsTyped b) e es all))

-- ---- a place of a step
record FiredFits (b : BehaviourParts) (at : Fired) : Type 0 where
  many : length b.vars ≤ length at.frame.vars
  vars : VarsFit b at.frame.vars
  held : HeldFit b at.frame.held
  outs : PortsFit b.outs at.outs

along_fits : (b : BehaviourParts) (o : Option Edge) (fresh : List Bool) (at : Fired) → IfTyped b o → FiredFits b at
    → IfOk (along o fresh at) (FiredFits b)
along_fits b None fresh at typed fits = fits
along_fits b (Some e) fresh at typed fits =
    then_ok (EffectFits b) (FiredFits b) (acts e.actions at.frame fresh at.outs) _
    (acts_fit e.actions b 0 1 at.frame fresh at.outs (typed e refl) fits.many fits.vars fits.held fits.outs)
    (λ done so_far. record { many = so_far.many; vars = so_far.vars; held = fits.held; outs = so_far.outs })

settled_fits : (n : ℕ) (b : BehaviourParts) (fresh : List Bool) (at : Fired) → IsBehaviour b → FiredFits b at
    → IfOk (settled n b fresh at) (FiredFits b)
settled_fits zero b fresh at rules fits = fits
settled_fits (suc n) b fresh at rules fits =
    if_ok (FiredFits b) (is_complete b at.frame.state) (Ok at)
    (on_value (first_open (leaving b at.frame.state) at.frame fresh)
    (λ e. on_value (along e fresh at) (λ next. settled n b fresh next))) fits
    (then_ok (IfTyped b) (FiredFits b) (first_open (leaving b at.frame.state) at.frame fresh)
    (λ e. on_value (along e fresh at) (λ next. settled n b fresh next))
    (open_typed b (leaving b at.frame.state) at.frame fresh (leaving_are_typed b at.frame.state rules))
    (λ e typed. then_ok (FiredFits b) (FiredFits b) (along e fresh at) (λ next. settled n b fresh next)
    (along_fits b e fresh at typed fits) (λ next so_far. settled_fits n b fresh next rules so_far)))

reaction_fits : (b : BehaviourParts) (fresh : List Bool) (frame : Frame) → IsBehaviour b
    → length b.vars ≤ length frame.vars → VarsFit b frame.vars → HeldFit b frame.held
    → IfOk (reaction b fresh frame) (FiredFits b)
reaction_fits b fresh frame rules many vars held =
    let at : Fired = record { frame = frame; outs = silence b } in
    then_ok (FiredFits b) (FiredFits b) (along (dispatched b frame.state) fresh at)
    (λ next. settled (length b.states) b fresh next)
    (along_fits b (dispatched b frame.state) fresh at
    (λ e is. find_fits (IsTyped b) (λ (x : Edge). is_dispatch x.trigger) (leaving b frame.state) e
    (leaving_are_typed b frame.state rules) is)
    (record { many = many; vars = vars; held = held; outs = silence_fits b }))
    (λ next fits. settled_fits (length b.states) b fresh next rules fits)

-- ---- a step
abbrev Leaves : BehaviourParts → Fired → Type 0
Leaves b fired = FrameFits b fired.frame × PortsFit b.outs fired.outs

outcome_fits : (b : BehaviourParts) (held : Frame) (r : Result Fired Trap) → VarsFit b held.vars → HeldFit b held.held
    → IfOk r (FiredFits b) → Leaves b (outcome b held r)
outcome_fits b held (Ok fired) vars ins fits = (record { vars = fits.vars; held = fits.held }, fits.outs)
outcome_fits b held (Err trap) vars ins fits = (record { vars = vars; held = ins }, silence_fits b)

unless_fits : (b : BehaviourParts) (held : Frame) (halt : Option Trap) (r : Result Fired Trap) → VarsFit b held.vars
    → HeldFit b held.held → IfOk r (FiredFits b) → Leaves b (unless_halted b held halt r)
unless_fits b held None r vars ins fits = outcome_fits b held r vars ins fits
unless_fits b held (Some trap) r vars ins fits = (record { vars = vars; held = ins }, silence_fits b)

fire_leaves : (b : BehaviourParts) (frame : Frame) (inputs : List PortValue) → IsBehaviour b → HasShape b frame
    → FrameFits b frame → PortsFit b.ins inputs → Leaves b (fire b frame inputs)
unfolding fire
fire_leaves b frame inputs rules shape fits ins =
    let held : Frame = record frame { held = holding frame.held inputs } in
    let size : length frame.vars ≡ length b.vars = shape.vars in
    let many : length b.vars ≤ length frame.vars = omega arith in
    let held_fit : HeldFit b held.held =
    (λ p port is. holding_fits port.kind frame.held inputs p (fits.held p port is) (ins p port is)) in
    unless_fits b held frame.halt (reaction b (map is_present inputs) held) fits.vars held_fit
    (reaction_fits b (map is_present inputs) held rules many fits.vars held_fit)

pub firing_fits : FiringFits
firing_fits b frame inputs rules shape fits ins =
    let leaves =
    fire_leaves b frame inputs rules shape fits ins in record { frame_fits = leaves.0; outs_fit = leaves.1 }

-- ---- several steps
pub frames_fit : (b : BehaviourParts) (frame : Frame) (vectors : List (List PortValue)) → IsBehaviour b
    → HasShape b frame
    → FrameFits b frame → All (PortsFit b.ins) vectors → FrameFits b (frame_after b frame vectors)
frames_fit b frame [] rules shape fits all = fits
frames_fit b frame (inputs ∷ vectors) rules shape fits all =
    frames_fit b (fire b frame inputs).frame vectors rules (fires_well b frame inputs rules shape).0
    (firing_fits b frame inputs rules shape fits (All-head (PortsFit b.ins) inputs vectors all)).frame_fits
    (All-tail (PortsFit b.ins) inputs vectors all)

pub outputs_fit : (b : BehaviourParts) (frame : Frame) (vectors : List (List PortValue)) → IsBehaviour b
    → HasShape b frame
    → FrameFits b frame → All (PortsFit b.ins) vectors → All (PortsFit b.outs) (outputs b frame vectors)
outputs_fit b frame [] rules shape fits all = All-nil (PortsFit b.outs)
outputs_fit b frame (inputs ∷ vectors) rules shape fits all =
    let step = firing_fits b frame inputs rules shape fits (All-head (PortsFit b.ins) inputs vectors all) in
    All-cons (PortsFit b.outs) (fire b frame inputs).outs (outputs b (fire b frame inputs).frame vectors) step.outs_fit
    (outputs_fit b (fire b frame inputs).frame vectors rules (fires_well b frame inputs rules shape).0 step.frame_fits
    (All-tail (PortsFit b.ins) inputs vectors all))

-- ---- the initial frame
zero_fits : (kind : Kind) → Fits kind (pos 0)
zero_fits Integer = tt
zero_fits Boolean = inl refl

zero_at : (n p : ℕ) → slice_index_or (replicate n (pos 0)) p (pos 0) ≡ pos 0
zero_at zero p = refl
zero_at (suc n) zero = refl
zero_at (suc n) (suc p) = zero_at n p

first_at : (kind : Kind) (vars : List VarDecl) (x : ℕ) (v : VarDecl) → slice_get vars x ≡ Some v → Fits kind v.first
    → Fits kind (slice_index_or (map (λ (d : VarDecl). d.first) vars) x (pos 0))
first_at kind [] x v is fits = absurd (cc)
first_at kind (d ∷ vars) zero v is fits = let same : v ≡ d = cc in subst (λ (u : VarDecl). Fits kind u.first) same fits
first_at kind (d ∷ vars) (suc x) v is fits = first_at kind vars x v is fits

pub initial_fits : (b : BehaviourParts) → IsBehaviour b → FrameFits b (initial b)
initial_fits b rules = record {
  vars = λ x v is.
      first_at v.kind b.vars x v is
      (allowed_fits v.kind (literal_kinds v.first) v.first
      (at_element (λ (d : VarDecl). has_first d ≡ true) b.vars x v (all_pass has_first b.vars rules.firsts) is)
      (literal_may v.first));
  held = λ p port is. subst (Fits port.kind) (sym (zero_at (length b.ins) p)) (zero_fits port.kind);
}
