-- The laws that each step of a behaviour ends and that paths are short: a step that may begin reaches a complete
-- state.
use Rattle.std.proofs.Common.{◌≡◌, cond, ◌∙◌, ℕ, ◌<◌, zero, suc, nat_eq, nat_lt, ℤ, pos, Bool, true, false, ◌&&◌, ◌||◌}
use Rattle.std.proofs.Common.{if◌then◌else◌, List, [], ◌∷◌, length, map, Option, Some, None, refl, sym, ap, subst}
use Rattle.std.proofs.Common.{arith, Ok, Err}
use Rattle.std.specs.Prelude.{Result, IfOk, slice_get, find, fold}
use Rattle.std.specs.List.{list_all}
use Rattle.std.specs.Option.{unwrap_or, is_some}
use Rattle.std.proofs.lemmas.Bool.{and_parts, ltb-true, true≢false, false≢true}
use Rattle.std.proofs.lemmas.List.{length-map, length-replicate}
use Rattle.std.proofs.lemmas.List.Elements.{All-contains, All-filter}
use Rattle.std.proofs.lemmas.List.Sums.{AllPass-from_list_all, list_all-from_AllPass}
use Rattle.std.proofs.lemmas.Option.{slice_get_within}
use Rattle.pals_base.specs.declared.basic_types.Trap.{Trap}
use Rattle.pals_base.specs.declared.frames.Frame.{Frame}
use Rattle.pals_base.specs.declared.basic_types.PortValue.{PortValue}
use Rattle.pals_base.specs.declared.basic_types.PortValue.TheVariants.{Absent}
use Rattle.pals_base.specs.declared.behaviour.StateDecl.{StateDecl}
use Rattle.pals_base.specs.declared.behaviour.BehaviourParts.{BehaviourParts}
use Rattle.pals_base.specs.ExpressionAndActionTrees.{Edge, Trigger, Dispatch, Always, When}
use Rattle.pals_base.specs.ExpressionValues.{on_value}
use Rattle.pals_base.specs.Actions.{acts}
use Rattle.pals_base.specs.SingleStep.{Fired, HasShape, holding, is_present, silence, completes, may_begin, is_complete}
use Rattle.pals_base.specs.SingleStep.{leaving, is_dispatch, opens, first_open, along, settled, dispatched, reaction}
use Rattle.pals_base.specs.SingleStep.{outcome, unless_halted, fire, initial}
use Rattle.pals_base.specs.TypingRules.{are_sound}
use Rattle.pals_base.specs.BehaviourRules.{has_condition, is_edge, dispatch_count, is_always, ends_unguarded, has_ways}
use Rattle.pals_base.specs.BehaviourRules.{IsWay, IsBehaviour}
use Rattle.pals_base.specs.proof.CycleSearchMarks.{settles}
use Rattle.pals_base.proofs.CycleSearchMarks.{rule_at}
use Rattle.pals_base.proofs.TransitionWaysAndCycles.{incomplete_within, settled_unless_cycle, way_is_short}
use Rattle.pals_base.proofs.EffectLengths.{HasLengths, acts_keeps}

-- ---- lists

found_passes : {A : Type 0} (p : A → Bool) (here : Bool) (x found : A) (rest : Option A) → p x ≡ true
    → (rest ≡ Some found → p found ≡ true) → cond here (Some x) rest ≡ Some found → p found ≡ true
found_passes p true x found rest first later is = subst (λ y. p y ≡ true) (ap (λ o. unwrap_or o x) is) first
found_passes p false x found rest first later is = later is

passed_find : {A : Type 0} (p test : A → Bool) (xs : List A) (found : A) → find test xs ≡ Some found
    → list_all p xs ≡ true → p found ≡ true
passed_find p test [] found is all = absurd (false≢true (ap is_some is))
passed_find p test (x ∷ xs) found is all =
    let both = and_parts (p x) (list_all p xs) all in
    found_passes p (test x) x found (find test xs) both.0 (λ later. passed_find p test xs found later both.1) is

-- ---- states
-- a declared and complete state, by its index
there : (xs : List StateDecl) (i : ℕ) → i < length xs → completes (slice_get xs i) ≡ true
    → may_begin (slice_get xs i) ≡ true
there [] i within complete = absurd (omega arith)
there (x ∷ xs) zero within complete = complete
there (x ∷ xs) (suc i) within complete = there xs i (omega arith) complete

begun : (o : Option StateDecl) → may_begin o ≡ true → (s : StateDecl) × (o ≡ Some s)
begun None begins = absurd (false≢true begins)
begun (Some s) begins = (s, refl)

-- a state in which a step may begin is a declared state
begun_within : (xs : List StateDecl) (i : ℕ) → may_begin (slice_get xs i) ≡ true → i < length xs
begun_within xs i begins = let state = begun (slice_get xs i) begins in slice_get_within xs i state.0 state.1

-- ---- the first enabled transition
abbrev pub is_found : Result (Option Edge) Trap → Bool
is_found (Ok (Some e)) = true
is_found (Ok None) = false
is_found (Err trap) = false

abbrev pub is_fine : Result (Option Edge) Trap → Bool
is_fine (Ok e) = false
is_fine (Err trap) = true

abbrev pub found_or : Edge → Result (Option Edge) Trap → Edge
found_or d (Ok (Some e)) = e
found_or d (Ok None) = d
found_or d (Err trap) = d

goes_on : (r : Result Bool Trap) (e found : Edge) (rest : Result (Option Edge) Trap) (p : Edge → Bool) → p e ≡ true
    → (rest ≡ Ok (Some found) → p found ≡ true)
    → on_value r (λ open'. if open' then Ok (Some e) else rest) ≡ Ok (Some found) → p found ≡ true
goes_on (Ok true) e found rest p here later is = subst (λ y. p y ≡ true) (ap (found_or e) is) here
goes_on (Ok false) e found rest p here later is = later is
goes_on (Err trap) e found rest p here later is = absurd (false≢true (ap is_found is))

-- it is one of the transitions that leave the state
first_passes : (p : Edge → Bool) (es : List Edge) (frame : Frame) (fresh : List Bool) (found : Edge)
    → first_open es frame fresh ≡ Ok (Some found) → list_all p es ≡ true → p found ≡ true
first_passes p [] frame fresh found is all = absurd (false≢true (ap is_found is))
first_passes p (e ∷ es) frame fresh found is all =
    let both = and_parts (p e) (list_all p es) all in
    goes_on (opens e.trigger frame fresh) e found (first_open es frame fresh) p both.0
    (λ later. first_passes p es frame fresh found later both.1) is

none_later : (r : Result Bool Trap) (e : Edge) (rest : Result (Option Edge) Trap)
    → on_value r (λ open'. if open' then Ok (Some e) else rest) ≡ Ok None → rest ≡ Ok None
none_later (Ok true) e rest is = absurd (true≢false (ap is_found is))
none_later (Ok false) e rest is = is
none_later (Err trap) e rest is = absurd (true≢false (ap is_fine is))

always_opens : (t : Trigger) (frame : Frame) (fresh : List Bool) → is_always t ≡ true → opens t frame fresh ≡ Ok true
always_opens Dispatch frame fresh is = absurd (false≢true is)
always_opens Always frame fresh is = refl
always_opens (When e) frame fresh is = absurd (false≢true is)

-- if the last has no guard, one is enabled
one_opens : (es : List Edge) (frame : Frame) (fresh : List Bool) (before : Bool)
    → fold (λ before e. is_always e.trigger) before es ≡ true → first_open es frame fresh ≡ Ok None → before ≡ true
one_opens [] frame fresh before unguarded none = unguarded
one_opens (e ∷ es) frame fresh before unguarded none =
    let rest = first_open es frame fresh in
    let here =
    always_opens e.trigger frame fresh
    (one_opens es frame fresh (is_always e.trigger) unguarded
    (none_later (opens e.trigger frame fresh) e rest none)) in
    absurd (true≢false (ap is_found
    (sym (ap (λ r. on_value r (λ open'. if open' then Ok (Some e) else rest)) here) ∙ none)))

-- ---- a place of a step
pub then_ok : {A B : Type 0} (P : A → Type 0) (Q : B → Type 0) (r : Result A Trap) (go : A → Result B Trap) → IfOk r P
    → ((x : A) → P x → IfOk (go x) Q) → IfOk (on_value r go) Q
then_ok P Q (Ok x) go has keeps = keeps x has
then_ok P Q (Err trap) go has keeps = tt

abbrev pub HasSizes : BehaviourParts → Fired → Type 0
HasSizes b at =
    (length at.frame.vars ≡ length b.vars) × (length at.frame.held ≡ length b.ins) × (length at.outs ≡ length b.outs)

abbrev pub Ends : BehaviourParts → Fired → Type 0
Ends b at = (at.frame.state < length b.states) × (is_complete b at.frame.state ≡ true) × HasSizes b at

abbrev pub Arrives : BehaviourParts → Edge → Fired → Type 0
Arrives b e next = (next.frame.state ≡ e.target) × HasSizes b next

arrives : (b : BehaviourParts) (e : Edge) (fresh : List Bool) (at : Fired) → HasSizes b at
    → IfOk (along (Some e) fresh at) (Arrives b e)
arrives b e fresh at sizes =
    then_ok (HasLengths (length b.vars) (length b.outs)) (Arrives b e) (acts e.actions at.frame fresh at.outs) _
    (acts_keeps (length b.vars) (length b.outs) e.actions at.frame fresh at.outs sizes.0 sizes.2)
    (λ done has. (refl, (has.0, sizes.1, has.1)))

-- the target of a well-formed transition is declared
target_within : (b : BehaviourParts) (e : Edge) → is_edge b e ≡ true → e.target < length b.states
target_within b e sound =
    let n = length b.states in
    let ends = nat_lt e.source n && nat_lt e.target n in
    let typed =
    and_parts ends (has_condition b e.trigger)
    (and_parts (ends && has_condition b e.trigger) (are_sound e.actions b 0 1) sound).0 in
    ltb-true e.target n (and_parts (nat_lt e.source n) (nat_lt e.target n) typed.0).1

pub leaving_sound : (b : BehaviourParts) (s : ℕ) → IsBehaviour b → list_all (is_edge b) (leaving b s) ≡ true
leaving_sound b s rules' =
    list_all-from_AllPass (is_edge b) (leaving b s)
    (All-filter (λ e. nat_eq e.source s) (λ e. is_edge b e ≡ true) b.transitions
    (AllPass-from_list_all (is_edge b) b.transitions rules'.edges))

moves : (n : ℕ) (b : BehaviourParts) (fresh : List Bool) (at : Fired) (r : Result (Option Edge) Trap) → IsBehaviour b
    → HasSizes b at
    → list_all (λ e. settles n b e.target) (leaving b at.frame.state) ≡ true
    → ends_unguarded (leaving b at.frame.state) ≡ true
    → ((next : Fired) → settles n b next.frame.state ≡ true → next.frame.state < length b.states → HasSizes b next
    → IfOk (settled n b fresh next) (Ends b))
    → first_open (leaving b at.frame.state) at.frame fresh ≡ r
    → IfOk (on_value r (λ e. on_value (along e fresh at) (λ next. settled n b fresh next))) (Ends b)
moves n b fresh at (Err trap) rules' sizes settle unguarded again is = tt
moves n b fresh at (Ok None) rules' sizes settle unguarded again is =
    absurd (false≢true (one_opens (leaving b at.frame.state) at.frame fresh false unguarded is))
moves n b fresh at (Ok (Some e)) rules' sizes settle unguarded again is =
    let here = first_passes (λ e. settles n b e.target) (leaving b at.frame.state) at.frame fresh e is settle in
    let within =
    target_within b e (first_passes (is_edge b) (leaving b at.frame.state) at.frame fresh e is
    (leaving_sound b at.frame.state rules')) in
    then_ok (Arrives b e) (Ends b) (along (Some e) fresh at) (λ next. settled n b fresh next)
    (arrives b e fresh at sizes)
    (λ next came. again next (ap (settles n b) came.0 ∙ here)
    (subst (λ k. k < length b.states) (sym came.0) within) came.1)

rests : (n : ℕ) (b : BehaviourParts) (fresh : List Bool) (at : Fired) (complete : Bool) → IsBehaviour b
    → is_complete b at.frame.state ≡ complete → settles (suc n) b at.frame.state ≡ true
    → at.frame.state < length b.states → HasSizes b at
    → ((next : Fired) → settles n b next.frame.state ≡ true → next.frame.state < length b.states → HasSizes b next
    → IfOk (settled n b fresh next) (Ends b))
    → IfOk (if complete then Ok at else on_value (first_open (leaving b at.frame.state) at.frame fresh)
    (λ e. on_value (along e fresh at) (λ next. settled n b fresh next))) (Ends b)
rests n b fresh at true rules' is settle within sizes again = (within, is, sizes)
rests n b fresh at false rules' is settle within sizes again =
    let s = at.frame.state in
    let ways : has_ways b s ≡ true = rule_at (has_ways b) (length b.states) s rules'.ways within in
    let after : list_all (λ e. settles n b e.target) (leaving b s)
    ≡ true = ap (λ c. c || list_all (λ e. settles n b e.target) (leaving b s)) (sym is) ∙ settle in
    let on : (nat_eq (dispatch_count (leaving b s)) 0 && ends_unguarded (leaving b s)) ≡ true
    =
    ap (λ c. if c then nat_eq (dispatch_count (leaving b s)) 1 else nat_eq (dispatch_count (leaving b s)) 0
    && ends_unguarded (leaving b s)) (sym is) ∙ ways in
    moves n b fresh at (first_open (leaving b s) at.frame fresh) rules' sizes after
    (and_parts _ (ends_unguarded (leaving b s)) on).1 again refl

settled_ends : (n : ℕ) (b : BehaviourParts) (fresh : List Bool) (at : Fired) → IsBehaviour b
    → settles n b at.frame.state ≡ true → at.frame.state < length b.states → HasSizes b at
    → IfOk (settled n b fresh at) (Ends b)
settled_ends zero b fresh at rules' settle within sizes = (within, settle, sizes)
settled_ends (suc n) b fresh at rules' settle within sizes =
    rests n b fresh at (is_complete b at.frame.state) rules' refl settle within sizes
    (λ next here inside has. settled_ends n b fresh next rules' here inside has)

-- ---- a whole step
dispatches : (b : BehaviourParts) (fresh : List Bool) (at : Fired) (e : Option Edge) → IsBehaviour b
    → at.frame.state < length b.states → HasSizes b at → dispatched b at.frame.state ≡ e
    → IfOk (on_value (along e fresh at) (λ next. settled (length b.states) b fresh next)) (Ends b)
dispatches b fresh at None rules' within sizes is =
    settled_ends (length b.states) b fresh at rules' (settled_unless_cycle b at.frame.state rules'.acyclic) within sizes
dispatches b fresh at (Some e) rules' within sizes is =
    let inside =
    target_within b e (passed_find (is_edge b) (λ e. is_dispatch e.trigger) (leaving b at.frame.state) e is
    (leaving_sound b at.frame.state rules')) in
    let settle = settled_unless_cycle b e.target rules'.acyclic in
    then_ok (Arrives b e) (Ends b) (along (Some e) fresh at) (λ next. settled (length b.states) b fresh next)
    (arrives b e fresh at sizes)
    (λ next came. settled_ends (length b.states) b fresh next rules' (ap (settles (length b.states) b) came.0 ∙ settle)
    (subst (λ k. k < length b.states) (sym came.0) inside) came.1)

length-holding : (held : List ℤ) (inputs : List PortValue) → length (holding held inputs) ≡ length held
length-holding [] inputs = refl
length-holding (v ∷ held) [] = refl
length-holding (v ∷ held) (input ∷ inputs) = ap suc (length-holding held inputs)

abbrev pub FiredWell : BehaviourParts → Fired → Type 0
FiredWell b fired = HasShape b fired.frame × (length fired.outs ≡ length b.outs)

ended : (b : BehaviourParts) (held : Frame) (r : Result Fired Trap) → HasShape b held → IfOk r (Ends b)
    → FiredWell b (outcome b held r)
ended b held (Ok fired) shape ends =
    (record { state = there b.states fired.frame.state ends.0 ends.1; vars = ends.2.0; held = ends.2.1 }, ends.2.2)
ended b held (Err trap) shape ends =
    (record { state = shape.state; vars = shape.vars; held = shape.held }, length-replicate (length b.outs) Absent)

halted_or : (b : BehaviourParts) (held : Frame) (halt : Option Trap) (r : Result Fired Trap) → HasShape b held
    → IfOk r (Ends b) → FiredWell b (unless_halted b held halt r)
halted_or b held None r shape ends = ended b held r shape ends
halted_or b held (Some trap) r shape ends = (shape, length-replicate (length b.outs) Absent)

pub fires_well : (b : BehaviourParts) (frame : Frame) (inputs : List PortValue) → IsBehaviour b → HasShape b frame
    → FiredWell b (fire b frame inputs)
unfolding fire
fires_well b frame inputs rules' shape =
    let held : Frame = record frame { held = holding frame.held inputs } in
    let held_shape : HasShape b held =
    record { state = shape.state; vars = shape.vars; held = length-holding frame.held inputs ∙ shape.held } in
    let at : Fired = record { frame = held; outs = silence b } in
    let within = begun_within b.states frame.state shape.state in
    halted_or b held frame.halt (reaction b (map is_present inputs) held) held_shape
    (dispatches b (map is_present inputs) at (dispatched b frame.state) rules' within
    (shape.vars, held_shape.held, length-replicate (length b.outs) Absent) refl)

pub starts_well : (b : BehaviourParts) → IsBehaviour b → HasShape b (initial b)
starts_well b rules' =
    record {
      state = rules'.initial;
      vars = length-map b.vars (λ v. v.first);
      held = length-replicate (length b.ins) (pos 0);
    }

-- ---- paths
way_within : (b : BehaviourParts) (n s t : ℕ) → IsBehaviour b → s < length b.states → IsWay b n s t
    → t < length b.states
way_within b zero s t rules' within way = subst (λ x. x < length b.states) way within
way_within b (suc n) s t rules' within way =
    let e = way.1.0 in
    way_within b n e.target t rules'
    (target_within b e (All-contains (λ e. is_edge b e ≡ true) (leaving b s) e
    (AllPass-from_list_all (is_edge b) (leaving b s) (leaving_sound b s rules')) way.1.1)) way.1.2

pub ways_are_short : (b : BehaviourParts) (s t n : ℕ) → IsBehaviour b → IsWay b n s t → n < length b.states
ways_are_short b s t zero rules' way =
    let within = begun_within b.states b.initial rules'.initial in
    omega arith
ways_are_short b s t (suc n) rules' way =
    way_is_short b (suc n) s t rules'.acyclic (way_within b (suc n) s t rules' (incomplete_within b s way.0) way) way
