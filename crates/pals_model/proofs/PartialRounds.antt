-- Why the laws of a round that is under way hold.
use Rattle.std.proofs.Common.{◌≡◌, ℕ, zero, suc, ◌<◌, Bool, true, false, List, [], ◌∷◌, ◌++◌, length, map, take, set}
use Rattle.std.proofs.Common.{replicate, slice_get, Some, None, if◌then◌else◌, refl, sym, ap, ap₂, ◌∙◌, arith, IfOk, Ok}
use Rattle.std.proofs.Common.{Err, length-take-le, take_all}
use Rattle.std.specs.Prelude.{Option, Result}
use Rattle.std.proofs.lemmas.Option.{slice_get_within}
use Rattle.pals_base.specs.declared.basic_types.Trap.{Trap}
use Rattle.pals_base.specs.declared.frames.Frame.{Frame}
use Rattle.pals_base.specs.declared.basic_types.PortValue.{PortValue}
use Rattle.pals_base.specs.declared.basic_types.PortValue.TheVariants.{Absent}
use Rattle.pals_base.specs.declared.behaviour.BehaviourParts.{BehaviourParts}
use Rattle.pals_base.specs.ExpressionAndActionTrees.{Edge}
use Rattle.pals_base.specs.ExpressionValues.{on_value}
use Rattle.pals_base.specs.Actions.{acts}
use Rattle.pals_base.specs.SingleStep.{Fired, HasShape, fire, holding, silence, is_present, is_complete, leaving}
use Rattle.pals_base.specs.SingleStep.{first_open, along, settled, dispatched, reaction, outcome, unless_halted}
use Rattle.pals_base.specs.BehaviourRules.{IsBehaviour}
use Rattle.pals_base.specs.StepSequences.{Stepped, steps, frame_after, outputs}
use Rattle.pals_base.specs.Tuples.{so_far, with_places}
use Rattle.pals_base.proofs.StepTermination.{fires_well}
use Rattle.pals_base.proofs.SequencesAndHaltedFrames.{frame_after-append, outputs-append}
use Rattle.pals_base.proofs.PartialRoundTuples.{so_far-none, so_far-one_more, so_far-all}
use Rattle.pals_model.specs.ComponentInputs.{input_vectors}
use Rattle.pals_model.specs.Composition.{comp, state, under_way}
use Rattle.pals_model.specs.proof.CompositionLaws.PartialRounds.{stepped_on, RoundBegins, RoundGoesOn, RoundEnds}
use Rattle.pals_model.specs.proof.CompositionLaws.PartialRounds.{PlacesStay}
use Rattle.pals_model.specs.proof.CompositionLaws.PartialRounds.{TrapIsSilent}
use Rattle.pals_model.proofs.ShapeLaws.{is_behaviour, state_has_shape, feed_has_vectors, length-outputs}
use Rattle.pals_model.proofs.ShapeLaws.{steps_keep_shape}

abbrev as_stepped : Frame → List (List PortValue) → Stepped
as_stepped frame tuples = record { frame = frame; tuples = tuples }

-- ---- steps
begins : (b : BehaviourParts) (frame : Frame) (rate : ℕ)
    → under_way b frame rate [] ≡ as_stepped frame (replicate (length b.outs) (replicate rate Absent))
begins b frame rate = ap (as_stepped frame) (so_far-none (length b.outs) rate)

goes_on : (b : BehaviourParts) (frame : Frame) (rate : ℕ) (vectors : List (List PortValue)) (inputs : List PortValue)
    → IsBehaviour b → HasShape b frame → length vectors < rate
    → under_way b frame rate (vectors ++ inputs ∷ [])
    ≡ stepped_on b (length vectors) inputs (under_way b frame rate vectors)
goes_on b frame rate vectors inputs rules shape within =
    let reached = frame_after b frame vectors in
    let before = outputs b frame vectors in
    let outs = (fire b reached inputs).outs in
    let count : length outs ≡ length b.outs =
    (fires_well b reached inputs rules (steps_keep_shape b frame vectors rules shape)).1 in
    let size : length before ≡ length vectors = length-outputs b frame vectors in
    let within' : length before < rate = omega arith in
    ap₂ as_stepped
    (frame_after-append b frame vectors (inputs ∷ []))
    (ap (so_far (length b.outs) rate) (outputs-append b frame vectors (inputs ∷ []))
    ∙ ap (λ n. so_far n rate (before ++ outs ∷ [])) (sym count)
    ∙ so_far-one_more rate before outs within'
    ∙ ap₂ (λ at n. with_places at outs (so_far n rate before)) size count)

ends : (b : BehaviourParts) (frame : Frame) (vectors : List (List PortValue))
    → under_way b frame (length vectors) vectors ≡ steps b frame vectors
ends b frame vectors =
    ap (as_stepped (frame_after b frame vectors))
    (ap (λ n. so_far (length b.outs) n (outputs b frame vectors)) (sym (length-outputs b frame vectors))
    ∙ so_far-all (length b.outs) (outputs b frame vectors))

-- ---- a component's own round
take_one_more : {X : Type 0} (xs : List X) (n : ℕ) (x : X) → slice_get xs n ≡ Some x
    → take (suc n) xs ≡ take n xs ++ x ∷ []
take_one_more [] n x is = absurd (cc)
take_one_more (y ∷ ys) zero x is = let same : y ≡ x = cc in ap (λ z. z ∷ []) same
take_one_more (y ∷ ys) (suc n) x is = ap (λ zs. y ∷ zs) (take_one_more ys n x is)

pub round_begins : RoundBegins
round_begins design env node round c = begins c.behaviour (state design env node round) c.rate

pub round_goes_on : RoundGoesOn
round_goes_on design env node round c count inputs rules is_c is =
    let frame = state design env node round in
    let vectors = input_vectors design env (comp design env round).messages node round in
    let size : length vectors ≡ c.rate =
    (feed_has_vectors design env (comp design env round).messages node round c is_c).count in
    let within : count < length vectors = slice_get_within vectors count inputs is in
    let taken : length (take count vectors) ≡ count = length-take-le count vectors (omega arith) in
    ap (under_way c.behaviour frame c.rate) (take_one_more vectors count inputs is)
    ∙ goes_on c.behaviour frame c.rate (take count vectors) inputs (is_behaviour design node c rules is_c)
    (state_has_shape design env node round c rules is_c) (omega arith)
    ∙ ap (λ at. stepped_on c.behaviour at inputs (under_way c.behaviour frame c.rate (take count vectors))) taken

pub round_ends : RoundEnds
round_ends design env node round c is_c =
    let frame = state design env node round in
    let vectors = input_vectors design env (comp design env round).messages node round in
    let size : length vectors ≡ c.rate =
    (feed_has_vectors design env (comp design env round).messages node round c is_c).count in
    ap (λ n. under_way c.behaviour frame n (take n vectors)) (sym size)
    ∙ ap (under_way c.behaviour frame (length vectors)) (take_all (length vectors) vectors (omega arith))
    ∙ ends c.behaviour frame vectors

-- ---- places
take_before_set : (at : ℕ) (tuple : List PortValue) (value : PortValue) → take at (set tuple at value) ≡ take at tuple
take_before_set zero tuple value = refl
take_before_set (suc at) [] value = refl
take_before_set (suc at) (p ∷ ps) value = ap (λ qs. p ∷ qs) (take_before_set at ps value)

places_before : (at : ℕ) (values : List PortValue) (tuples : List (List PortValue))
    → map (take at) (with_places at values tuples) ≡ map (take at) tuples
places_before at [] tuples = refl
places_before at (v ∷ vs) [] = refl
places_before at (v ∷ vs) (t ∷ ts) = ap₂ (λ x xs. x ∷ xs) (take_before_set at t v) (places_before at vs ts)

pub places_stay : PlacesStay
places_stay b at inputs before = places_before at (fire b before.frame inputs).outs before.tuples

-- ---- a trap
abbrev KeepsHalt : Option Trap → Result Fired Trap → Type 0
KeepsHalt halt r = IfOk r (λ fired. fired.frame.halt ≡ halt)

value_keeps : {A : Type 0} (halt : Option Trap) (r : Result A Trap) (go : A → Result Fired Trap)
    → ((x : A) → KeepsHalt halt (go x)) → KeepsHalt halt (on_value r go)
value_keeps halt (Ok x) go keeps = keeps x
value_keeps halt (Err trap) go keeps = tt

then_keeps : (halt : Option Trap) (r : Result Fired Trap) (go : Fired → Result Fired Trap) → KeepsHalt halt r
    → ((x : Fired) → x.frame.halt ≡ halt → KeepsHalt halt (go x)) → KeepsHalt halt (on_value r go)
then_keeps halt (Ok x) go is keeps = keeps x is
then_keeps halt (Err trap) go is keeps = tt

along_keeps : (halt : Option Trap) (e : Option Edge) (fresh : List Bool) (at : Fired) → at.frame.halt ≡ halt
    → KeepsHalt halt (along e fresh at)
along_keeps halt None fresh at is = is
along_keeps halt (Some e) fresh at is = value_keeps halt (acts e.actions at.frame fresh at.outs) _ (λ done. is)

if_keeps : (halt : Option Trap) (b : Bool) (x y : Result Fired Trap) → KeepsHalt halt x → KeepsHalt halt y
    → KeepsHalt halt (if b then x else y)
if_keeps halt true x y first second = first
if_keeps halt false x y first second = second

settled_keeps : (halt : Option Trap) (n : ℕ) (b : BehaviourParts) (fresh : List Bool) (at : Fired)
    → at.frame.halt ≡ halt → KeepsHalt halt (settled n b fresh at)
settled_keeps halt zero b fresh at is = is
settled_keeps halt (suc n) b fresh at is =
    if_keeps halt (is_complete b at.frame.state) (Ok at) _ is
    (value_keeps halt (first_open (leaving b at.frame.state) at.frame fresh)
    (λ e. on_value (along e fresh at) (λ next. settled n b fresh next))
    (λ e. then_keeps halt (along e fresh at) (λ next. settled n b fresh next) (along_keeps halt e fresh at is)
    (λ next same. settled_keeps halt n b fresh next same)))

trapped : (b : BehaviourParts) (held : Frame) (r : Result Fired Trap) (trap : Trap) → KeepsHalt None r
    → (outcome b held r).frame.halt ≡ Some trap → (outcome b held r).outs ≡ silence b
trapped b held (Ok fired) trap keeps is = let both : None ≡ Some trap = sym keeps ∙ is in absurd (cc)
trapped b held (Err other) trap keeps is = refl

pub trap_is_silent : TrapIsSilent
unfolding fire
trap_is_silent b frame inputs trap going is =
    let held : Frame = record frame { held = holding frame.held inputs } in
    let fresh = map is_present inputs in
    let reacted = reaction b fresh held in
    let at : Fired = record { frame = held; outs = silence b } in
    let keeps : KeepsHalt None reacted
    =
    then_keeps None (along (dispatched b frame.state) fresh at) (λ next. settled (length b.states) b fresh next)
    (along_keeps None (dispatched b frame.state) fresh at going)
    (λ next same. settled_keeps None (length b.states) b fresh next same) in
    let run : unless_halted b held frame.halt reacted ≡ outcome b held reacted =
    ap (λ h. unless_halted b held h reacted) going in
    ap (λ (f : Fired). f.outs) run ∙ trapped b held reacted trap keeps (sym (ap (λ (f : Fired). f.frame.halt) run) ∙ is)
