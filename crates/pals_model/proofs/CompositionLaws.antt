-- Why the laws of the composition hold.
use Rattle.std.specs.Prelude.{position}
use Rattle.std.proofs.Common.{◌≡◌, ◌≢◌, ℕ, zero, suc, ◌+◌, ◌&&◌, false, nat_eq, cond, List, [], ◌∷◌, ◌++◌, length, map}
use Rattle.std.proofs.Common.{ap₂, Option, flat_map, replicate, All, Some, None, slice_get, slice_index_or, refl, sym}
use Rattle.std.proofs.Common.{ap, ◌∙◌, arith, append-nil}
use Rattle.std.proofs.lemmas.Bool.{ne_eqb}
use Rattle.std.proofs.lemmas.List.{length-map}
use Rattle.std.proofs.lemmas.List.Elements.{All-map, All-replicate, All-head, All-tail}
use Rattle.std.proofs.lemmas.Option.{slice_get-map, get_or_from_slice_get}
use Rattle.std.specs.Option.{option_map}
use Rattle.std.specs.List.{position_from}
use Rattle.std.proofs.lemmas.Iterator.Adapters.{position_from-zero}
use Rattle.pals_base.proofs.SequencesAndHaltedFrames.{frame_after-append}
use Rattle.pals_base.proofs.UpwardNumbers.{upwards-more}
use Rattle.std.proofs.lemmas.Grind.{flat_map-append}
use Rattle.pals_base.specs.declared.basic_types.PortValue.{PortValue}
use Rattle.pals_base.specs.declared.basic_types.PortValue.TheVariants.{Absent}
use Rattle.pals_base.specs.declared.frames.Frame.{Frame}
use Rattle.pals_base.specs.SingleStep.{initial}
use Rattle.pals_base.specs.StepSequences.{steps, Stepped, frame_after}
use Rattle.pals_base.specs.Tuples.{cut, columns}
use Rattle.pals_base.specs.UpwardNumbers.{upwards}
use Rattle.pals_base.specs.PeriodBoundAndReleases.{sent_steps}
use Rattle.pals_model.specs.declared.design.Component.{Component}
use Rattle.pals_model.specs.declared.design.Link.{Link}
use Rattle.pals_model.specs.declared.design.Tap.{Tap}
use Rattle.pals_model.specs.declared.part.Part.{Part}
use Rattle.pals_model.specs.declared.design.DesignParts.{DesignParts}
use Rattle.pals_model.specs.declared.environment.Env.{Env}
use Rattle.pals_model.specs.ComponentInputs.{values_at, input_vectors, inputs_of, inputs_in, source_of, from_link}
use Rattle.pals_model.specs.ComponentInputs.{from_feed}
use Rattle.pals_model.specs.ComponentInputs.{link_goes_to, feed_goes_to, brought_tuple}
use Rattle.pals_model.specs.PortKindsAndRates.{rate_of, rate_in}
use Rattle.pals_model.specs.Composition.{comp, next, state, msg, no_frame, steps_from, steps_of_round, message_of}
use Rattle.pals_model.specs.Composition.{tuple_in, part, taps_of}
use Rattle.pals_model.specs.proof.CompositionLaws.{own_steps, OneFrameEach, OneMessageEach, StateBegins}
use Rattle.pals_model.specs.proof.CompositionLaws.{LinksBeginAbsent, StateGoesOn, MessageFromSource, PartFromSteps}
use Rattle.pals_model.specs.proof.CompositionLaws.{RunsAlone, DependsOnPast}

-- ---- lengths
pub length-steps_from : (design : DesignParts) (values : List PortValue) (messages : List (List PortValue)) (node : ℕ)
    (cs : List Component) (frames : List Frame) → length frames ≡ length cs
    → length (steps_from design values messages node cs frames) ≡ length cs
length-steps_from design values messages node [] frames same = refl
length-steps_from design values messages node (c ∷ cs) [] same = absurd (omega arith)
length-steps_from design values messages node (c ∷ cs) (frame ∷ frames) same =
    ap suc (length-steps_from design values messages (suc node) cs frames (omega arith))

pub one_frame_each : OneFrameEach
unfolding comp
one_frame_each design env zero = length-map design.components (λ (c : Component). initial c.behaviour)
one_frame_each design env (suc round) =
    length-map (steps_of_round design env round) (λ (s : Stepped). s.frame)
    ∙ length-steps_from design (values_at env round) (comp design env round).messages 0 design.components
    (comp design env round).frames (one_frame_each design env round)

pub one_message_each : OneMessageEach
unfolding comp
one_message_each design env zero =
    length-map design.links (λ (link : Link). replicate (rate_of design link.source.0) Absent)
one_message_each design env (suc round) = length-map design.links (message_of design (steps_of_round design env round))

-- ---- the beginning
pub state_begins : StateBegins
unfolding state comp
state_begins design env node c is_c =
    get_or_from_slice_get (map (λ (d : Component). initial d.behaviour) design.components) node
    (initial c.behaviour) no_frame
    (slice_get-map (λ (d : Component). initial d.behaviour) design.components node
    ∙ ap (option_map (λ (d : Component). initial d.behaviour)) is_c)

pub links_begin_absent : LinksBeginAbsent
unfolding comp
links_begin_absent design env =
    All-map (λ (message : List PortValue). All (λ port. port ≡ Absent) message)
    (λ (link : Link). replicate (rate_of design link.source.0) Absent) design.links
    (λ k d within. All-replicate (λ port. port ≡ Absent) _ Absent refl)

-- before the first round a link is absent throughout
pub link_begins : (design : DesignParts) (env : Env) (l : ℕ) (link : Link) → slice_get design.links l ≡ Some link
    → slice_index_or (comp design env 0).messages l [] ≡ replicate (rate_of design link.source.0) Absent
unfolding comp
link_begins design env l link is =
    let begins : Link → List PortValue = λ (x : Link). replicate (rate_of design x.source.0) Absent in
    get_or_from_slice_get (map begins design.links) l (begins link) []
    (slice_get-map begins design.links l ∙ ap (option_map begins) is)

-- ---- a round
pub steps_from-at : (design : DesignParts) (values : List PortValue) (messages : List (List PortValue)) (first : ℕ)
    (cs : List Component) (frames : List Frame) (k node : ℕ) (c : Component) → node ≡ first + k
    → slice_get cs k ≡ Some c → length frames ≡ length cs
    → slice_get (steps_from design values messages first cs frames) k
    ≡ Some (steps c.behaviour (slice_index_or frames k no_frame) (inputs_of design values messages node c))
steps_from-at design values messages first [] frames k node c at is_c same = absurd (cc)
steps_from-at design values messages first (d ∷ cs) [] k node c at is_c same = absurd (omega arith)
steps_from-at design values messages first (d ∷ cs) (frame ∷ frames) zero node c at is_c same =
    let here : first ≡ node = omega arith in
    let is : d ≡ c = cc in
    ap (λ n. Some (steps d.behaviour frame (inputs_of design values messages n d))) here
    ∙ ap (λ (e : Component). Some (steps e.behaviour frame (inputs_of design values messages node e))) is
steps_from-at design values messages first (d ∷ cs) (frame ∷ frames) (suc k) node c at is_c same =
    steps_from-at design values messages (suc first) cs frames k node c (omega arith) is_c (omega arith)

pub steps_of_round-at : (design : DesignParts) (env : Env) (node round : ℕ) (c : Component)
    → slice_get design.components node ≡ Some c
    → slice_get (steps_of_round design env round) node ≡ Some (own_steps design env node round c)
unfolding state input_vectors
steps_of_round-at design env node round c is_c =
    steps_from-at design (values_at env round) (comp design env round).messages 0 design.components
    (comp design env round).frames node node c (omega arith) is_c (one_frame_each design env round)
    ∙ ap (λ o. Some (steps c.behaviour (state design env node round)
    (inputs_in design (values_at env round) (comp design env round).messages node o))) (sym is_c)

pub state_goes_on : StateGoesOn
unfolding state comp input_vectors
state_goes_on design env node round c is_c =
    get_or_from_slice_get (map (λ (s : Stepped). s.frame) (steps_of_round design env round)) node
    (own_steps design env node round c).frame no_frame
    (slice_get-map (λ (s : Stepped). s.frame) (steps_of_round design env round) node
    ∙ ap (option_map (λ (s : Stepped). s.frame)) (steps_of_round-at design env node round c is_c))

pub message_from_source : MessageFromSource
unfolding msg comp input_vectors state
message_from_source design env number round link c is_link is_c =
    get_or_from_slice_get (map (message_of design (steps_of_round design env round)) design.links) number
    (message_of design (steps_of_round design env round) link) []
    (slice_get-map (message_of design (steps_of_round design env round)) design.links number
    ∙ ap (option_map (message_of design (steps_of_round design env round))) is_link)
    ∙ ap (λ o. cut (sent_steps design.gamma design.period (rate_in o))
    (tuple_in (slice_get (steps_of_round design env round) link.source.0) link.out_port)) is_c
    ∙ ap (λ o. cut (sent_steps design.gamma design.period c.rate) (tuple_in o link.out_port))
    (steps_of_round-at design env link.source.0 round c is_c)

pub part_from_steps : PartFromSteps
unfolding part state comp input_vectors
part_from_steps design env node round c is_c =
    ap₂ (λ (frame : Frame) (outs : List (List PortValue)). let p : Part = record { frame = frame; outs = outs } in p)
    (state_goes_on design env node round c is_c)
    (ap (λ o. map (λ (tap : Tap). tuple_in o tap.out_port) (taps_of design node))
    (steps_of_round-at design env node round c is_c))

-- ---- the past
pub depends_on_past : DependsOnPast
unfolding comp
depends_on_past design env other zero same = refl
depends_on_past design env other (suc round) same =
    ap (λ values. next design values (comp design env round)) (same round (omega arith))
    ∙ ap (next design (values_at other round))
    (depends_on_past design env other round (λ k below. same k (omega arith)))

-- ---- a component by itself
no_link_from : (links : List Link) (node port k : ℕ) → All (λ link. link.target.0 ≢ node) links
    → position_from (link_goes_to node port) k links ≡ None
no_link_from [] node port k apart = refl
no_link_from (link ∷ links) node port k apart =
    let off : nat_eq link.target.0 node ≡ false =
    ne_eqb _ _ (All-head (λ (l : Link). l.target.0 ≢ node) link links apart) in
    ap (λ b. cond (b && nat_eq link.in_port port) (Some k) (position_from (link_goes_to node port) (k + 1) links)) off
    ∙ no_link_from links node port (k + 1) (All-tail (λ (l : Link). l.target.0 ≢ node) link links apart)

no_link_into : (links : List Link) (node port : ℕ) → All (λ link. link.target.0 ≢ node) links
    → position (link_goes_to node port) links ≡ None
no_link_into links node port apart =
    position_from-zero (link_goes_to node port) links ∙ no_link_from links node port 0 apart

-- what a feed or nothing brings has no part in the messages
without_link : (design : DesignParts) (values : List PortValue) (messages : List (List PortValue)) (rate : ℕ)
    (fed : Option ℕ) → brought_tuple design values messages rate (from_feed design fed)
    ≡ brought_tuple design values [] rate (from_feed design fed)
without_link design values messages rate None = refl
without_link design values messages rate (Some input_vectors) = refl

port_alone : (design : DesignParts) (values : List PortValue) (messages : List (List PortValue)) (node rate port : ℕ)
    → All (λ link. link.target.0 ≢ node) design.links
    → brought_tuple design values messages rate (source_of design node port)
    ≡ brought_tuple design values [] rate (source_of design node port)
port_alone design values messages node rate port apart =
    let fed = position (feed_goes_to node port) design.feeds in
    let none : source_of design node port ≡ from_feed design fed =
    ap (λ link. from_link link (from_feed design fed)) (no_link_into design.links node port apart) in
    ap (brought_tuple design values messages rate) none ∙ without_link design values messages rate fed
    ∙ sym (ap (brought_tuple design values [] rate) none)

ports_alone : (design : DesignParts) (values : List PortValue) (messages : List (List PortValue)) (node rate : ℕ)
    → All (λ link. link.target.0 ≢ node) design.links → (ports : List ℕ)
    → map (brought_tuple design values messages rate) (map (λ port. source_of design node port) ports)
    ≡ map (brought_tuple design values [] rate) (map (λ port. source_of design node port) ports)
ports_alone design values messages node rate apart [] = refl
ports_alone design values messages node rate apart (port ∷ ports) =
    ap₂ (λ t ts. t ∷ ts) (port_alone design values messages node rate port apart)
    (ports_alone design values messages node rate apart ports)

inputs_alone : (design : DesignParts) (values : List PortValue) (messages : List (List PortValue)) (node : ℕ)
    (c : Component) → All (λ link. link.target.0 ≢ node) design.links
    → inputs_of design values messages node c ≡ inputs_of design values [] node c
inputs_alone design values messages node c apart =
    ap (columns c.rate) (ports_alone design values messages node c.rate apart (upwards 0 (length c.behaviour.ins)))

feed_alone : (design : DesignParts) (env : Env) (messages : List (List PortValue)) (node round : ℕ) (c : Component)
    → slice_get design.components node ≡ Some c → All (λ link. link.target.0 ≢ node) design.links
    → input_vectors design env messages node round ≡ input_vectors design env [] node round
unfolding input_vectors
feed_alone design env messages node round c is_c apart =
    ap (inputs_in design (values_at env round) messages node) is_c
    ∙ inputs_alone design (values_at env round) messages node c apart
    ∙ ap (inputs_in design (values_at env round) [] node) (sym is_c)

flat_map-upwards : (f : ℕ → List (List PortValue)) (n : ℕ)
    → flat_map f (upwards 0 (suc n)) ≡ flat_map f (upwards 0 n) ++ f n
flat_map-upwards f n =
    let same : 0 + n ≡ n = omega arith in
    ap (flat_map f) (upwards-more 0 n ∙ ap (λ k. upwards 0 n ++ k ∷ []) same)
    ∙ flat_map-append f (upwards 0 n) (n ∷ [])
    ∙ ap (λ last. flat_map f (upwards 0 n) ++ last) (append-nil (f n))

pub runs_alone : RunsAlone
unfolding state
runs_alone design env node zero c is_c apart = state_begins design env node c is_c
runs_alone design env node (suc rounds) c is_c apart =
    let alone : ℕ → List (List PortValue) = λ round. input_vectors design env [] node round in
    let before : List (List PortValue) = flat_map alone (upwards 0 rounds) in
    state_goes_on design env node rounds c is_c
    ∙ ap (frame_after c.behaviour (state design env node rounds))
    (feed_alone design env (comp design env rounds).messages node rounds c is_c apart)
    ∙ ap (λ frame. frame_after c.behaviour frame (alone rounds)) (runs_alone design env node rounds c is_c apart)
    ∙ sym (frame_after-append c.behaviour (initial c.behaviour) before (alone rounds))
    ∙ ap (frame_after c.behaviour (initial c.behaviour)) (sym (flat_map-upwards alone rounds))
