-- Why the laws of shapes hold.
use Rattle.std.proofs.Common.{◌≡◌, ℕ, zero, suc, ◌<◌, nat_eq, List, [], ◌∷◌, length, map, get_or, replicate, Some}
use Rattle.std.proofs.Common.{slice_get, slice_index_or, All, inl, inr, refl, sym, ap, ◌∙◌, subst, arith}
use Rattle.std.proofs.lemmas.Bool.{eqb-true}
use Rattle.std.proofs.lemmas.List.{length-map, length-replicate}
use Rattle.std.proofs.lemmas.List.Elements.{All-weaker, All-map, All-filter, All-get_or, filter_passes}
use Rattle.std.proofs.lemmas.Option.{slice_get-map, slice_get_cases, get_or_from_slice_get}
use Rattle.std.specs.Option.{option_map}
use Rattle.pals_base.specs.declared.basic_types.PortValue.{PortValue}
use Rattle.pals_base.specs.declared.basic_types.PortValue.TheVariants.{Absent}
use Rattle.pals_base.specs.declared.frames.Frame.{Frame}
use Rattle.pals_base.specs.declared.behaviour.BehaviourParts.{BehaviourParts}
use Rattle.pals_base.specs.SingleStep.{fire, HasShape}
use Rattle.pals_base.specs.BehaviourRules.{IsBehaviour}
use Rattle.pals_base.specs.StepSequences.{frame_after, outputs}
use Rattle.pals_base.specs.Tuples.{columns}
use Rattle.pals_base.specs.UpwardNumbers.{upwards}
use Rattle.pals_base.proofs.StepTermination.{fires_well, starts_well}
use Rattle.pals_base.proofs.ColumnsAndCutTuples.{length-columns, length-each_column, length-cut}
use Rattle.pals_base.proofs.UpwardNumbers.{length-upwards}
use Rattle.pals_model.specs.declared.design.Component.{Component}
use Rattle.pals_model.specs.declared.design.Link.{Link}
use Rattle.pals_model.specs.declared.design.Tap.{Tap}
use Rattle.pals_model.specs.declared.design.DesignParts.{DesignParts}
use Rattle.pals_model.specs.declared.environment.Env.{Env}
use Rattle.pals_model.specs.ComponentInputs.{values_at, input_vectors, inputs_of, inputs_in, sources_of, source_of}
use Rattle.pals_model.specs.ComponentInputs.{brought_tuple}
use Rattle.pals_model.specs.PortKindsAndRates.{rate_of, rate_in, outs_in}
use Rattle.pals_model.specs.Composition.{comp, state, msg, taps_of}
use Rattle.pals_model.specs.DesignRules.{IsDesign, IsComponent, IsLink, IsTap}
use Rattle.pals_model.specs.proof.CompositionLaws.{own_steps}
use Rattle.pals_model.specs.proof.CompositionLaws.Shapes.{AreVectors, AreTuples, IsPart, InputsAreVectors}
use Rattle.pals_model.specs.proof.CompositionLaws.Shapes.{StateHasShape}
use Rattle.pals_model.specs.proof.CompositionLaws.Shapes.{StepsGiveTuples, MessageHasRate, WaitingMessageHasRate}
use Rattle.pals_model.specs.proof.CompositionLaws.Shapes.{PartHasShape}
use Rattle.pals_model.proofs.CompositionLaws.{state_begins, state_goes_on, message_from_source, part_from_steps}
use Rattle.pals_model.proofs.FirstMatches.{at_element}

-- ---- columns
pub columns_have_lengths : (n m : ℕ) (lists : List (List PortValue)) → length lists ≡ m
    → All (λ list. length list ≡ m) (columns n lists)
columns_have_lengths n m lists size =
    All-weaker (λ list. length list ≡ length lists) (λ list. length list ≡ m) (λ list is. is ∙ size) (columns n lists)
    (length-each_column n lists)

pub length-outputs : (b : BehaviourParts) (frame : Frame) (vectors : List (List PortValue))
    → length (outputs b frame vectors) ≡ length vectors
length-outputs b frame [] = refl
length-outputs b frame (inputs ∷ vectors) = ap suc (length-outputs b (fire b frame inputs).frame vectors)

pub length-values_at : (env : Env) (round : ℕ) → length (values_at env round) ≡ length env.lists
length-values_at env round = length-map env.lists (λ list. slice_index_or list round Absent)

-- ---- inputs
inputs_are_vectors : (design : DesignParts) (values : List PortValue) (messages : List (List PortValue)) (node : ℕ)
    (c : Component) → AreVectors c (inputs_of design values messages node c)
inputs_are_vectors design values messages node c =
    let ports = upwards 0 (length c.behaviour.ins) in
    let sources = sources_of design node c in
    let size : length (map (brought_tuple design values messages c.rate) sources) ≡ length c.behaviour.ins
    =
    length-map sources (brought_tuple design values messages c.rate)
    ∙ length-map ports (λ port. source_of design node port) ∙ length-upwards 0 (length c.behaviour.ins) in
    record {
      count = length-columns c.rate (map (brought_tuple design values messages c.rate) sources);
      each =
          columns_have_lengths c.rate (length c.behaviour.ins)
          (map (brought_tuple design values messages c.rate) sources) size;
    }

pub feed_has_vectors : InputsAreVectors
unfolding input_vectors
feed_has_vectors design env messages node round c is_c =
    subst (AreVectors c) (sym (ap (inputs_in design (values_at env round) messages node) is_c))
    (inputs_are_vectors design (values_at env round) messages node c)

-- ---- frames
pub steps_keep_shape : (b : BehaviourParts) (frame : Frame) (vectors : List (List PortValue)) → IsBehaviour b
    → HasShape b frame → HasShape b (frame_after b frame vectors)
steps_keep_shape b frame [] rules shape = shape
steps_keep_shape b frame (inputs ∷ vectors) rules shape =
    steps_keep_shape b (fire b frame inputs).frame vectors rules (fires_well b frame inputs rules shape).0

pub is_behaviour : (design : DesignParts) (node : ℕ) (c : Component) → IsDesign design
    → slice_get design.components node ≡ Some c → IsBehaviour c.behaviour
is_behaviour design node c rules is_c =
    let component = at_element (IsComponent design.period) design.components node c rules.components.each is_c in
    component.behaviour

pub state_has_shape : StateHasShape
state_has_shape design env node zero c rules is_c =
    subst (HasShape c.behaviour) (sym (state_begins design env node c is_c))
    (starts_well c.behaviour (is_behaviour design node c rules is_c))
state_has_shape design env node (suc round) c rules is_c =
    subst (HasShape c.behaviour) (sym (state_goes_on design env node round c is_c))
    (steps_keep_shape c.behaviour (state design env node round)
    (input_vectors design env (comp design env round).messages node round) (is_behaviour design node c rules is_c)
    (state_has_shape design env node round c rules is_c))

-- ---- outputs
pub steps_give_tuples : StepsGiveTuples
steps_give_tuples design env node round c is_c =
    let frame = state design env node round in
    let vectors = input_vectors design env (comp design env round).messages node round in
    let outs = outputs c.behaviour frame vectors in
    record {
      count_is = length-columns (length c.behaviour.outs) outs;
      each =
          columns_have_lengths (length c.behaviour.outs) c.rate outs
          (length-outputs c.behaviour frame vectors
          ∙ (feed_has_vectors design env (comp design env round).messages node round c is_c).count);
    }

-- the tuple of an out port
tuple_has_rate : (count rate port : ℕ) (tuples : List (List PortValue)) → AreTuples count rate tuples → port < count
    → length (slice_index_or tuples port []) ≡ rate
tuple_has_rate count rate port tuples are within =
    let within' : port < length tuples = omega (arith, are.count_is) in
    All-get_or (λ tuple. length tuple ≡ rate) tuples port [] within' are.each

pub component_at : (design : DesignParts) (node : ℕ) → node < length design.components
    → (c : Component) × (slice_get design.components node ≡ Some c)
component_at design node within =
    elim (slice_get_cases design.components node).1 [
      | inl there ↦ (there.0, there.2)
      | inr past ↦ absurd (omega (arith, past.0))
    ]

pub message_has_rate : MessageHasRate
message_has_rate design env number round link rules is_link =
    let sound = at_element (IsLink design) design.links number link rules.links.each is_link in
    let from = component_at design link.source.0 sound.source.node_is in
    let within : link.out_port < length from.0.behaviour.outs =
    subst (λ o. link.out_port < outs_in o) from.1 sound.source.port_is in
    ap length (message_from_source design env number round link from.0 is_link from.1)
    ∙ length-cut _ (slice_index_or (own_steps design env link.source.0 round from.0).tuples link.out_port [])
    ∙ tuple_has_rate (length from.0.behaviour.outs) from.0.rate link.out_port
    (own_steps design env link.source.0 round from.0).tuples
    (steps_give_tuples design env link.source.0 round from.0 from.1) within
    ∙ sym (ap rate_in from.1)

pub waiting_message_has_rate : WaitingMessageHasRate
unfolding comp msg
waiting_message_has_rate design env number zero link rules is_link =
    ap length (get_or_from_slice_get (map (λ (l : Link). replicate (rate_of design l.source.0) Absent) design.links)
    number (replicate (rate_of design link.source.0) Absent) []
    (slice_get-map (λ (l : Link). replicate (rate_of design l.source.0) Absent) design.links number
    ∙ ap (option_map (λ (l : Link). replicate (rate_of design l.source.0) Absent)) is_link))
    ∙ length-replicate (rate_of design link.source.0) Absent
waiting_message_has_rate design env number (suc round) link rules is_link =
    message_has_rate design env number round link rules is_link

-- ---- parts
taps_have_tuples : (design : DesignParts) (env : Env) (node round : ℕ) (c : Component) → IsDesign design
    → slice_get design.components node ≡ Some c
    → All (λ tuple. length tuple ≡ c.rate)
    (map (λ (tap : Tap). slice_index_or (own_steps design env node round c).tuples tap.out_port [])
    (taps_of design node))
taps_have_tuples design env node round c rules is_c =
    let tuples = (own_steps design env node round c).tuples in
    let sound = All-filter (λ (tap : Tap). nat_eq tap.source.0 node) (IsTap design) design.taps rules.taps.each in
    let own = filter_passes (λ (tap : Tap). nat_eq tap.source.0 node) design.taps in
    All-map (λ tuple. length tuple ≡ c.rate) (λ (tap : Tap). slice_index_or tuples tap.out_port [])
    (taps_of design node)
    (λ k d within.
    let tap = get_or (taps_of design node) k d in
    let here : tap.source.0 ≡ node = eqb-true tap.source.0 node (own k d within) in
    let inside : tap.out_port < length c.behaviour.outs =
    subst (λ o. tap.out_port < outs_in o) (ap (slice_get design.components) here ∙ is_c)
    (sound k d within).source.port_is in
    tuple_has_rate (length c.behaviour.outs) c.rate tap.out_port tuples
    (steps_give_tuples design env node round c is_c) inside)

pub part_has_shape : PartHasShape
part_has_shape design env node round c rules is_c =
    subst (IsPart design env node round c.rate) (sym (part_from_steps design env node round c is_c))
    (record {
      frame = sym (state_goes_on design env node round c is_c);
      outs =
          record {
            count_is = length-map (taps_of design node) _;
            each = taps_have_tuples design env node round c rules is_c;
          };
    })
