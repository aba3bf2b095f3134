-- In a renumbered design, the components are in the same states after each round, and links carry the same messages.
use Rattle.std.proofs.Common.{◌≡◌, ◌∙◌, ℕ, zero, suc, ◌<◌, nat_eq, List, [], ◌∷◌, map, filter, length, replicate, Some}
use Rattle.std.proofs.Common.{slice_get, slice_index_or, refl, sym, ap, ap₂}
use Rattle.std.proofs.lemmas.List.Elements.{All-weaker}
use Rattle.std.proofs.lemmas.Option.{slice_get_within}
use Rattle.pals_base.specs.declared.basic_types.PortValue.{PortValue}
use Rattle.pals_base.specs.declared.basic_types.PortValue.TheVariants.{Absent}
use Rattle.pals_base.specs.declared.frames.Frame.{Frame}
use Rattle.pals_base.specs.declared.period_bound_and_releases.Gamma.{Gamma}
use Rattle.pals_base.specs.PeriodBoundAndReleases.{sent_steps}
use Rattle.pals_base.specs.StepSequences.{Stepped, steps}
use Rattle.pals_base.specs.Tuples.{cut, columns}
use Rattle.pals_base.specs.UpwardNumbers.{upwards}
use Rattle.pals_model.specs.declared.design.Component.{Component}
use Rattle.pals_model.specs.declared.design.Link.{Link}
use Rattle.pals_model.specs.declared.design.Tap.{Tap}
use Rattle.pals_model.specs.declared.design.DesignParts.{DesignParts}
use Rattle.pals_model.specs.declared.environment.Env.{Env}
use Rattle.pals_model.specs.declared.part.Part.{Part}
use Rattle.pals_model.specs.ComponentInputs.{values_at, source_of, brought_tuple, inputs_in, input_vectors}
use Rattle.pals_model.specs.Composition.{comp, state, msg, part, taps_of}
use Rattle.pals_model.specs.DesignRules.{IsDesign, IsLink, IsTap}
use Rattle.pals_model.specs.proof.CompositionLaws.{own_steps}
use Rattle.pals_model.proofs.FirstMatches.{at_element}
use Rattle.pals_model.proofs.ShapeLaws.{component_at}
use Rattle.pals_model.proofs.CompositionLaws.{state_begins, state_goes_on, message_from_source, part_from_steps}
use Rattle.pals_model.proofs.CompositionLaws.{link_begins}
use Rattle.sync_product.specs.proof.RenumberedDesigns.{renumbered_link, renumbered_tap, IsRenumbered, AreSameInputs}
use Rattle.sync_product.proofs.RenumberedDesigns.{component_there, rate_there}
use Rattle.sync_product.proofs.RenumberedInputs.{SameMessages, brings}
use Rattle.sync_product.proofs.RenumberedTaps.{shown, same_shown}

abbrev part_with : Frame → List (List PortValue) → Part
part_with frame outs = record { frame = frame; outs = outs }

module _ (to : ℕ → ℕ) (a b : DesignParts) (sound_a : IsDesign a) (sound_b : IsDesign b) (r : IsRenumbered to a b)
    (env_a env_b : Env) (inputs : AreSameInputs a b env_a env_b) where
  abbrev SameStates : ℕ → Type 0
  SameStates round = (node : ℕ) → node < length a.components → state b env_b (to node) round ≡ state a env_a node round

  abbrev SameWaiting : ℕ → Type 0
  SameWaiting round = SameMessages to a b (comp a env_a round).messages (comp b env_b round).messages

  -- ---- one round
  module _ (round : ℕ) (states : SameStates round) (waiting : SameWaiting round) where
    same_ports : (rate node : ℕ) → node < length a.components → (ports : List ℕ)
        → map (brought_tuple b (values_at env_b round) (comp b env_b round).messages rate)
        (map (λ port. source_of b (to node) port) ports)
        ≡ map (brought_tuple a (values_at env_a round) (comp a env_a round).messages rate)
        (map (λ port. source_of a node port) ports)
    same_ports rate node within [] = refl
    same_ports rate node within (port ∷ ports) =
        let messages_a = (comp a env_a round).messages in
        let messages_b = (comp b env_b round).messages in
        ap₂ (λ tuple (tuples : List (List PortValue)). tuple ∷ tuples)
        (brings to a b sound_a sound_b r env_a env_b inputs round messages_a messages_b waiting rate node port within)
        (same_ports rate node within ports)

    same_feed : (node : ℕ) (c : Component) → slice_get a.components node ≡ Some c
        → input_vectors b env_b (comp b env_b round).messages (to node) round
        ≡ input_vectors a env_a (comp a env_a round).messages node round
    unfolding input_vectors
    same_feed node c is =
        ap (inputs_in b (values_at env_b round) (comp b env_b round).messages (to node))
        (component_there to a b r node c is)
        ∙ ap (columns c.rate) (same_ports c.rate node (slice_get_within a.components node c is)
        (upwards 0 (length c.behaviour.ins)))
        ∙ sym (ap (inputs_in a (values_at env_a round) (comp a env_a round).messages node) is)

    same_steps : (node : ℕ) (c : Component) → slice_get a.components node ≡ Some c
        → own_steps b env_b (to node) round c ≡ own_steps a env_a node round c
    same_steps node c is =
        ap₂ (steps c.behaviour) (states node (slice_get_within a.components node c is)) (same_feed node c is)

    next_states : SameStates (suc round)
    next_states node within =
        let at = component_at a node within in
        state_goes_on b env_b (to node) round at.0 (component_there to a b r node at.0 at.1)
        ∙ ap (λ (s : Stepped). s.frame) (same_steps node at.0 at.1)
        ∙ sym (state_goes_on a env_a node round at.0 at.1)

    next_message : (l m : ℕ) (link : Link) → slice_get a.links l ≡ Some link
        → slice_get b.links m ≡ Some (renumbered_link to link)
        → msg b env_b m round ≡ msg a env_a l round
    next_message l m link is_a is_b =
        let sound = at_element (IsLink a) a.links l link sound_a.links.each is_a in
        let at = component_at a link.source.0 sound.source.node_is in
        let c : Component = at.0 in
        let sent : Gamma → ℕ → Stepped → List PortValue
        = λ gamma period s. cut (sent_steps gamma period c.rate) (slice_index_or s.tuples link.out_port []) in
        message_from_source b env_b m round (renumbered_link to link) c is_b
        (component_there to a b r link.source.0 c at.1)
        ∙ ap₂ (λ gamma period. sent gamma period (own_steps b env_b (to link.source.0) round c)) r.gamma r.period
        ∙ ap (sent a.gamma a.period) (same_steps link.source.0 c at.1)
        ∙ sym (message_from_source a env_a l round link c is_a at.1)

    next_waiting : SameWaiting (suc round)
    unfolding msg
    next_waiting l m link is_a is_b = next_message l m link is_a is_b

    same_part : b.taps ≡ map (renumbered_tap to) a.taps → (node : ℕ) → node < length a.components
        → part b env_b (to node) round ≡ part a env_a node round
    same_part taps node within =
        let at = component_at a node within in
        let c : Component = at.0 in
        let own = own_steps a env_a node round c in
        let inside =
        All-weaker (IsTap a) (λ tap. tap.source.0 < length a.components) (λ tap sound. sound.source.node_is) a.taps
        sound_a.taps.each in
        part_from_steps b env_b (to node) round c (component_there to a b r node c at.1)
        ∙ ap (λ (s : Stepped). part_with s.frame (map (shown s.tuples) (taps_of b (to node)))) (same_steps node c at.1)
        ∙ ap (part_with own.frame)
        (ap (λ (ts : List Tap). map (shown own.tuples) (filter (λ tap. nat_eq tap.source.0 (to node)) ts)) taps
        ∙ same_shown to a b r own.tuples node within a.taps inside)
        ∙ sym (part_from_steps a env_a node round c at.1)

  -- ---- all rounds
  first_states : SameStates 0
  first_states node within =
      let at = component_at a node within in
      state_begins b env_b (to node) at.0 (component_there to a b r node at.0 at.1)
      ∙ sym (state_begins a env_a node at.0 at.1)

  first_waiting : SameWaiting 0
  first_waiting l m link is_a is_b =
      let sound = at_element (IsLink a) a.links l link sound_a.links.each is_a in
      link_begins b env_b m (renumbered_link to link) is_b
      ∙ ap (λ rate. replicate rate Absent) (rate_there to a b r link.source.0 sound.source.node_is)
      ∙ sym (link_begins a env_a l link is_a)

  same_after : (round : ℕ) → SameStates round × SameWaiting round
  same_after zero = (first_states, first_waiting)
  same_after (suc round) =
      let before = same_after round in
      (next_states round before.0 before.1, next_waiting round before.0 before.1)

  pub states_after : (node rounds : ℕ) → node < length a.components
      → state b env_b (to node) rounds ≡ state a env_a node rounds
  states_after node rounds within = (same_after rounds).0 node within

  pub message_after : (l m round : ℕ) (link : Link) → slice_get a.links l ≡ Some link
      → slice_get b.links m ≡ Some (renumbered_link to link)
      → msg b env_b m round ≡ msg a env_a l round
  message_after l m round link is_a is_b =
      let before = same_after round in
      next_message round before.0 before.1 l m link is_a is_b

  pub part_after : b.taps ≡ map (renumbered_tap to) a.taps → (node round : ℕ) → node < length a.components
      → part b env_b (to node) round ≡ part a env_a node round
  part_after taps node round within =
      let before = same_after round in
      same_part round before.0 before.1 taps node within
