-- The law that rounds keep kinds: frames and messages, round by round.
use Rattle.std.proofs.Common.{◌≡◌, ℕ, zero, suc, ◌+◌, ◌-◌, ◌<◌, nat_eq, true, List, [], ◌∷◌, length, map, take}
use Rattle.std.proofs.Common.{replicate, slice_get, All, Option, Some, None, refl, sym, ap, ap₂, ◌∙◌, subst, arith}
use Rattle.std.proofs.Common.{IsTrue}
use Rattle.std.specs.Prelude.{position, slice_index_or}
use Rattle.std.specs.Option.{option_map}
use Rattle.std.proofs.lemmas.Bool.{and_parts, eqb-true}
use Rattle.std.proofs.lemmas.List.Elements.{All-nil, All-cons, All-append, All-take, All-filter, All-weaker}
use Rattle.std.proofs.lemmas.List.Elements.{filter_passes}
use Rattle.std.proofs.lemmas.Option.{slice_get-map, slice_get_within, get_or_from_slice_get}
use Rattle.list_lemmas.proofs.ElementPositions.{slice_get-some}
use Rattle.pals_base.specs.declared.basic_types.PortValue.{PortValue}
use Rattle.pals_base.specs.declared.basic_types.PortValue.TheVariants.{Absent}
use Rattle.pals_base.specs.declared.behaviour.Kind.{Kind}
use Rattle.pals_base.specs.declared.behaviour.PortDecl.{PortDecl}
use Rattle.pals_base.specs.AllowedAdaptors.{suits_kind}
use Rattle.pals_base.specs.PeriodBoundAndReleases.{sent_steps}
use Rattle.pals_base.specs.StepSequences.{outputs}
use Rattle.pals_base.specs.Tuples.{column, columns, cut}
use Rattle.pals_base.specs.UpwardNumbers.{upwards}
use Rattle.pals_base.proofs.UpwardNumbers.{get_or-map_upwards}
use Rattle.pals_base.proofs.ColumnsAndCutTuples.{get_or-column}
use Rattle.pals_model.specs.declared.design.Component.{Component}
use Rattle.pals_model.specs.declared.design.Link.{Link}
use Rattle.pals_model.specs.declared.design.Tap.{Tap}
use Rattle.pals_model.specs.declared.design.DesignParts.{DesignParts}
use Rattle.pals_model.specs.declared.environment.Env.{Env}
use Rattle.pals_model.specs.ComponentInputs.{root_of, values_at, link_goes_to, feed_goes_to, from_feed, from_link}
use Rattle.pals_model.specs.ComponentInputs.{source_of, sources_of, read_feed, read_link, brought_tuple, inputs_of}
use Rattle.pals_model.specs.ComponentInputs.{inputs_in}
use Rattle.pals_model.specs.ComponentInputs.{input_vectors}
use Rattle.pals_model.specs.PortKindsAndRates.{rate_of, kind_of, in_kind, out_kind, outs_in, root_kind}
use Rattle.pals_model.specs.Composition.{comp, state, msg, taps_of}
use Rattle.pals_model.specs.DesignRules.{IsDesign, IsLink, IsFeed, IsTap}
use Rattle.pals_model.specs.proof.CompositionLaws.{own_steps}
use Rattle.pals_model.proofs.CompositionLaws.{state_begins, state_goes_on, message_from_source, part_from_steps}
use Rattle.pals_model.proofs.CompositionLaws.{links_begin_absent}
use Rattle.pals_model.proofs.RootInputsAndFeeds.{feed_has_root, feeds_have_root_kind}
use Rattle.pals_model.proofs.ShapeLaws.{state_has_shape, is_behaviour, component_at}
use Rattle.pals_model.proofs.FirstMatches.{found_at, at_element}
use Rattle.pals_model.specs.proof.ValuesFitKinds.{PortFits, TupleFits, PortsFit, FrameFits, link_kind, EnvFits}
use Rattle.pals_model.specs.proof.CompositionLaws.Kinds.{StatesFit, MessagesFit, PartFits, PartsFit}
use Rattle.pals_model.proofs.AllElements.{index_fits, map_all, every}
use Rattle.pals_model.proofs.StepsKeepKinds.{frames_fit, outputs_fit, initial_fits}
use Rattle.pals_model.proofs.AdaptorsKeepKinds.{absent_fits, adapt_fits}

-- ---- columns
twice_at : {S : Type 0} (R : S → List PortValue) (source : ℕ → S) (from n p : ℕ) → p < n
    → slice_index_or (map R (map source (upwards from n))) p [] ≡ R (source (from + p))
twice_at R source from zero p within = absurd (omega arith)
twice_at R source from (suc n) zero within = let here : from ≡ from + 0 = omega arith in ap (λ k. R (source k)) here
twice_at R source from (suc n) (suc p) within =
    let next : suc from + p ≡ from + suc p = omega arith in
    twice_at R source (suc from) n p (omega arith) ∙ ap (λ k. R (source k)) next

-- ---- what in ports bring
abbrev MessagesAreFit : DesignParts → List (List PortValue) → Type 0
MessagesAreFit design messages =
    (number : ℕ) (link : Link) → slice_get design.links number ≡ Some link
    → TupleFits (link_kind design link) (slice_index_or messages number [])

-- the kind of an in port of a component
in_port_kind : (design : DesignParts) (node p target in_port : ℕ) (c : Component) (port : PortDecl)
    → slice_get design.components node ≡ Some c → slice_get c.behaviour.ins p ≡ Some port → target ≡ node → in_port ≡ p
    → in_kind (slice_get design.components target) in_port ≡ port.kind
in_port_kind design node p target in_port c port is_c is_port to_node to_port =
    ap₂ (λ t q. in_kind (slice_get design.components t) q) to_node to_port ∙ ap (λ o. in_kind o p) is_c
    ∙ ap kind_of is_port

source_fits : (design : DesignParts) (env : Env) (round : ℕ) (messages : List (List PortValue)) (node p : ℕ)
    (c : Component) (port : PortDecl) (l f : Option ℕ)
    → IsDesign design → EnvFits design env → MessagesAreFit design messages
    → slice_get design.components node ≡ Some c → slice_get c.behaviour.ins p ≡ Some port
    → position (link_goes_to node p) design.links ≡ l → position (feed_goes_to node p) design.feeds ≡ f
    → TupleFits port.kind (brought_tuple design (values_at env round) messages c.rate
    (from_link l (from_feed design f)))
source_fits design env round messages node p c port (Some number) f rules given sent is_c is_port to_link to_feed =
    let at = found_at (link_goes_to node p) design.links number to_link in
    let link = at.0 in
    let goes = and_parts (nat_eq link.target.0 node) (nat_eq link.in_port p) at.2 in
    let rule = at_element (IsLink design) design.links number link rules.links.each at.1 in
    let kind =
    in_port_kind design node p link.target.0 link.in_port c port is_c is_port (eqb-true link.target.0 node goes.0)
    (eqb-true link.in_port p goes.1) in
    let message = slice_index_or messages number [] in
    let fits : TupleFits port.kind message =
    subst (λ k. TupleFits k message) (rule.kinds ∙ kind) (sent number link at.1) in
    let suits : IsTrue (suits_kind link.adaptor port.kind) =
    subst (λ k. IsTrue (suits_kind link.adaptor k)) kind rule.suits in
    subst (λ o. TupleFits port.kind (read_link design c.rate message o)) (sym at.1)
    (adapt_fits port.kind link.adaptor (rate_of design link.source.0) c.rate message suits fits)
source_fits design env round messages node p c port None (Some number) rules given sent is_c is_port to_link to_feed =
    let at = found_at (feed_goes_to node p) design.feeds number to_feed in
    let f = at.0 in
    let goes = and_parts (nat_eq f.target.0 node) (nat_eq f.in_port p) at.2 in
    let rule = at_element (IsFeed design) design.feeds number f rules.feeds.each at.1 in
    let kind =
    in_port_kind design node p f.target.0 f.in_port c port is_c is_port (eqb-true f.target.0 node goes.0)
    (eqb-true f.in_port p goes.1) in
    let value = slice_index_or (values_at env round) (root_of design number) Absent in
    let own : root_kind design f.name ≡ port.kind = sym (feeds_have_root_kind design number f rules at.1) ∙ kind in
    let fits : PortFits port.kind value =
    subst (λ k. PortFits k value) own
    (given round (root_of design number) f.name (feed_has_root design number f at.1)) in
    let suits : IsTrue (suits_kind f.adaptor port.kind) =
    subst (λ k. IsTrue (suits_kind f.adaptor k)) kind rule.suits in
    subst (λ o. TupleFits port.kind (read_feed value c.rate o)) (sym at.1)
    (adapt_fits port.kind f.adaptor 1 c.rate (value ∷ []) suits
    (All-cons (PortFits port.kind) value [] fits (All-nil (PortFits port.kind))))
source_fits design env round messages node p c port None None rules given sent is_c is_port to_link to_feed =
    absent_fits port.kind c.rate

vectors_fit : (design : DesignParts) (env : Env) (round : ℕ) (messages : List (List PortValue)) (node : ℕ)
    (c : Component)
    → IsDesign design → EnvFits design env → MessagesAreFit design messages → slice_get design.components node ≡ Some c
    → All (PortsFit c.behaviour.ins) (inputs_of design (values_at env round) messages node c)
vectors_fit design env round messages node c rules given sent is_c =
    let R = brought_tuple design (values_at env round) messages c.rate in
    let lists = map R (sources_of design node c) in
    map_all (λ (at : ℕ). Unit {0}) (PortsFit c.behaviour.ins) (λ at. column at lists) (upwards 0 c.rate)
    (λ at unit p port is.
    let within = slice_get_within c.behaviour.ins p port is in
    let zero' : 0 + p ≡ p = omega arith in
    let here : slice_index_or lists p [] ≡ R (source_of design node p) =
    twice_at R (λ q. source_of design node q) 0 (length c.behaviour.ins) p within
    ∙ ap (λ q. R (source_of design node q)) zero' in
    let fits : TupleFits port.kind (slice_index_or lists p []) =
    subst (TupleFits port.kind) (sym here)
    (source_fits design env round messages node p c port (position (link_goes_to node p) design.links)
    (position (feed_goes_to node p) design.feeds) rules given sent is_c is refl refl) in
    subst (PortFits port.kind) (sym (get_or-column lists at p))
    (index_fits (PortFits port.kind) (slice_index_or lists p []) at Absent fits tt))
    (every (λ (at : ℕ). Unit {0}) (upwards 0 c.rate) (λ at. tt))

feed_fits : (design : DesignParts) (env : Env) (messages : List (List PortValue)) (node round : ℕ) (c : Component)
    → IsDesign design → EnvFits design env → MessagesAreFit design messages → slice_get design.components node ≡ Some c
    → All (PortsFit c.behaviour.ins) (input_vectors design env messages node round)
unfolding input_vectors
feed_fits design env messages node round c rules given sent is_c =
    subst (All (PortsFit c.behaviour.ins)) (sym (ap (inputs_in design (values_at env round) messages node) is_c))
    (vectors_fit design env round messages node c rules given sent is_c)

-- ---- a round
record RoundFits (design : DesignParts) (env : Env) (round : ℕ) : Type 0 where
  frames : (node : ℕ) (c : Component) → slice_get design.components node ≡ Some c
      → FrameFits c.behaviour (state design env node round)
  messages : MessagesAreFit design (comp design env round).messages

next_frame : (design : DesignParts) (env : Env) (node round : ℕ) (c : Component) → IsDesign design → EnvFits design env
    → RoundFits design env round → slice_get design.components node ≡ Some c
    → FrameFits c.behaviour (own_steps design env node round c).frame
next_frame design env node round c rules given before is_c =
    frames_fit c.behaviour (state design env node round)
    (input_vectors design env (comp design env round).messages node round)
    (is_behaviour design node c rules is_c) (state_has_shape design env node round c rules is_c)
    (before.frames node c is_c)
    (feed_fits design env (comp design env round).messages node round c rules given before.messages is_c)

-- the tuple of an out port
tuple_fits : (design : DesignParts) (env : Env) (node round out_port : ℕ) (c : Component) → IsDesign design
    → EnvFits design env → RoundFits design env round → slice_get design.components node ≡ Some c
    → out_port < length c.behaviour.outs
    → TupleFits (out_kind (Some c) out_port) (slice_index_or (own_steps design env node round c).tuples out_port [])
tuple_fits design env node round out_port c rules given before is_c within =
    let frame = state design env node round in
    let vectors = input_vectors design env (comp design env round).messages node round in
    let outs = outputs c.behaviour frame vectors in
    let all =
    outputs_fit c.behaviour frame vectors (is_behaviour design node c rules is_c)
    (state_has_shape design env node round c rules is_c) (before.frames node c is_c)
    (feed_fits design env (comp design env round).messages node round c rules given before.messages is_c) in
    let port = slice_get-some c.behaviour.outs out_port within in
    let here : slice_index_or (columns (length c.behaviour.outs) outs) out_port [] ≡ column out_port outs =
    get_or-map_upwards (λ at. column at outs) (length c.behaviour.outs) out_port [] within in
    subst (λ k. TupleFits k (slice_index_or (columns (length c.behaviour.outs) outs) out_port []))
    (sym (ap kind_of port.1))
    (subst (TupleFits port.0.kind) (sym here)
    (map_all (PortsFit c.behaviour.outs) (PortFits port.0.kind) (λ list. slice_index_or list out_port Absent) outs
    (λ list fits. fits out_port port.0 port.1) all))

pub cut_fits : (kind : Kind) (n : ℕ) (tuple : List PortValue) → TupleFits kind tuple → TupleFits kind (cut n tuple)
cut_fits kind n tuple fits =
    All-append (PortFits kind) (take n tuple) (replicate (length tuple - n) Absent)
    (All-take (PortFits kind) n tuple fits) (absent_fits kind (length tuple - n))

message_fits : (design : DesignParts) (env : Env) (number round : ℕ) (link : Link) → IsDesign design
    → EnvFits design env → RoundFits design env round → slice_get design.links number ≡ Some link
    → TupleFits (link_kind design link) (msg design env number round)
message_fits design env number round link rules given before is_link =
    let rule = at_element (IsLink design) design.links number link rules.links.each is_link in
    let from = component_at design link.source.0 rule.source.node_is in
    let within : link.out_port < length from.0.behaviour.outs =
    subst (λ o. link.out_port < outs_in o) from.1 rule.source.port_is in
    let kind : out_kind (Some from.0) link.out_port ≡ link_kind design link =
    ap (λ o. out_kind o link.out_port) (sym from.1) in
    subst (TupleFits (link_kind design link))
    (sym (message_from_source design env number round link from.0 is_link from.1))
    (cut_fits (link_kind design link) (sent_steps design.gamma design.period from.0.rate)
    (slice_index_or (own_steps design env link.source.0 round from.0).tuples link.out_port [])
    (subst (λ k. TupleFits k (slice_index_or (own_steps design env link.source.0 round from.0).tuples link.out_port []))
    kind (tuple_fits design env link.source.0 round link.out_port from.0 rules given before from.1 within)))

-- what waits on a link is the message of the round before
waiting_is : (design : DesignParts) (env : Env) (number round : ℕ)
    → msg design env number round ≡ slice_index_or (comp design env (suc round)).messages number []
unfolding msg
waiting_is design env number round = refl

absent_is_fit : (kind : Kind) (p : PortValue) → p ≡ Absent → PortFits kind p
absent_is_fit kind p is = subst (PortFits kind) (sym is) tt

rounds_fit : (design : DesignParts) (env : Env) (round : ℕ) → IsDesign design → EnvFits design env
    → RoundFits design env round
rounds_fit design env zero rules given = record {
  frames =
      λ node c is_c. subst (FrameFits c.behaviour) (sym (state_begins design env node c is_c))
      (initial_fits c.behaviour (is_behaviour design node c rules is_c));
  messages = λ number link is_link.
      let message = slice_index_or (comp design env 0).messages number [] in
      All-weaker (λ p. p ≡ Absent) (PortFits (link_kind design link)) (absent_is_fit (link_kind design link)) message
      (index_fits (λ (tuple : List PortValue). All (λ p. p ≡ Absent) tuple) (comp design env 0).messages number []
      (links_begin_absent design env) (All-nil (λ p. p ≡ Absent)));
}
rounds_fit design env (suc round) rules given =
    let before = rounds_fit design env round rules given in
    record {
      frames =
          λ node c is_c. subst (FrameFits c.behaviour) (sym (state_goes_on design env node round c is_c))
          (next_frame design env node round c rules given before is_c);
      messages =
          λ number link is_link. subst (TupleFits (link_kind design link)) (waiting_is design env number round)
          (message_fits design env number round link rules given before is_link);
    }

-- ---- the laws
pub states_fit : StatesFit
states_fit design env node rounds c rules given is_c = (rounds_fit design env rounds rules given).frames node c is_c

pub messages_fit : MessagesFit
messages_fit design env number round link rules given is_link =
    message_fits design env number round link rules given (rounds_fit design env round rules given) is_link

tap_fits : (design : DesignParts) (env : Env) (node round k : ℕ) (c : Component) (tap : Tap) → IsDesign design
    → EnvFits design env → slice_get design.components node ≡ Some c → slice_get (taps_of design node) k ≡ Some tap
    → TupleFits (out_kind (Some c) tap.out_port)
    (slice_index_or (map (λ (t : Tap). slice_index_or (own_steps design env node round c).tuples t.out_port [])
    (taps_of design node)) k [])
tap_fits design env node round k c tap rules given is_c is_tap =
    let tuples = (own_steps design env node round c).tuples in
    let rule =
    at_element (IsTap design) (taps_of design node) k tap
    (All-filter (λ (t : Tap). nat_eq t.source.0 node) (IsTap design) design.taps rules.taps.each) is_tap in
    let own =
    at_element (λ (t : Tap). nat_eq t.source.0 node ≡ true) (taps_of design node) k tap
    (filter_passes (λ (t : Tap). nat_eq t.source.0 node) design.taps) is_tap in
    let here : tap.source.0 ≡ node = eqb-true tap.source.0 node own in
    let within : tap.out_port < length c.behaviour.outs =
    subst (λ o. tap.out_port < outs_in o) (ap (slice_get design.components) here ∙ is_c) rule.source.port_is in
    let f = λ (t : Tap). slice_index_or tuples t.out_port [] in
    let is : slice_get (map f (taps_of design node)) k ≡ Some (f tap) = slice_get-map f (taps_of design node) k
    ∙ ap (option_map f) is_tap in
    subst (TupleFits (out_kind (Some c) tap.out_port))
    (sym (get_or_from_slice_get (map f (taps_of design node)) k (f tap) [] is))
    (tuple_fits design env node round tap.out_port c rules given (rounds_fit design env round rules given) is_c within)

pub parts_fit : PartsFit
parts_fit design env node round c rules given is_c =
    subst (PartFits design node c) (sym (part_from_steps design env node round c is_c))
    (record {
      frame = next_frame design env node round c rules given (rounds_fit design env round rules given) is_c;
      outs = λ k tap is_tap. tap_fits design env node round k c tap rules given is_c is_tap;
    })
