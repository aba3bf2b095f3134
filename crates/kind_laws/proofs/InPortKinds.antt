-- For all laws of kinds: the values that in ports read fit their kinds, if the messages and the values of the root's
-- in ports do.
use Rattle.std.proofs.Common.{◌≡◌, ◌∙◌, ℕ, nat_eq, List, [], ◌∷◌, length, map, slice_get, All, Option, Some, None, refl}
use Rattle.std.proofs.Common.{sym, ap, ap₂, subst, IsTrue}
use Rattle.std.specs.Prelude.{position, slice_index_or}
use Rattle.std.proofs.lemmas.Bool.{and_parts, eqb-true}
use Rattle.std.proofs.lemmas.List.Elements.{All-nil, All-cons}
use Rattle.std.proofs.lemmas.Option.{slice_get_within}
use Rattle.list_lemmas.proofs.ListOperations.{map-map}
use Rattle.pals_base.specs.declared.basic_types.PortValue.{PortValue}
use Rattle.pals_base.specs.declared.basic_types.PortValue.TheVariants.{Absent}
use Rattle.pals_base.specs.declared.behaviour.PortDecl.{PortDecl}
use Rattle.pals_base.specs.AllowedAdaptors.{suits_kind}
use Rattle.pals_base.specs.Tuples.{column}
use Rattle.pals_base.specs.UpwardNumbers.{upwards}
use Rattle.pals_base.proofs.UpwardNumbers.{get_or-map_upwards, All-map_upwards}
use Rattle.pals_base.proofs.ColumnsAndCutTuples.{get_or-column}
use Rattle.pals_model.specs.declared.design.Component.{Component}
use Rattle.pals_model.specs.declared.design.Link.{Link}
use Rattle.pals_model.specs.declared.design.DesignParts.{DesignParts}
use Rattle.pals_model.specs.declared.environment.Env.{Env}
use Rattle.pals_model.specs.declared.port_sources.PortSource.{PortSource}
use Rattle.pals_model.specs.ComponentInputs.{root_of, values_at, link_goes_to, feed_goes_to, from_feed, from_link}
use Rattle.pals_model.specs.ComponentInputs.{source_of, sources_of, read_feed, read_link, brought_tuple, inputs_of}
use Rattle.pals_model.specs.PortKindsAndRates.{rate_of, kind_of, in_kind, root_kind}
use Rattle.pals_model.specs.DesignRules.{IsDesign, IsLink, IsFeed}
use Rattle.pals_model.specs.proof.ValuesFitKinds.{PortFits, TupleFits, PortsFit, link_kind, EnvFits}
use Rattle.pals_model.proofs.FirstMatches.{found_at, at_element}
use Rattle.pals_model.proofs.RootInputsAndFeeds.{feed_has_root, feeds_have_root_kind}
use Rattle.pals_model.proofs.AllElements.{index_fits}
use Rattle.pals_model.proofs.AdaptorsKeepKinds.{absent_fits, adapt_fits}

abbrev pub MessagesFit : DesignParts → List (List PortValue) → Type 0
MessagesFit design messages =
    (number : ℕ) (link : Link) → slice_get design.links number ≡ Some link
    → TupleFits (link_kind design link) (slice_index_or messages number [])

-- ---- an in port
module _ (design : DesignParts) (rules : IsDesign design) (node p : ℕ) (c : Component) (port : PortDecl)
    (is_c : slice_get design.components node ≡ Some c) (is_port : slice_get c.behaviour.ins p ≡ Some port) where
  kind_at : (target in_port : ℕ) → target ≡ node → in_port ≡ p
      → in_kind (slice_get design.components target) in_port ≡ port.kind
  kind_at target in_port to_node to_port =
      ap₂ (λ t q. in_kind (slice_get design.components t) q) to_node to_port ∙ ap (λ o. in_kind o p) is_c
      ∙ ap kind_of is_port

  -- the link that it reads has its type, and so does the adaptor
  pub record IsRead (number : ℕ) : Type 0 where
    pub link : Link
    pub link_is : slice_get design.links number ≡ Some link
    pub kind : link_kind design link ≡ port.kind
    pub suits : IsTrue (suits_kind link.adaptor port.kind)

  pub link_read : (number : ℕ) → position (link_goes_to node p) design.links ≡ Some number → IsRead number
  link_read number is =
      let at = found_at (link_goes_to node p) design.links number is in
      let link : Link = at.0 in
      let goes = and_parts (nat_eq link.target.0 node) (nat_eq link.in_port p) at.2 in
      let rule = at_element (IsLink design) design.links number link rules.links.each at.1 in
      let kind =
      kind_at link.target.0 link.in_port (eqb-true link.target.0 node goes.0) (eqb-true link.in_port p goes.1) in
      record {
        link = link;
        link_is = at.1;
        kind = rule.kinds ∙ kind;
        suits = subst (λ k. IsTrue (suits_kind link.adaptor k)) kind rule.suits;
      }

  module _ (env : Env) (round : ℕ) (messages : List (List PortValue)) (given : EnvFits design env)
      (sent : MessagesFit design messages) where
    feed_fits : (number : ℕ) → position (feed_goes_to node p) design.feeds ≡ Some number
        → TupleFits port.kind (read_feed (slice_index_or (values_at env round) (root_of design number) Absent) c.rate
        (slice_get design.feeds number))
    feed_fits number is =
        let at = found_at (feed_goes_to node p) design.feeds number is in
        let f = at.0 in
        let goes = and_parts (nat_eq f.target.0 node) (nat_eq f.in_port p) at.2 in
        let rule = at_element (IsFeed design) design.feeds number f rules.feeds.each at.1 in
        let kind = kind_at f.target.0 f.in_port (eqb-true f.target.0 node goes.0) (eqb-true f.in_port p goes.1) in
        let value = slice_index_or (values_at env round) (root_of design number) Absent in
        let own : root_kind design f.name ≡ port.kind = sym (feeds_have_root_kind design number f rules at.1) ∙ kind in
        let fits : PortFits port.kind value =
        subst (λ k. PortFits k value) own
        (given round (root_of design number) f.name (feed_has_root design number f at.1)) in
        let suits : IsTrue (suits_kind f.adaptor port.kind) =
        subst (λ k. IsTrue (suits_kind f.adaptor k)) kind rule.suits in
        subst (λ o. TupleFits port.kind (read_feed value c.rate o)) (sym at.1)
        (adapt_fits port.kind f.adaptor 1 c.rate (value ∷ []) suits
        (All-cons (PortFits port.kind) value [] fits (All-nil (PortFits port.kind))))

    -- its input, if these are the link and the feed into it
    pub reading_fits : (link feed : Option ℕ) → position (link_goes_to node p) design.links ≡ link
        → position (feed_goes_to node p) design.feeds ≡ feed
        → TupleFits port.kind (brought_tuple design (values_at env round) messages c.rate
        (from_link link (from_feed design feed)))
    reading_fits (Some number) feed is_link is_feed =
        let read = link_read number is_link in
        let message = slice_index_or messages number [] in
        let fits : TupleFits port.kind message =
        subst (λ k. TupleFits k message) read.kind (sent number read.link read.link_is) in
        subst (λ o. TupleFits port.kind (read_link design c.rate message o)) (sym read.link_is)
        (adapt_fits port.kind read.link.adaptor (rate_of design read.link.source.0) c.rate message read.suits fits)
    reading_fits None (Some number) is_link is_feed = feed_fits number is_feed
    reading_fits None None is_link is_feed = absent_fits port.kind c.rate

-- ---- the vectors of a round
pub vectors_fit : (design : DesignParts) (env : Env) (round : ℕ) (messages : List (List PortValue)) (node : ℕ)
    (c : Component)
    → IsDesign design → EnvFits design env → MessagesFit design messages → slice_get design.components node ≡ Some c
    → All (PortsFit c.behaviour.ins) (inputs_of design (values_at env round) messages node c)
vectors_fit design env round messages node c rules given sent is_c =
    let read : PortSource → List PortValue = brought_tuple design (values_at env round) messages c.rate in
    let source : ℕ → PortSource = λ p. source_of design node p in
    let count = length c.behaviour.ins in
    let lists = map read (sources_of design node c) in
    All-map_upwards (PortsFit c.behaviour.ins) (λ at. column at lists) 0 c.rate
    (λ at above below p port is.
    let here : slice_index_or lists p [] ≡ read (source p) =
    ap (λ (tuples : List (List PortValue)). slice_index_or tuples p []) (map-map read source (upwards 0 count))
    ∙ get_or-map_upwards (λ q. read (source q)) count p [] (slice_get_within c.behaviour.ins p port is) in
    let fits : TupleFits port.kind (slice_index_or lists p []) =
    subst (TupleFits port.kind) (sym here)
    (reading_fits design rules node p c port is_c is env round messages given sent
    (position (link_goes_to node p) design.links) (position (feed_goes_to node p) design.feeds) refl refl) in
    subst (PortFits port.kind) (sym (get_or-column lists at p))
    (index_fits (PortFits port.kind) (slice_index_or lists p []) at Absent fits tt))
