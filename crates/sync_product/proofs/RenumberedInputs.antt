-- In a renumbered design, each in port has the same input as in the first one.
use Rattle.std.proofs.Common.{◌≡◌, ◌⊎◌, ◌∙◌, inl, inr, ℕ, ◌<◌, ◌&&◌, true, false, nat_eq, List, [], ◌∷◌, length, Some}
use Rattle.std.proofs.Common.{All, slice_get, slice_index_or, sym, ap, ap₂, subst}
use Rattle.std.proofs.lemmas.Bool.{eqb-true, and_parts}
use Rattle.std.proofs.lemmas.List.Elements.{All-contains}
use Rattle.std.proofs.lemmas.Option.{get_or_from_slice_get}
use Rattle.list_lemmas.proofs.ElementPositions.{Contains-from_slice_get, slice_get-map_some}
use Rattle.pals_base.specs.declared.basic_types.PortValue.{PortValue}
use Rattle.pals_base.specs.declared.basic_types.PortValue.TheVariants.{Absent}
use Rattle.pals_base.specs.Adaptors.{adapt}
use Rattle.pals_base.proofs.ColumnsAndCutTuples.{get_or-column}
use Rattle.pals_model.specs.declared.design.Link.{Link}
use Rattle.pals_model.specs.declared.design.Feed.{Feed}
use Rattle.pals_model.specs.declared.design.DesignParts.{DesignParts}
use Rattle.pals_model.specs.declared.environment.Env.{Env}
use Rattle.pals_model.specs.ComponentInputs.{feed_names, root_inputs, root_of, place_of, values_at, link_goes_to}
use Rattle.pals_model.specs.ComponentInputs.{feed_goes_to, source_of, read_link, read_feed, brought_tuple}
use Rattle.pals_model.specs.DesignRules.{IsDesign, IsLink, IsFeed}
use Rattle.pals_model.proofs.FirstMatches.{at_element}
use Rattle.pals_model.proofs.SourceLaws.{link_is_source, feed_is_source, nothing_is_source}
use Rattle.pals_model.proofs.RootInputsAndFeeds.{root_inputs_are_feeds}
use Rattle.sync_product.specs.proof.RenumberedDesigns.{renumbered_link, renumbered_feed, IsRenumbered, values_of}
use Rattle.sync_product.specs.proof.RenumberedDesigns.{AreSameInputs}
use Rattle.sync_product.proofs.PassingElements.{Passes, some_or_none}
use Rattle.sync_product.proofs.ImageMembers.{none_there}
use Rattle.sync_product.proofs.RenumberedDesigns.{rate_there, same_number, link_there, feed_there}

-- ---- root in ports
feed_name : (design : DesignParts) (f : ℕ) (feed : Feed) → slice_get design.feeds f ≡ Some feed
    → slice_get (feed_names design) f ≡ Some feed.name
feed_name design f feed is = slice_get-map_some (λ (x : Feed). x.name) design.feeds f feed is

-- the value that a feed reads in a round
value_is : (design : DesignParts) (env : Env) (round f : ℕ) (feed : Feed) → slice_get design.feeds f ≡ Some feed
    → slice_index_or (values_at env round) (root_of design f) Absent
    ≡ slice_index_or (values_of design env feed.name) round Absent
value_is design env round f feed is =
    ap (λ name. slice_index_or (values_at env round) (place_of name (root_inputs design)) Absent)
    (get_or_from_slice_get (feed_names design) f feed.name [] (feed_name design f feed is))
    ∙ get_or-column env.lists round (place_of feed.name (root_inputs design))

-- what passes a test on an in port goes to that in port
port_is : (n p node port : ℕ) → (nat_eq n node && nat_eq p port) ≡ true → (n ≡ node) × (p ≡ port)
port_is n p node port goes =
    let halves = and_parts (nat_eq n node) (nat_eq p port) goes in
    (eqb-true n node halves.0, eqb-true p port halves.1)

-- links between the same ports have the same messages
abbrev pub SameMessages : (ℕ → ℕ) → DesignParts → DesignParts → List (List PortValue) → List (List PortValue) → Type 0
SameMessages to a b messages_a messages_b =
    (l m : ℕ) (link : Link) → slice_get a.links l ≡ Some link → slice_get b.links m ≡ Some (renumbered_link to link)
    → slice_index_or messages_b m [] ≡ slice_index_or messages_a l []

module _ (to : ℕ → ℕ) (a b : DesignParts) (sound_a : IsDesign a) (sound_b : IsDesign b) (r : IsRenumbered to a b) where
  -- ---- in ports that nothing goes to
  no_link_there : (node port : ℕ) → node < length a.components
      → All (λ link. link_goes_to node port link ≡ false) a.links
      → All (λ link. link_goes_to (to node) port link ≡ false) b.links
  no_link_there node port within =
      none_there (renumbered_link to) a.links b.links r.links (link_goes_to node port) (link_goes_to (to node) port)
      (λ l link is.
      let sound = at_element (IsLink a) a.links l link sound_a.links.each is in
      ap (λ same. same && nat_eq link.in_port port)
      (same_number to a b r link.target.0 node sound.target.node_is within))

  no_feed_there : (node port : ℕ) → node < length a.components
      → All (λ feed. feed_goes_to node port feed ≡ false) a.feeds
      → All (λ feed. feed_goes_to (to node) port feed ≡ false) b.feeds
  no_feed_there node port within =
      none_there (renumbered_feed to) a.feeds b.feeds r.feeds (feed_goes_to node port) (feed_goes_to (to node) port)
      (λ f feed is.
      let sound = at_element (IsFeed a) a.feeds f feed sound_a.feeds.each is in
      ap (λ same. same && nat_eq feed.in_port port)
      (same_number to a b r feed.target.0 node sound.target.node_is within))

  -- ---- what an in port brings in a round
  module _ (env_a env_b : Env) (inputs : AreSameInputs a b env_a env_b) (round : ℕ)
      (messages_a messages_b : List (List PortValue))
      (same : SameMessages to a b messages_a messages_b) where
    abbrev brought_a : ℕ → ℕ → ℕ → List PortValue
    brought_a rate node port = brought_tuple a (values_at env_a round) messages_a rate (source_of a node port)

    abbrev brought_b : ℕ → ℕ → ℕ → List PortValue
    brought_b rate node port = brought_tuple b (values_at env_b round) messages_b rate (source_of b node port)

    link_brings : (rate l m : ℕ) (link : Link) → slice_get a.links l ≡ Some link
        → slice_get b.links m ≡ Some (renumbered_link to link)
        → brought_b rate (to link.target.0) link.in_port ≡ brought_a rate link.target.0 link.in_port
    link_brings rate l m link is_a is_b =
        let sound = at_element (IsLink a) a.links l link sound_a.links.each is_a in
        ap (brought_tuple b (values_at env_b round) messages_b rate)
        (link_is_source b m (renumbered_link to link) sound_b is_b)
        ∙ ap (read_link b rate (slice_index_or messages_b m [])) is_b
        ∙ ap₂ (λ k message. adapt link.adaptor k rate message) (rate_there to a b r link.source.0 sound.source.node_is)
        (same l m link is_a is_b)
        ∙ sym (ap (read_link a rate (slice_index_or messages_a l [])) is_a)
        ∙ sym (ap (brought_tuple a (values_at env_a round) messages_a rate) (link_is_source a l link sound_a is_a))

    value_there : (f g : ℕ) (feed : Feed) → slice_get a.feeds f ≡ Some feed
        → slice_get b.feeds g ≡ Some (renumbered_feed to feed)
        → slice_index_or (values_at env_b round) (root_of b g) Absent
        ≡ slice_index_or (values_at env_a round) (root_of a f) Absent
    value_there f g feed is_a is_b =
        let named = Contains-from_slice_get (feed_names a) f feed.name (feed_name a f feed is_a) in
        let root = (root_inputs_are_feeds a feed.name).1 named in
        value_is b env_b round g (renumbered_feed to feed) is_b
        ∙ ap (λ list. slice_index_or list round Absent)
        (All-contains (λ name. values_of b env_b name ≡ values_of a env_a name) (root_inputs a) feed.name inputs root)
        ∙ sym (value_is a env_a round f feed is_a)

    feed_brings : (rate f g : ℕ) (feed : Feed) → slice_get a.feeds f ≡ Some feed
        → slice_get b.feeds g ≡ Some (renumbered_feed to feed)
        → brought_b rate (to feed.target.0) feed.in_port ≡ brought_a rate feed.target.0 feed.in_port
    feed_brings rate f g feed is_a is_b =
        ap (brought_tuple b (values_at env_b round) messages_b rate)
        (feed_is_source b g (renumbered_feed to feed) sound_b is_b)
        ∙ ap (read_feed (slice_index_or (values_at env_b round) (root_of b g) Absent) rate) is_b
        ∙ ap (λ value. adapt feed.adaptor 1 rate (value ∷ [])) (value_there f g feed is_a is_b)
        ∙ sym (ap (read_feed (slice_index_or (values_at env_a round) (root_of a f) Absent) rate) is_a)
        ∙ sym (ap (brought_tuple a (values_at env_a round) messages_a rate) (feed_is_source a f feed sound_a is_a))

    abbrev Brings : ℕ → ℕ → ℕ → Type 0
    Brings rate node port = brought_b rate (to node) port ≡ brought_a rate node port

    brings_to : (rate n p node port : ℕ) → (n ≡ node) × (p ≡ port) → Brings rate n p → Brings rate node port
    brings_to rate n p node port here there =
        subst (λ x. Brings rate x port) here.0 (subst (λ y. Brings rate n y) here.1 there)

    without_link : (rate node port : ℕ) → node < length a.components
        → All (λ link. link_goes_to node port link ≡ false) a.links
        → Passes (feed_goes_to node port) a.feeds ⊎ All (λ feed. feed_goes_to node port feed ≡ false) a.feeds
        → Brings rate node port
    without_link rate node port within no_link (inl fed) =
        let feed : Feed = fed.1 in
        let there = feed_there to a b r fed.0 feed fed.2 in
        brings_to rate feed.target.0 feed.in_port node port (port_is feed.target.0 feed.in_port node port fed.3)
        (feed_brings rate fed.0 there.0 feed fed.2 there.1)
    without_link rate node port within no_link (inr no_feed) =
        ap (brought_tuple b (values_at env_b round) messages_b rate)
        (nothing_is_source b (to node) port (no_link_there node port within no_link)
        (no_feed_there node port within no_feed))
        ∙ sym (ap (brought_tuple a (values_at env_a round) messages_a rate)
        (nothing_is_source a node port no_link no_feed))

    brings_by : (rate node port : ℕ) → node < length a.components
        → Passes (link_goes_to node port) a.links ⊎ All (λ link. link_goes_to node port link ≡ false) a.links
        → Brings rate node port
    brings_by rate node port within (inl linked) =
        let link : Link = linked.1 in
        let there = link_there to a b r linked.0 link linked.2 in
        brings_to rate link.target.0 link.in_port node port (port_is link.target.0 link.in_port node port linked.3)
        (link_brings rate linked.0 there.0 link linked.2 there.1)
    brings_by rate node port within (inr no_link) =
        without_link rate node port within no_link (some_or_none (feed_goes_to node port) a.feeds)

    pub brings : (rate node port : ℕ) → node < length a.components → Brings rate node port
    brings rate node port within = brings_by rate node port within (some_or_none (link_goes_to node port) a.links)
