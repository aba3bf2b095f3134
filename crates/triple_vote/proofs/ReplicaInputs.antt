-- A replica has its component's inputs if it received the same messages.
use Rattle.std.proofs.Common.{◌≡◌, ◌∙◌, ℕ, nat_eq, List, [], ◌∷◌, length, map, Option, Some, None, slice_get}
use Rattle.std.proofs.Common.{slice_index_or, refl, ap, ap₂}
use Rattle.std.specs.Prelude.{position}
use Rattle.std.proofs.lemmas.Bool.{eqb-true, and_parts}
use Rattle.std.proofs.Math.ListN.{get_or-map}
use Rattle.pals_base.specs.declared.basic_types.PortValue.{PortValue}
use Rattle.pals_base.specs.Tuples.{columns}
use Rattle.pals_base.specs.UpwardNumbers.{upwards}
use Rattle.pals_model.specs.declared.design.Component.{Component}
use Rattle.pals_model.specs.declared.design.Link.{Link}
use Rattle.pals_model.specs.declared.design.DesignParts.{DesignParts}
use Rattle.pals_model.specs.ComponentInputs.{inputs_of, source_of, from_link, from_feed, link_goes_to, feed_goes_to}
use Rattle.pals_model.specs.ComponentInputs.{brought_tuple, read_link}
use Rattle.pals_model.proofs.FirstMatches.{found_at}
use Rattle.triple_vote.specs.VotedComposition.{VotedConfiguration, received_at, heard_by}

module _ (design : DesignParts) (values : List PortValue) (v : VotedConfiguration) (messages : List (List PortValue))
    (replica : ℕ) where
  -- on each link to a component, the replica received the message
  abbrev pub SameHeard : ℕ → Type 0
  SameHeard node =
      (l : ℕ) (link : Link) → slice_get design.links l ≡ Some link → link.target.0 ≡ node
      → received_at v l replica ≡ slice_index_or messages l []

  heard_is : (l : ℕ) → slice_index_or (heard_by replica v) l [] ≡ received_at v l replica
  heard_is l = get_or-map (λ (tuples : List (List PortValue)). slice_index_or tuples replica []) v.received l []

  brings_by : (rate node port : ℕ) → SameHeard node → (o : Option ℕ)
      → position (link_goes_to node port) design.links ≡ o → (other : Option ℕ)
      → brought_tuple design values (heard_by replica v) rate (from_link o (from_feed design other))
      ≡ brought_tuple design values messages rate (from_link o (from_feed design other))
  brings_by rate node port same None is None = refl
  brings_by rate node port same None is (Some feed) = refl
  brings_by rate node port same (Some l) is other =
      let at = found_at (link_goes_to node port) design.links l is in
      let link : Link = at.0 in
      let goes = and_parts (nat_eq link.target.0 node) (nat_eq link.in_port port) at.2 in
      ap (λ message. read_link design rate message (slice_get design.links l))
      (heard_is l ∙ same l link at.1 (eqb-true link.target.0 node goes.0))

  brings : (rate node port : ℕ) → SameHeard node
      → brought_tuple design values (heard_by replica v) rate (source_of design node port)
      ≡ brought_tuple design values messages rate (source_of design node port)
  brings rate node port same =
      brings_by rate node port same (position (link_goes_to node port) design.links) refl
      (position (feed_goes_to node port) design.feeds)

  same_ports : (rate node : ℕ) → SameHeard node → (ports : List ℕ)
      → map (brought_tuple design values (heard_by replica v) rate) (map (λ port. source_of design node port) ports)
      ≡ map (brought_tuple design values messages rate) (map (λ port. source_of design node port) ports)
  same_ports rate node same [] = refl
  same_ports rate node same (port ∷ ports) =
      ap₂ (λ tuple (tuples : List (List PortValue)). tuple ∷ tuples) (brings rate node port same)
      (same_ports rate node same ports)

  pub same_inputs : (node : ℕ) (c : Component) → SameHeard node
      → inputs_of design values (heard_by replica v) node c ≡ inputs_of design values messages node c
  same_inputs node c same = ap (columns c.rate) (same_ports c.rate node same (upwards 0 (length c.behaviour.ins)))
