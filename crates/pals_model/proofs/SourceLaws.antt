-- Proofs of the laws of the inputs of in ports.
use Rattle.std.proofs.Common.{◌≡◌, ◌≢◌, inl, inr, ℕ, ◌+◌, ◌<◌, true, false, ◌&&◌, nat_eq, length, slice_get, Option}
use Rattle.std.proofs.Common.{Some, None, All, refl, sym, ap, ap₂, ◌∙◌, get_or, arith, ne_of_lt}
use Rattle.std.specs.Prelude.{position}
use Rattle.std.proofs.lemmas.Bool.{eq-eqb, eqb-true, and_parts, cases_order, false_from_ne_true}
use Rattle.std.proofs.lemmas.Option.{slice_get-map}
use Rattle.list_lemmas.proofs.Options.{option_map-parts}
use Rattle.list_lemmas.proofs.PairwiseProperties.{AllPairs-slice_get}
use Rattle.pals_base.specs.UpwardNumbers.{upwards}
use Rattle.pals_base.proofs.UpwardNumbers.{upwards_is}
use Rattle.pals_model.specs.declared.design.Component.{Component}
use Rattle.pals_model.specs.declared.design.Link.{Link}
use Rattle.pals_model.specs.declared.design.DesignParts.{DesignParts}
use Rattle.pals_model.specs.declared.port_sources.PortSource.{PortSource}
use Rattle.pals_model.specs.declared.port_sources.PortSource.TheVariants as source
use Rattle.pals_model.specs.ComponentInputs.{link_goes_to, feed_goes_to, from_link, from_feed, source_of, sources_of}
use Rattle.pals_model.specs.DesignRules.{port_place, LinkPrecedes, FeedPrecedes, IsApart, IsDesign}
use Rattle.pals_model.specs.proof.CompositionLaws.Sources.{LinkIsSource, FeedIsSource, NothingIsSource}
use Rattle.pals_model.proofs.FirstMatches.{at_element, first_at, found_at, none_passes}

-- two in ports of other places are not the same
goes_elsewhere : (node port n p : ℕ) → port_place n p ≢ port_place node port → (nat_eq n node && nat_eq p port) ≡ false
goes_elsewhere node port n p apart =
    false_from_ne_true _
    (λ both.
    let parts = and_parts (nat_eq n node) (nat_eq p port) both in
    apart (ap₂ port_place (eqb-true n node parts.0) (eqb-true p port parts.1)))

goes_there : (node port : ℕ) → (nat_eq node node && nat_eq port port) ≡ true
goes_there node port = ap₂ (λ a b. a && b) (eq-eqb node node refl) (eq-eqb port port refl)

-- ---- its source
pub link_is_source : LinkIsSource
link_is_source design number link rules is =
    ap (λ l. from_link l (from_feed design (position (feed_goes_to link.target.0 link.in_port) design.feeds)))
    (first_at (link_goes_to link.target.0 link.in_port) design.links number link is
    (goes_there link.target.0 link.in_port)
    (λ k other below is_other.
    let order = AllPairs-slice_get LinkPrecedes design.links k number other link rules.links.order below is_other is in
    goes_elsewhere link.target.0 link.in_port other.target.0 other.in_port (ne_of_lt order)))

pub feed_is_source : FeedIsSource
feed_is_source design number feed rules is =
    let apart = at_element (λ f. All (IsApart f) design.links) design.feeds number feed rules.feeds.apart is in
    let fed : position (feed_goes_to feed.target.0 feed.in_port) design.feeds ≡ Some number
    =
    first_at (feed_goes_to feed.target.0 feed.in_port) design.feeds number feed is
    (goes_there feed.target.0 feed.in_port)
    (λ k other below is_other.
    let order = AllPairs-slice_get FeedPrecedes design.feeds k number other feed rules.feeds.order below is_other is in
    goes_elsewhere feed.target.0 feed.in_port other.target.0 other.in_port (ne_of_lt order)) in
    ap (λ l. from_link l (from_feed design (position (feed_goes_to feed.target.0 feed.in_port) design.feeds)))
    (none_passes (link_goes_to feed.target.0 feed.in_port) design.links
    (λ k d within. let link = get_or design.links k d in
    goes_elsewhere feed.target.0 feed.in_port link.target.0 link.in_port (λ same. apart k d within (sym same))))
    ∙ ap (from_feed design) fed

pub nothing_is_source : NothingIsSource
nothing_is_source design node port no_link no_feed =
    ap (λ l. from_link l (from_feed design (position (feed_goes_to node port) design.feeds)))
    (none_passes (link_goes_to node port) design.links no_link)
    ∙ ap (from_feed design) (none_passes (feed_goes_to node port) design.feeds no_feed)

-- ---- the link that an in port reads
feed_is_no_link : (design : DesignParts) (o : Option ℕ) (number : ℕ) → from_feed design o ≡ source.Link number → ⊥
feed_is_no_link design None number is = absurd (cc)
feed_is_no_link design (Some f) number is = absurd (cc)

pub from_link_is : (design : DesignParts) (o feed : Option ℕ) (number : ℕ)
    → from_link o (from_feed design feed) ≡ source.Link number → o ≡ Some number
from_link_is design None feed number is = absurd (feed_is_no_link design feed number is)
from_link_is design (Some l) feed number is = let same : l ≡ number = cc in ap Some same

pub source_at : (design : DesignParts) (node k : ℕ) (c : Component) (src : PortSource)
    → slice_get (sources_of design node c) k ≡ Some src → source_of design node k ≡ src
source_at design node k c src is =
    let ports = upwards 0 (length c.behaviour.ins) in
    let found =
    option_map-parts (λ port. source_of design node port) (slice_get ports k) src
    (sym (slice_get-map (λ port. source_of design node port) ports k) ∙ is) in
    let place : found.0 ≡ 0 + k = (upwards_is 0 (length c.behaviour.ins) k found.0 found.1).0 in
    let same : k ≡ found.0 = omega arith in
    ap (source_of design node) same ∙ found.2

-- a link that an in port reads goes to that in port
pub reads_link : (design : DesignParts) (node k number : ℕ) (link : Link) → source_of design node k ≡ source.Link number
    → slice_get design.links number ≡ Some link → (link.target.0 ≡ node) × (link.in_port ≡ k)
reads_link design node k number link reads is =
    let found =
    found_at (link_goes_to node k) design.links number
    (from_link_is design (position (link_goes_to node k) design.links) (position (feed_goes_to node k) design.feeds)
    number reads) in
    let same : found.0 ≡ link = let both : Some found.0 ≡ Some link = sym found.1 ∙ is in cc in
    let goes =
    and_parts (nat_eq link.target.0 node) (nat_eq link.in_port k) (sym (ap (link_goes_to node k) same) ∙ found.2) in
    (eqb-true link.target.0 node goes.0, eqb-true link.in_port k goes.1)

-- no two links go to one in port
pub same_link : (design : DesignParts) (one two : ℕ) (a b : Link) → IsDesign design
    → slice_get design.links one ≡ Some a → slice_get design.links two ≡ Some b → a.target.0 ≡ b.target.0
    → a.in_port ≡ b.in_port → one ≡ two
same_link design one two a b rules is_a is_b node port =
    let same : port_place a.target.0 a.in_port ≡ port_place b.target.0 b.in_port = ap₂ port_place node port in
    elim (cases_order one two) [
      | inl same_number ↦ same_number
      | inr apart ↦ elim apart [
        | inl before ↦ let less : port_place a.target.0 a.in_port < port_place b.target.0 b.in_port =
            AllPairs-slice_get LinkPrecedes design.links one two a b rules.links.order before is_a is_b in
            absurd (omega arith)
        | inr after ↦ let less : port_place b.target.0 b.in_port < port_place a.target.0 a.in_port =
            AllPairs-slice_get LinkPrecedes design.links two one b a rules.links.order after is_b is_a in
            absurd (omega arith)
      ]
    ]
