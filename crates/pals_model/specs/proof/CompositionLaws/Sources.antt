-- Laws of the inputs of in ports.
use Rattle.std.specs.Prelude.{◌≡◌, ℕ, List, [], ◌∷◌, All, IsFalse, Some, slice_get, slice_index_or, replicate}
use Rattle.pals_base.specs.declared.basic_types.PortValue.{PortValue}
use Rattle.pals_base.specs.declared.basic_types.PortValue.TheVariants.{Absent}
use Rattle.pals_base.specs.Adaptors.{adapt}
use Rattle.pals_model.specs.declared.design.Link.{Link}
use Rattle.pals_model.specs.declared.design.Feed.{Feed}
use Rattle.pals_model.specs.declared.design.DesignParts.{DesignParts}
use Rattle.pals_model.specs.ComponentInputs.{root_of, link_goes_to, feed_goes_to, source_of, brought_tuple}
use Rattle.pals_model.specs.PortKindsAndRates.{rate_of}
use Rattle.pals_model.specs.DesignRules.{IsDesign}
use Rattle.pals_model.specs.declared.port_sources.PortSource.TheVariants as source

-- ---- its source
-- the in port of a link reads from that link
abbrev pub LinkIsSource : Type 0
LinkIsSource =
    (design : DesignParts) (number : ℕ) (link : Link) → IsDesign design → slice_get design.links number ≡ Some link →
    source_of design link.target.0 link.in_port ≡ source.Link number

-- the in port of a feed reads from that feed
abbrev pub FeedIsSource : Type 0
FeedIsSource =
    (design : DesignParts) (number : ℕ) (feed : Feed) → IsDesign design → slice_get design.feeds number ≡ Some feed →
    source_of design feed.target.0 feed.in_port ≡ source.Feed number (root_of design number)

-- an in port that no link and no feed goes to reads from nothing
abbrev pub NothingIsSource : Type 0
NothingIsSource = (design : DesignParts) (node port : ℕ) →
    All (λ link. IsFalse (link_goes_to node port link)) design.links
    → All (λ feed. IsFalse (feed_goes_to node port feed)) design.feeds →
    source_of design node port ≡ source.Nothing

-- ---- the values of a source
-- a link brings its message, adapted from its source's rate
abbrev pub LinkBringsMessage : Type 0
LinkBringsMessage =
    (design : DesignParts) (values : List PortValue) (messages : List (List PortValue)) (rate number : ℕ)
    (link : Link) →
    slice_get design.links number ≡ Some link →
    brought_tuple design values messages rate (source.Link number)
    ≡ adapt link.adaptor (rate_of design link.source.0) rate (slice_index_or messages number [])

-- a feed brings the value of its root in port, adapted from the rate 1
abbrev pub FeedBringsValue : Type 0
FeedBringsValue =
    (design : DesignParts) (values : List PortValue) (messages : List (List PortValue)) (rate number root : ℕ)
    (feed : Feed) →
    slice_get design.feeds number ≡ Some feed →
    brought_tuple design values messages rate (source.Feed number root)
    ≡ adapt feed.adaptor 1 rate (slice_index_or values root Absent ∷ [])

-- nothing brings absent places
abbrev pub NothingBringsAbsent : Type 0
NothingBringsAbsent = (design : DesignParts) (values : List PortValue) (messages : List (List PortValue)) (rate : ℕ) →
    brought_tuple design values messages rate source.Nothing ≡ replicate rate Absent
