-- Laws of which root in ports a design has: they are the names of the feeds, each once, in order.
use Rattle.std.specs.Prelude.{◌≡◌, ◌↔◌, ◌<◌, ℕ, List, AllPairs, Some, slice_get}
use Rattle.std.specs.List.{Contains}
use Rattle.pals_base.specs.Names.{AreDistinct}
use Rattle.pals_model.specs.declared.design.Feed.{Feed}
use Rattle.pals_model.specs.declared.design.DesignParts.{DesignParts}
use Rattle.pals_model.specs.ComponentInputs.{feed_names, root_inputs, root_of, place_of}
use Rattle.pals_model.specs.PortKindsAndRates.{feed_kind, root_kind}
use Rattle.pals_model.specs.DesignRules.{IsDesign}

-- each name occurs once
abbrev pub RootInputsDiffer : Type 0
RootInputsDiffer = (design : DesignParts) → AreDistinct (root_inputs design)

-- they are the names of the feeds, no more and no fewer
abbrev pub RootInputsAreFeeds : Type 0
RootInputsAreFeeds =
    (design : DesignParts) (name : List ℕ) → Contains (root_inputs design) name ↔ Contains (feed_names design) name

-- they are in the order of their first feeds
abbrev pub RootInputsInOrder : Type 0
RootInputsInOrder =
    (design : DesignParts) → AllPairs (λ a b. place_of a (feed_names design) < place_of b (feed_names design))
    (root_inputs design)

-- the root in port that a feed reads has the feed's name
abbrev pub FeedHasRoot : Type 0
FeedHasRoot = (design : DesignParts) (number : ℕ) (feed : Feed) → slice_get design.feeds number ≡ Some feed →
    slice_get (root_inputs design) (root_of design number) ≡ Some feed.name

-- each feed of a name goes to an in port of the root in port's type
abbrev pub FeedsHaveRootKind : Type 0
FeedsHaveRootKind =
    (design : DesignParts) (number : ℕ) (feed : Feed) → IsDesign design → slice_get design.feeds number ≡ Some feed →
    feed_kind design feed ≡ root_kind design feed.name
