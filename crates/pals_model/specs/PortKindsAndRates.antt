-- The in ports and out ports of components, their kinds and their rates, and the kinds of feeds and of the root's in
-- ports.
use Rattle.std.specs.Prelude.{ℕ, bytes_eq, List, length, find, Option, Some, None, slice_get}
use Rattle.pals_base.specs.declared.behaviour.Kind.{Kind}
use Rattle.pals_base.specs.declared.behaviour.Kind.TheVariants.{Integer}
use Rattle.pals_base.specs.declared.behaviour.PortDecl.{PortDecl}
use Rattle.pals_model.specs.declared.design.Component.{Component}
use Rattle.pals_model.specs.declared.design.Feed.{Feed}
use Rattle.pals_model.specs.declared.design.DesignParts.{DesignParts}

abbrev pub ins_in : Option Component → ℕ
ins_in None = 0
ins_in (Some c) = length c.behaviour.ins

abbrev pub outs_in : Option Component → ℕ
outs_in None = 0
outs_in (Some c) = length c.behaviour.outs

-- the type of a port; the type of numbers if it does not exist
abbrev pub kind_of : Option PortDecl → Kind
kind_of None = Integer
kind_of (Some port) = port.kind

abbrev pub in_kind : Option Component → ℕ → Kind
in_kind None port = Integer
in_kind (Some c) port = kind_of (slice_get c.behaviour.ins port)

abbrev pub out_kind : Option Component → ℕ → Kind
out_kind None port = Integer
out_kind (Some c) port = kind_of (slice_get c.behaviour.outs port)

-- the type of the in port that a feed goes to
abbrev pub feed_kind : DesignParts → Feed → Kind
feed_kind design feed = in_kind (slice_get design.components feed.target.0) feed.in_port

-- ---- root in ports
abbrev pub first_kind : DesignParts → Option Feed → Kind
first_kind design None = Integer
first_kind design (Some feed) = feed_kind design feed

-- the type of the root in port of a name: that of the in port that its first feed goes to
abbrev pub root_kind : DesignParts → List ℕ → Kind
root_kind design name = first_kind design (find (λ feed. bytes_eq name feed.name) design.feeds)

abbrev pub rate_in : Option Component → ℕ
rate_in None = 1
rate_in (Some c) = c.rate

-- the rate of a component
abbrev pub rate_of : DesignParts → ℕ → ℕ
rate_of design node = rate_in (slice_get design.components node)
