-- Tables of sources, by component and in port, while they are made.
use Rattle.std.specs.Prelude.{ℕ, List, [], map, length, slice_set, slice_index_or, drop}
use Rattle.std.specs.List.{enumerate_from, position_from}
use Rattle.pals_base.specs.UpwardNumbers.{upwards}
use Rattle.pals_model.specs.declared.design.Component.{Component}
use Rattle.pals_model.specs.declared.design.DesignParts.{DesignParts}
use Rattle.pals_model.specs.declared.port_sources.PortSource.{PortSource}
use Rattle.pals_model.specs.ComponentInputs.{from_feed, from_link, feed_goes_to, link_goes_to}
use Rattle.pals_model.specs.declared.port_sources.PortSource.TheVariants as source

-- the table with this source for each in port
abbrev pub table_of : List Component → (ℕ → ℕ → PortSource) → List (List PortSource)
table_of components source_at =
    map (λ numbered. map (source_at numbered.0) (upwards 0 (length numbered.1.behaviour.ins)))
    (enumerate_from 0 components)

-- nothing comes to any in port
abbrev pub nothing : ℕ → ℕ → PortSource
nothing node port = source.Nothing

-- the feeds from a number on
abbrev pub fed_from : DesignParts → ℕ → ℕ → ℕ → PortSource
fed_from design at node port = from_feed design (position_from (feed_goes_to node port) at (drop at design.feeds))

-- all feeds, and the links from a number on
abbrev pub linked_from : DesignParts → ℕ → ℕ → ℕ → PortSource
linked_from design at node port =
    from_link (position_from (link_goes_to node port) at (drop at design.links)) (fed_from design 0 node port)

-- a table with another source for one in port
abbrev pub with_source : List (List PortSource) → ℕ → ℕ → PortSource → List (List PortSource)
with_source table node port s = slice_set table node (slice_set (slice_index_or table node []) port s)
