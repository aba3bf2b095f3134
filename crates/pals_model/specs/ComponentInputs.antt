-- What a component reads in a round.
use Rattle.std.specs.Prelude.{if◌then◌else◌, ◌++◌, ℕ, nat_eq, ◌&&◌, Bool, bytes_eq, List, [], ◌∷◌, length, map}
use Rattle.std.specs.Prelude.{position, replicate, Option, Some, None, slice_get, slice_index_or}
use Rattle.std.specs.List.{list_any, enumerate_from}
use Rattle.std.specs.Option.{unwrap_or}
use Rattle.pals_base.specs.declared.basic_types.PortValue.{PortValue}
use Rattle.pals_base.specs.declared.basic_types.PortValue.TheVariants.{Absent}
use Rattle.pals_base.specs.Adaptors.{adapt}
use Rattle.pals_base.specs.Tuples.{column, columns}
use Rattle.pals_base.specs.UpwardNumbers.{upwards}
use Rattle.pals_model.specs.declared.design.Component.{Component}
use Rattle.pals_model.specs.declared.design.Link.{Link}
use Rattle.pals_model.specs.declared.design.Feed.{Feed}
use Rattle.pals_model.specs.declared.design.DesignParts.{DesignParts}
use Rattle.pals_model.specs.declared.environment.Env.{Env}
use Rattle.pals_model.specs.declared.port_sources.PortSource.{PortSource}
use Rattle.pals_model.specs.declared.port_sources.PortSource.TheVariants as source
use Rattle.pals_model.specs.PortKindsAndRates.{rate_of}

-- ---- the environment
-- the names that are not among the earlier ones, each once
abbrev pub new_names : List (List ℕ) → List (List ℕ) → List (List ℕ)
new_names before [] = []
new_names before (name ∷ names) =
    if list_any (λ other. bytes_eq name other) before then new_names before names
    else name ∷ new_names (before ++ name ∷ []) names

abbrev pub feed_names : DesignParts → List (List ℕ)
feed_names design = map (λ (input_vectors : Feed). input_vectors.name) design.feeds

-- the root in ports: the names of the feeds, each once, where it comes first
abbrev pub root_inputs : DesignParts → List (List ℕ)
root_inputs design = new_names [] (feed_names design)

-- the index of a name among names, 0 if it is not one of them
abbrev pub place_of : List ℕ → List (List ℕ) → ℕ
place_of name names = unwrap_or (position (bytes_eq name) names) 0

-- the place among the root in ports of the one that a feed reads
abbrev pub root_of : DesignParts → ℕ → ℕ
root_of design input_vectors = place_of (slice_index_or (feed_names design) input_vectors []) (root_inputs design)

-- the value that each root in port has in a round, absent past its list
abbrev pub values_at : Env → ℕ → List PortValue
values_at env round = column round env.lists

-- ---- where an in port reads from
abbrev pub link_goes_to : ℕ → ℕ → Link → Bool
link_goes_to node port link = nat_eq link.target.0 node && nat_eq link.in_port port

abbrev pub feed_goes_to : ℕ → ℕ → Feed → Bool
feed_goes_to node port input_vectors = nat_eq input_vectors.target.0 node && nat_eq input_vectors.in_port port

abbrev pub from_feed : DesignParts → Option ℕ → PortSource
from_feed design None = source.Nothing
from_feed design (Some input_vectors) = source.Feed input_vectors (root_of design input_vectors)

abbrev pub from_link : Option ℕ → PortSource → PortSource
from_link None otherwise = otherwise
from_link (Some link) otherwise = source.Link link

-- the link into an in port, or the feed into it, or nothing
abbrev pub source_of : DesignParts → ℕ → ℕ → PortSource
source_of design node port =
    from_link (position (link_goes_to node port) design.links)
    (from_feed design (position (feed_goes_to node port) design.feeds))

-- the sources of a component's in ports
abbrev pub sources_of : DesignParts → ℕ → Component → List PortSource
sources_of design node c = map (λ port. source_of design node port) (upwards 0 (length c.behaviour.ins))

-- the vectors of all components
abbrev pub all_sources : DesignParts → List (List PortSource)
all_sources design = map (λ numbered. sources_of design numbered.0 numbered.1) (enumerate_from 0 design.components)

-- ---- the values of a source
-- a root in port is read as a source of rate 1
abbrev pub read_feed : PortValue → ℕ → Option Feed → List PortValue
read_feed value rate None = replicate rate Absent
read_feed value rate (Some input_vectors) = adapt input_vectors.adaptor 1 rate (value ∷ [])

abbrev pub read_link : DesignParts → ℕ → List PortValue → Option Link → List PortValue
read_link design rate message None = replicate rate Absent
read_link design rate message (Some link) = adapt link.adaptor (rate_of design link.source.0) rate message

-- the tuple that an in port of a component of this rate brings, from the root in ports' values and the links' messages
abbrev pub brought_tuple : DesignParts → List PortValue → List (List PortValue) → ℕ → PortSource → List PortValue
brought_tuple design values messages rate source.Nothing = replicate rate Absent
brought_tuple design values messages rate (source.Feed input_vectors root) =
    read_feed (slice_index_or values root Absent) rate (slice_get design.feeds input_vectors)
brought_tuple design values messages rate (source.Link link) =
    read_link design rate (slice_index_or messages link []) (slice_get design.links link)

-- the input vectors of a component's round, one for each step: vector n has place n of each tuple
abbrev pub inputs_of : DesignParts → List PortValue → List (List PortValue) → ℕ → Component → List (List PortValue)
inputs_of design values messages node c =
    columns c.rate (map (brought_tuple design values messages c.rate) (sources_of design node c))

abbrev pub inputs_in : DesignParts → List PortValue → List (List PortValue) → ℕ → Option Component
    → List (List PortValue)
inputs_in design values messages node None = []
inputs_in design values messages node (Some c) = inputs_of design values messages node c

-- the input vectors of a component's round, by the component's number
unfoldable pub input_vectors : DesignParts → Env → List (List PortValue) → ℕ → ℕ → List (List PortValue)
input_vectors design env messages node round =
    inputs_in design (values_at env round) messages node (slice_get design.components node)

abbrev pub no_env : Env
no_env = record { lists = [] }
