-- The names by which texts speak of components and links.
use Rattle.std.specs.Prelude.{ℕ, codes, bytes_eq, List, [], ◌++◌, position, Option, Some, None, slice_get}
use Rattle.pals_base.specs.declared.behaviour.PortDecl.{PortDecl}
use Rattle.pals_model.specs.declared.design.Component.{Component}
use Rattle.pals_model.specs.declared.design.Link.{Link}
use Rattle.pals_model.specs.declared.design.DesignParts.{DesignParts}

abbrev pub port_name : Option PortDecl → List ℕ
port_name None = []
port_name (Some port) = port.name

abbrev pub in_port_name : Option Component → ℕ → List ℕ
in_port_name None port = []
in_port_name (Some c) port = c.path ++ codes "." ++ port_name (slice_get c.behaviour.ins port)

-- the name of an in port: its component's path, a `.`, and its own name
abbrev pub target_name : DesignParts → ℕ → ℕ → List ℕ
target_name design node port = in_port_name (slice_get design.components node) port

-- the name of a link is that of the in port that it goes to
abbrev pub link_name : DesignParts → Link → List ℕ
link_name design link = target_name design link.target.0 link.in_port

-- the number of the component of this path
abbrev pub node_named : DesignParts → List ℕ → Option ℕ
node_named design path = position (λ c. bytes_eq path c.path) design.components

-- the number of the link of this name
abbrev pub link_named : DesignParts → List ℕ → Option ℕ
link_named design name = position (λ link. bytes_eq name (link_name design link)) design.links
