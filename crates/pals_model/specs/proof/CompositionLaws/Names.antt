-- Laws of the names of components, in ports and links.
use Rattle.std.specs.Prelude.{◌≡◌, ℕ, List, IsSomeAnd, Some, slice_get}
use Rattle.pals_model.specs.declared.design.Component.{Component}
use Rattle.pals_model.specs.declared.design.Link.{Link}
use Rattle.pals_model.specs.declared.design.DesignParts.{DesignParts}
use Rattle.pals_model.specs.ComponentAndLinkNames.{target_name, link_name, node_named, link_named}
use Rattle.pals_model.specs.DesignRules.{IsTarget, IsDesign}

-- ---- components
-- a component is found by its path, and what a path finds has that path
abbrev pub NodeIsFound : Type 0
NodeIsFound = (design : DesignParts) (node : ℕ) (c : Component) →
    IsDesign design → slice_get design.components node ≡ Some c → node_named design c.path ≡ Some node

abbrev pub FoundNodeHasPath : Type 0
FoundNodeHasPath = (design : DesignParts) (node : ℕ) (path : List ℕ) →
    node_named design path ≡ Some node → IsSomeAnd (slice_get design.components node) (λ c. c.path ≡ path)

-- ---- in ports
-- no two in ports of a design have one name
abbrev pub TargetNamesDiffer : Type 0
TargetNamesDiffer = (design : DesignParts) (node port other_node other_port : ℕ) →
    IsDesign design → IsTarget design node port → IsTarget design other_node other_port →
    target_name design node port ≡ target_name design other_node other_port → (node ≡ other_node) × (port ≡ other_port)

-- ---- links
-- a link is found by its name, and what a name finds has that name
abbrev pub LinkIsFound : Type 0
LinkIsFound = (design : DesignParts) (number : ℕ) (link : Link) →
    IsDesign design → slice_get design.links number ≡ Some link
    → link_named design (link_name design link) ≡ Some number

abbrev pub FoundLinkHasName : Type 0
FoundLinkHasName = (design : DesignParts) (number : ℕ) (name : List ℕ) →
    link_named design name ≡ Some number
    → IsSomeAnd (slice_get design.links number) (λ link. link_name design link ≡ name)
