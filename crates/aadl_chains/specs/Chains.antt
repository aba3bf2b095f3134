-- The ports and connections of the flattened design, and the connection chains.
use Rattle.std.specs.Prelude.{◌≡◌, ◌⊎◌, ℕ, Bool, true, false, List, [], ◌∷◌, Option, Some, option_map, slice_get}
use Rattle.aadl_tree.specs.Declarations.{Feature, Connection, Implementation, PackageTree}
use Rattle.aadl_names.specs.declared.numbered_port.NumberedPort.{NumberedPort}
use Rattle.aadl_names.specs.declared.numbered_port.NumberedPort.TheVariants.{Own, Inner}
use Rattle.aadl_names.specs.NameResolution.{implementation_at, ports_at, end_port}
use Rattle.aadl_names.specs.PackageNameFaults.{goes_in}
use Rattle.aadl_uses.specs.ContainmentAndUse.{number_at_path, component_at}
use Rattle.aadl_uses.specs.ThreadsBelow.{IsThreadAt}

-- a port of the component at a path
pub record Port : Type 0 where
  pub path : List ℕ
  pub port : ℕ

-- a connection of the component at a path
pub record ConnectionAt : Type 0 where
  pub path : List ℕ
  pub connection : ℕ

-- the port of a site, in the component at the path
abbrev pub port_at : List ℕ → NumberedPort → Port
port_at path (Own p) = record { path = path; port = p }
port_at path (Inner s p) = record { path = s ∷ path; port = p }

-- The connection of a component goes from one port to another.
pub record Goes (tree : PackageTree ℕ) (root : ℕ) (place : ConnectionAt) (from to : Port) : Type 0 where
  pub number : ℕ
  pub component : Implementation ℕ
  pub link : Connection ℕ
  pub source : NumberedPort
  pub target : NumberedPort
  pub stands : number_at_path tree root place.path ≡ Some number
  pub is_component : implementation_at tree number ≡ Some component
  pub is_link : slice_get component.connections place.connection ≡ Some link
  pub is_source : end_port tree component link.source ≡ Some source
  pub is_target : end_port tree component link.target ≡ Some target
  pub leaves : from ≡ port_at place.path source
  pub enters : to ≡ port_at place.path target

-- Consecutive connections lead from one port to another; the list begins with the last of them.
abbrev pub Leads : PackageTree ℕ → ℕ → List ConnectionAt → Port → Port → Type 0
Leads tree root [] from to = from ≡ to
Leads tree root (c ∷ cs) from to = (mid : Port) × Leads tree root cs from mid × Goes tree root c mid to

-- the port of a component with this number, if there is one
abbrev pub port_of : PackageTree ℕ → ℕ → Port → Option (Feature ℕ)
port_of tree root p = slice_get (ports_at tree (component_at tree root p.path)) p.port

abbrev pub is_in : PackageTree ℕ → ℕ → Port → Bool
is_in tree root p = goes_in (option_map (λ f. f.direction) (port_of tree root p))

-- the first and the last ports of connection chains
abbrev pub IsStart : PackageTree ℕ → ℕ → Port → Type 0
IsStart tree root p =
    (IsThreadAt tree root p.path × (is_in tree root p ≡ false)) ⊎ ((p.path ≡ []) × (is_in tree root p ≡ true))

abbrev pub IsEnd : PackageTree ℕ → ℕ → Port → Type 0
IsEnd tree root p =
    (IsThreadAt tree root p.path × (is_in tree root p ≡ true)) ⊎ ((p.path ≡ []) × (is_in tree root p ≡ false))

-- A connection chain: from a thread's out port or a root in port to a thread's in port or a root out port.
pub record IsChain (tree : PackageTree ℕ) (root : ℕ) (chain : List ConnectionAt) (from to : Port) : Type 0 where
  pub leads : Leads tree root chain from to
  pub start : IsStart tree root from
  pub ends : IsEnd tree root to
