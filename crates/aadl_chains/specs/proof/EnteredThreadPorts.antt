-- The connections through which a thread's port is entered.
use Rattle.std.specs.Prelude.{◌≡◌, ℕ, ◌<◌, ◌+◌, List, [], ◌∷◌, ◌++◌, Option, Some, None, slice_get}
use Rattle.aadl_tree.specs.Declarations.{PackageTree}
use Rattle.aadl_names.specs.declared.numbered_port.NumberedPort.TheVariants.{Own, Inner}
use Rattle.aadl_uses.specs.ContainmentAndUse.{below}
use Rattle.aadl_uses.specs.declared.connections_by_target.ConnectionPorts.{ConnectionPorts}
use Rattle.aadl_uses.specs.PortsOfConnections.{connection_ports_at}
use Rattle.aadl_uses.specs.proof.IncomingConnections.{first_into_at}
use Rattle.aadl_chains.specs.proof.PortsJoinedInside.{ReachesIn}
use Rattle.aadl_chains.specs.Chains.{Port}
use Rattle.aadl_chains.specs.proof.UpwardWalks.{Crossing, at_root, crosses, walk_back, IsThreadPort}
use Rattle.aadl_tree.specs.declared.declarations.Direction.TheVariants as directions

-- connections lead to it from an own in port of the implementation
abbrev pub ComesFrom : PackageTree ℕ → ℕ → ℕ → Port → Type 0
ComesFrom tree n q port =
    IsThreadPort tree n port × ((last : Option ℕ) × (walk_back tree n None port.path port.port ≡ at_root last q))

-- it is the target of a link below the implementation
abbrev pub EndsLink : PackageTree ℕ → ℕ → Port → Type 0
EndsLink tree n port =
    IsThreadPort tree n port
    × ((c : Crossing) × (walk_back tree n None port.path port.port ≡ crosses c)
    × ReachesIn tree directions.Out c.declaration c.sub c.port)

-- it is entered through a connection of the implementation into a subcomponent
pub record IsEnteredThrough (tree : PackageTree ℕ) (n connection : ℕ) (port : Port) : Type 0 where
  pub sub : ℕ
  pub number : ℕ
  pub inner : List ℕ
  pub inner_port : ℕ
  pub path_is : port.path ≡ inner ++ sub ∷ []
  pub is_below : below tree n sub ≡ Some number
  pub comes : ComesFrom tree number inner_port (record { path = inner; port = port.port })
  pub first : first_into_at tree n (Inner sub inner_port) ≡ Some connection

-- it is the target of a link below a subcomponent
pub record IsLinkBelow (tree : PackageTree ℕ) (n sub : ℕ) (port : Port) : Type 0 where
  pub number : ℕ
  pub inner : List ℕ
  pub path_is : port.path ≡ inner ++ sub ∷ []
  pub is_below : below tree n sub ≡ Some number
  pub ends : EndsLink tree number (record { path = inner; port = port.port })

-- a connection comes from an own port
abbrev pub IsFromOwn : PackageTree ℕ → ℕ → ℕ → ℕ → Type 0
IsFromOwn tree n k q = (wire : ConnectionPorts) × (slice_get (connection_ports_at tree n) k ≡ Some wire)
    × (wire.source ≡ Some (Own q))

-- it comes from a port of a subcomponent that carries a thread's value
abbrev pub IsFromThread : PackageTree ℕ → ℕ → ℕ → Type 0
IsFromThread tree n k =
    (wire : ConnectionPorts) × (t q : ℕ) × (slice_get (connection_ports_at tree n) k ≡ Some wire)
    × (wire.source ≡ Some (Inner t q))
    × ReachesIn tree directions.Out n t q

-- one of the first i elements satisfies P
abbrev pub AmongFirst : (ℕ → Port → Type 0) → ℕ → Port → Type 0
AmongFirst P i port = (k : ℕ) × (k < i) × P k port

abbrev pub FromOwn : PackageTree ℕ → ℕ → ℕ → ℕ → Port → Type 0
FromOwn tree n q k port = IsFromOwn tree n k q × IsEnteredThrough tree n k port

abbrev pub FromThread : PackageTree ℕ → ℕ → ℕ → Port → Type 0
FromThread tree n k port = IsFromThread tree n k × IsEnteredThrough tree n k port
