-- Ports of implementations that connections join to threads or to the root's ports outside, in at least one component
-- of the implementation.
use Rattle.std.specs.Prelude.{◌≡◌, ◌⊎◌, ℕ, Bool, false, ◌||◌, nat_eq, List, Option, Some, None, Contains, if◌then◌else◌}
use Rattle.aadl_tree.specs.declared.declarations.Direction.{Direction}
use Rattle.aadl_tree.specs.Declarations.{PackageTree}
use Rattle.aadl_names.specs.declared.numbered_port.NumberedPort.{NumberedPort}
use Rattle.aadl_names.specs.declared.numbered_port.NumberedPort.TheVariants.{Own, Inner}
use Rattle.aadl_uses.specs.ContainmentAndUse.{below, IsInUse}
use Rattle.aadl_uses.specs.declared.connections_by_target.ConnectionPorts.{ConnectionPorts}
use Rattle.aadl_uses.specs.PortsOfConnections.{connection_ports_at}
use Rattle.aadl_chains.specs.declared.port_set.PortAt.{PortAt}
use Rattle.aadl_chains.specs.proof.PortSets.{has}
use Rattle.aadl_chains.specs.proof.PortsJoinedInside.{inner_end, outer_end, Reaches, ReachesIn, declaration_port}
use Rattle.aadl_chains.specs.proof.PortsJoinedInside.{reaches_in}
use Rattle.aadl_tree.specs.declared.declarations.Direction.TheVariants as directions

abbrev pub opposite : Direction → Direction
opposite directions.In = directions.Out
opposite directions.Out = directions.In

-- Connections lead to an in port of an implementation from a thread's out port or a root in port, or from its out
-- port to a thread's in port or a root out port: the port is the root's, or a connection around the implementation
-- joins it to such a port.
pub data LeadsOut (tree : PackageTree ℕ) (root : ℕ) (d : Direction) : ℕ → ℕ → Type 0 where
  of_root : {n port : ℕ} → n ≡ root → LeadsOut tree root d n port
  of_own : {n port : ℕ} (k s q : ℕ) (wire : ConnectionPorts) → Contains (connection_ports_at tree k) wire
      → inner_end d wire ≡ Some (Inner s port) → outer_end d wire ≡ Some (Own q)
      → below tree k s ≡ Some n → LeadsOut tree root d k q → LeadsOut tree root d n port
  of_beside : {n port : ℕ} (k s t q m : ℕ) (wire : ConnectionPorts) → IsInUse tree root k
      → Contains (connection_ports_at tree k) wire
      → inner_end d wire ≡ Some (Inner s port)
      → outer_end d wire ≡ Some (Inner t q)
      → below tree k s ≡ Some n → below tree k t ≡ Some m → Reaches tree (opposite d) m q → LeadsOut tree root d n port

-- from the end of a connection of an implementation connections lead to a thread or the root
abbrev pub LeadsFrom : PackageTree ℕ → ℕ → Direction → ℕ → NumberedPort → Type 0
LeadsFrom tree root d n (Own port) = LeadsOut tree root d n port
LeadsFrom tree root d n (Inner s port) = ReachesIn tree (opposite d) n s port

-- ---- represented by sets of ports, outside and inside
abbrev pub leads_from : List PortAt → List PortAt → PackageTree ℕ → ℕ → Direction → ℕ → Option NumberedPort → Bool
leads_from outside inside tree root d n None = false
leads_from outside inside tree root d n (Some (Own port)) = nat_eq n root || has outside (declaration_port n port)
leads_from outside inside tree root d n (Some (Inner s port)) =
    reaches_in inside tree (opposite d) (below tree n s) port

-- the port of a subcomponent, by the number of its implementation
abbrev pub port_below : Option ℕ → ℕ → Option PortAt
port_below None port = None
port_below (Some m) port = Some (declaration_port m port)

-- the port of a subcomponent at one end of a connection
abbrev pub port_in : PackageTree ℕ → ℕ → Option NumberedPort → Option PortAt
port_in tree n None = None
port_in tree n (Some (Own port)) = None
port_in tree n (Some (Inner s port)) = port_below (below tree n s) port

-- that port, if the other end leads to a thread or the root
abbrev pub led_by : List PortAt → List PortAt → PackageTree ℕ → ℕ → Direction → ℕ → ConnectionPorts → Option PortAt
led_by outside inside tree root d n wire =
    if leads_from outside inside tree root d n (outer_end d wire) then port_in tree n (inner_end d wire) else None

-- ---- incomplete sets
abbrev pub AreLeading : PackageTree ℕ → ℕ → Direction → List PortAt → Type 0
AreLeading tree root d ports = (n port : ℕ) → Contains ports (declaration_port n port) → LeadsOut tree root d n port

-- each port of the implementation that leads out is in the set, or the implementation is the root
abbrev pub HasLeading : PackageTree ℕ → ℕ → Direction → List PortAt → ℕ → Type 0
HasLeading tree root d ports n = (port : ℕ) → LeadsOut tree root d n port
    → (n ≡ root) ⊎ Contains ports (declaration_port n port)

-- a set after the port that one connection joins to the outside
pub record IsLed (tree : PackageTree ℕ) (root : ℕ) (d : Direction) (inside : List PortAt) (n : ℕ)
    (wire : ConnectionPorts)
    (old new : List PortAt) : Type 0 where
  pub kept : (port : PortAt) → Contains old port → Contains new port
  pub sound : IsInUse tree root n → Contains (connection_ports_at tree n) wire → AreLeading tree root d old
      → AreLeading tree root d new
  pub here : (port : PortAt) → led_by old inside tree root d n wire ≡ Some port → Contains new port

-- a set after the ports that the connections of an implementation in use join to the outside
pub record AreLed (tree : PackageTree ℕ) (root : ℕ) (d : Direction) (n : ℕ) (old new : List PortAt) : Type 0 where
  pub kept : (port : PortAt) → Contains old port → Contains new port
  pub sound : AreLeading tree root d old → AreLeading tree root d new
  pub complete : HasLeading tree root d old n → (wire : ConnectionPorts) (s port m : ℕ) (site : NumberedPort)
      → Contains (connection_ports_at tree n) wire
      → inner_end d wire ≡ Some (Inner s port) → outer_end d wire ≡ Some site
      → below tree n s ≡ Some m → LeadsFrom tree root d n site → Contains new (declaration_port m port)

-- the same set if the declaration is not in use
abbrev pub AreLedIfUsed : PackageTree ℕ → ℕ → Direction → ℕ → List PortAt → List PortAt → Type 0
AreLedIfUsed tree root d n old new =
    (IsInUse tree root n × AreLed tree root d n old new) ⊎ ((IsInUse tree root n → ⊥) × (new ≡ old))

-- the set of all ports that lead out
pub record IsOutside (tree : PackageTree ℕ) (root : ℕ) (d : Direction) (ports : List PortAt) : Type 0 where
  pub sound : AreLeading tree root d ports
  pub complete : (n : ℕ) → HasLeading tree root d ports n
