-- Ports of implementations that connections join to threads below, in any component of the implementation.
use Rattle.std.specs.Prelude.{◌≡◌, ℕ, Bool, true, false, not, List, Option, Some, None, Contains, if◌then◌else◌}
use Rattle.aadl_tree.specs.declared.declarations.Direction.{Direction}
use Rattle.aadl_tree.specs.Declarations.{PackageTree}
use Rattle.aadl_names.specs.declared.numbered_port.NumberedPort.{NumberedPort}
use Rattle.aadl_names.specs.declared.numbered_port.NumberedPort.TheVariants.{Own, Inner}
use Rattle.aadl_names.specs.NameResolution.{implementation_at, ports_at, direction_in}
use Rattle.aadl_names.specs.PackageNameFaults.{goes_in}
use Rattle.aadl_uses.specs.ContainmentAndUse.{below}
use Rattle.aadl_uses.specs.proof.ThreadCounts.{is_thread_in}
use Rattle.aadl_uses.specs.declared.connections_by_target.ConnectionPorts.{ConnectionPorts}
use Rattle.aadl_uses.specs.PortsOfConnections.{connection_ports_at}
use Rattle.aadl_chains.specs.declared.port_set.PortAt.{PortAt}
use Rattle.aadl_chains.specs.proof.PortSets.{has}
use Rattle.aadl_tree.specs.declared.declarations.Direction.TheVariants as directions

abbrev pub is_thread_at : PackageTree ℕ → ℕ → Bool
is_thread_at tree n = is_thread_in (implementation_at tree n)

-- whether a port of an implementation is an in port
abbrev pub is_in_at : PackageTree ℕ → ℕ → ℕ → Bool
is_in_at tree n port = goes_in (direction_in (ports_at tree (implementation_at tree n)) port)

abbrev pub is_way : Direction → Bool → Bool
is_way directions.In goes = goes
is_way directions.Out goes = not goes

-- the end of a connection at the subcomponent, for a port of this direction, and its other end
abbrev pub inner_end : Direction → ConnectionPorts → Option NumberedPort
inner_end directions.In wire = wire.target
inner_end directions.Out wire = wire.source

abbrev pub outer_end : Direction → ConnectionPorts → Option NumberedPort
outer_end directions.In wire = wire.source
outer_end directions.Out wire = wire.target

-- Connections lead from an in port of an implementation to a thread's in port, or to an out port of the
-- implementation from a thread's out port: the port is the thread's own, or it is joined to such a port of a
-- subcomponent.
pub data Reaches (tree : PackageTree ℕ) (d : Direction) : ℕ → ℕ → Type 0 where
  of_thread : {n port : ℕ} → is_thread_at tree n ≡ true → is_way d (is_in_at tree n port) ≡ true → Reaches tree d n port
  of_inner : {n port : ℕ} (s p m : ℕ) (wire : ConnectionPorts) → is_thread_at tree n ≡ false
      → Contains (connection_ports_at tree n) wire
      → outer_end d wire ≡ Some (Own port)
      → inner_end d wire ≡ Some (Inner s p)
      → below tree n s ≡ Some m → Reaches tree d m p → Reaches tree d n port

-- a port of a subcomponent
abbrev pub ReachesIn : PackageTree ℕ → Direction → ℕ → ℕ → ℕ → Type 0
ReachesIn tree d n s p = (m : ℕ) × (below tree n s ≡ Some m) × Reaches tree d m p

-- ---- represented by a set of ports
abbrev pub declaration_port : ℕ → ℕ → PortAt
declaration_port n port = record { declaration = n; port = port }

abbrev pub reaches_by : List PortAt → PackageTree ℕ → Direction → ℕ → ℕ → Bool
reaches_by ports tree d n port =
    if is_thread_at tree n then is_way d (is_in_at tree n port) else has ports (declaration_port n port)

abbrev pub reaches_in : List PortAt → PackageTree ℕ → Direction → Option ℕ → ℕ → Bool
reaches_in ports tree d None port = false
reaches_in ports tree d (Some n) port = reaches_by ports tree d n port

-- the own port that a connection joins to a port that reaches a thread
abbrev pub joined_inner : List PortAt → PackageTree ℕ → Direction → ℕ → ℕ → Option NumberedPort → Option ℕ
joined_inner ports tree d n port None = None
joined_inner ports tree d n port (Some (Own p)) = None
joined_inner ports tree d n port (Some (Inner s p)) =
    if reaches_in ports tree d (below tree n s) p then Some port else None

abbrev pub joined_by : List PortAt → PackageTree ℕ → Direction → ℕ → Option NumberedPort → Option NumberedPort
    → Option ℕ
joined_by ports tree d n None inner = None
joined_by ports tree d n (Some (Inner s p)) inner = None
joined_by ports tree d n (Some (Own port)) inner = joined_inner ports tree d n port inner

-- ---- incomplete sets
-- each port of the set reaches a thread
abbrev pub AreReaching : PackageTree ℕ → Direction → List PortAt → Type 0
AreReaching tree d ports = (n port : ℕ) → Contains ports (declaration_port n port) → Reaches tree d n port

-- each port of the implementation that reaches a thread is in the set
abbrev pub HasAll : PackageTree ℕ → Direction → List PortAt → ℕ → Type 0
HasAll tree d ports n =
    (port : ℕ) → is_thread_at tree n ≡ false → Reaches tree d n port → Contains ports (declaration_port n port)

abbrev pub HasAllBelow : PackageTree ℕ → Direction → List PortAt → ℕ → Type 0
HasAllBelow tree d ports n = (s m : ℕ) → below tree n s ≡ Some m → HasAll tree d ports m

-- a set after the port that one connection joins
pub record IsJoined (tree : PackageTree ℕ) (d : Direction) (n : ℕ) (wire : ConnectionPorts)
    (old new : List PortAt) : Type 0 where
  pub kept : (port : PortAt) → Contains old port → Contains new port
  pub sound : is_thread_at tree n ≡ false → Contains (connection_ports_at tree n) wire → AreReaching tree d old
      → AreReaching tree d new
  pub here : (port s p : ℕ) → outer_end d wire ≡ Some (Own port) → inner_end d wire ≡ Some (Inner s p)
      → reaches_in old tree d (below tree n s) p ≡ true
      → Contains new (declaration_port n port)

-- a set after the ports that the connections of one declaration join
pub record AreJoined (tree : PackageTree ℕ) (d : Direction) (n : ℕ) (old new : List PortAt) : Type 0 where
  pub kept : (port : PortAt) → Contains old port → Contains new port
  pub sound : AreReaching tree d old → AreReaching tree d new
  pub complete : HasAllBelow tree d old n → HasAll tree d new n

-- the set of all ports that reach threads
pub record IsInside (tree : PackageTree ℕ) (d : Direction) (ports : List PortAt) : Type 0 where
  pub sound : AreReaching tree d ports
  pub complete : (n : ℕ) → HasAll tree d ports n
