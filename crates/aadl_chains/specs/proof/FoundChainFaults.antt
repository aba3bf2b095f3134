-- The faults at connections of implementations (on no connection chain, or not the first one into a port), added to
-- the faults found before.
use Rattle.std.specs.Prelude.{◌≡◌, ◌⊎◌, ℕ, Bool, List, [], ◌∷◌, Option, Some, slice_get, Contains, if◌then◌else◌}
use Rattle.aadl_tree.specs.Declarations.{Connection, PackageTree}
use Rattle.aadl_names.specs.declared.fault.PackageFault.{PackageFault}
use Rattle.aadl_names.specs.declared.fault.PackageFault.TheVariants.{DeadEnd, TwoSources}
use Rattle.aadl_names.specs.proof.FirstFaultSoFar.{found}
use Rattle.aadl_names.specs.NameResolution.{implementation_at, connections_of}
use Rattle.aadl_uses.specs.declared.connections_by_target.ConnectionPorts.{ConnectionPorts}
use Rattle.aadl_uses.specs.SecondConnections.{IsDuplicate}
use Rattle.aadl_uses.specs.PortsOfConnections.{connection_ports_at}
use Rattle.aadl_chains.specs.proof.ConnectionsOnChains.{IsOnChain}

-- exactly the elements with P are found, in some order
pub record FindsAll (P : PackageFault → Type 0) (old new : Option PackageFault) : Type 0 where
  pub faults : List PackageFault
  pub is : new ≡ found old faults
  pub each : (fault : PackageFault) → Contains faults fault → P fault
  pub all : (fault : PackageFault) → P fault → Contains faults fault

-- the connection with a number is on a connection chain
abbrev pub IsOnChainAt : PackageTree ℕ → ℕ → ℕ → ℕ → Type 0
IsOnChainAt tree root n k = (wire : ConnectionPorts) × (slice_get (connection_ports_at tree n) k ≡ Some wire)
    × IsOnChain tree root n wire

-- the fault of a connection that is on no chain, or that has the same target as an earlier one
pub record IsFoundAt (tree : PackageTree ℕ) (root n k : ℕ) (fault : PackageFault) : Type 0 where
  pub link : Connection ℕ
  pub is_connection : slice_get (connections_of (implementation_at tree n)) k ≡ Some link
  pub kind : ((IsOnChainAt tree root n k → ⊥) × (fault ≡ DeadEnd link.name.spelling link.name.at))
      ⊎ (IsDuplicate (connection_ports_at tree n) k × (fault ≡ TwoSources link.name.spelling link.name.at))

-- at some connection of the declaration
abbrev pub IsFoundIn : PackageTree ℕ → ℕ → ℕ → PackageFault → Type 0
IsFoundIn tree root n fault = (k : ℕ) × IsFoundAt tree root n k fault

-- the findings of a connection, by whether it is on a chain and whether it is the first one into its target
abbrev pub dead_end : Bool → Connection ℕ → List PackageFault
dead_end is_on_way link = if is_on_way then [] else DeadEnd link.name.spelling link.name.at ∷ []

abbrev pub second : Bool → Connection ℕ → List PackageFault
second is_second link = if is_second then TwoSources link.name.spelling link.name.at ∷ [] else []
