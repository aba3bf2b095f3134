-- Connections on no connection chain, and connections that share a target port.
use Rattle.std.specs.Prelude.{◌≡◌, ◌⊎◌, ◌≢◌, ℕ, List, Some, slice_get, Contains}
use Rattle.aadl_tree.specs.Declarations.{Connection, PackageTree}
use Rattle.aadl_names.specs.declared.fault.PackageFault.{PackageFault}
use Rattle.aadl_names.specs.declared.fault.PackageFault.TheVariants.{DeadEnd, TwoSources}
use Rattle.aadl_names.specs.NameResolution.{implementation_at, connections_of}
use Rattle.aadl_uses.specs.ContainmentAndUse.{number_at_path, IsInUse}
use Rattle.aadl_uses.specs.SecondConnections.{IsDuplicate}
use Rattle.aadl_uses.specs.PortsOfConnections.{connection_ports_at}
use Rattle.aadl_chains.specs.Chains.{IsChain, ConnectionAt, Port}

-- a connection of an implementation in use that is on no connection chain in any component of the implementation
pub record IsDeadEnd (tree : PackageTree ℕ) (root : ℕ) (x : Connection ℕ) : Type 0 where
  pub number : ℕ
  pub connection : ℕ
  pub used : IsInUse tree root number
  pub is_connection : slice_get (connections_of (implementation_at tree number)) connection ≡ Some x
  pub on_none : (chain : List ConnectionAt) (from to : Port) (place : ConnectionAt) → IsChain tree root chain from to
      → Contains chain place
      → number_at_path tree root place.path ≡ Some number → place.connection ≢ connection

-- a connection of an implementation in use with the same target as an earlier one
pub record IsSecondEnd (tree : PackageTree ℕ) (root : ℕ) (x : Connection ℕ) : Type 0 where
  pub number : ℕ
  pub connection : ℕ
  pub used : IsInUse tree root number
  pub is_connection : slice_get (connections_of (implementation_at tree number)) connection ≡ Some x
  pub is_second : IsDuplicate (connection_ports_at tree number) connection

abbrev pub IsEndFault : PackageTree ℕ → ℕ → PackageFault → Type 0
IsEndFault tree root fault =
    ((x : Connection ℕ) × IsDeadEnd tree root x × (fault ≡ DeadEnd x.name.spelling x.name.at))
    ⊎ ((x : Connection ℕ) × IsSecondEnd tree root x × (fault ≡ TwoSources x.name.spelling x.name.at))
