-- Permitted connections: both ends are declared, and their directions fit.
use Rattle.std.specs.Prelude.{◌≡◌, ℕ, true, false, [], Some, Contains}
use Rattle.aadl_tree.specs.Declarations.{PackageTree}
use Rattle.aadl_names.specs.declared.numbered_port.NumberedPort.{NumberedPort}
use Rattle.aadl_names.specs.declared.numbered_port.NumberedPort.TheVariants.{Own, Inner}
use Rattle.aadl_uses.specs.ContainmentAndUse.{below}
use Rattle.aadl_uses.specs.declared.connections_by_target.ConnectionPorts.{ConnectionPorts}
use Rattle.aadl_uses.specs.PortsOfConnections.{connection_ports_at}
use Rattle.aadl_chains.specs.proof.PortsJoinedInside.{is_thread_at, is_in_at}

-- connections may start at own in ports and out ports of subcomponents
abbrev pub MayLeave : PackageTree ℕ → ℕ → NumberedPort → Type 0
MayLeave tree n (Own p) = is_in_at tree n p ≡ true
MayLeave tree n (Inner s p) = (m : ℕ) × (below tree n s ≡ Some m) × (is_in_at tree m p ≡ false)

-- and end at own out ports and in ports of subcomponents
abbrev pub MayEnter : PackageTree ℕ → ℕ → NumberedPort → Type 0
MayEnter tree n (Own p) = is_in_at tree n p ≡ false
MayEnter tree n (Inner s p) = (m : ℕ) × (below tree n s ≡ Some m) × (is_in_at tree m p ≡ true)

abbrev pub NotBothOwn : NumberedPort → NumberedPort → Type 0
NotBothOwn (Own p) (Own q) = ⊥
NotBothOwn (Own p) (Inner s q) = Unit {0}
NotBothOwn (Inner s p) (Own q) = Unit {0}
NotBothOwn (Inner s p) (Inner t q) = Unit {0}

-- both ends of a connection are declared, and their directions fit
pub record IsPermitted (tree : PackageTree ℕ) (n : ℕ) (wire : ConnectionPorts) : Type 0 where
  pub source : NumberedPort
  pub target : NumberedPort
  pub source_is : wire.source ≡ Some source
  pub target_is : wire.target ≡ Some target
  pub leaves : MayLeave tree n source
  pub enters : MayEnter tree n target
  pub not_both : NotBothOwn source target

pub record ArePermitted (tree : PackageTree ℕ) : Type 0 where
  pub each : (n : ℕ) (wire : ConnectionPorts) → Contains (connection_ports_at tree n) wire → IsPermitted tree n wire
  pub threads : (n : ℕ) → is_thread_at tree n ≡ true → connection_ports_at tree n ≡ []
