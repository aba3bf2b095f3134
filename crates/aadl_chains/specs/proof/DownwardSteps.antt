-- A step down: the port of a subcomponent that provides the value of an own out port.
use Rattle.std.specs.Prelude.{◌≡◌, ℕ, false, Option, Some, None}
use Rattle.aadl_tree.specs.Declarations.{PackageTree}
use Rattle.aadl_names.specs.declared.numbered_port.NumberedPort.{NumberedPort}
use Rattle.aadl_names.specs.declared.numbered_port.NumberedPort.TheVariants.{Own, Inner}
use Rattle.aadl_uses.specs.ContainmentAndUse.{below}
use Rattle.aadl_uses.specs.proof.IncomingConnections.{connection_into}
use Rattle.aadl_chains.specs.proof.PortsJoinedInside.{is_in_at}
use Rattle.aadl_chains.specs.declared.chain_tracing.PortBelow.{PortBelow}

-- an out port of a subcomponent that names an implementation
abbrev pub IsFromInner : PackageTree ℕ → ℕ → NumberedPort → Type 0
IsFromInner tree n source = (s p m : ℕ) × (source ≡ Inner s p) × (below tree n s ≡ Some m) × (is_in_at tree m p ≡ false)

pub record IsLower (tree : PackageTree ℕ) (n : ℕ) (source : NumberedPort) (lower : PortBelow) : Type 0 where
  pub is : source ≡ Inner lower.sub lower.port
  pub names : below tree n lower.sub ≡ Some lower.number
  pub goes_out : is_in_at tree lower.number lower.port ≡ false

-- the port of a subcomponent that provides the value of an own out port, or `None` if the port has no incoming
-- connection
abbrev pub LeadsDown : PackageTree ℕ → ℕ → ℕ → Option PortBelow → Type 0
LeadsDown tree n out None = connection_into tree n (Own out) ≡ None
LeadsDown tree n out (Some lower) =
    (k : ℕ) × (connection_into tree n (Own out) ≡ Some (k, Inner lower.sub lower.port))
    × (below tree n lower.sub ≡ Some lower.number)
    × (is_in_at tree lower.number lower.port ≡ false)
