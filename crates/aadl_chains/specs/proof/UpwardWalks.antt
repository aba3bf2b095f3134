-- The upward trace from an in port: from one component to the next around it, up to a connection between two
-- subcomponents, or the root.
use Rattle.std.specs.Prelude.{◌≡◌, ℕ, true, List, [], ◌∷◌, Option, Some, None}
use Rattle.aadl_tree.specs.Declarations.{PackageTree}
use Rattle.aadl_names.specs.declared.numbered_port.NumberedPort.{NumberedPort}
use Rattle.aadl_names.specs.declared.numbered_port.NumberedPort.TheVariants.{Own, Inner}
use Rattle.aadl_uses.specs.ContainmentAndUse.{number_at_path, IsInUse}
use Rattle.aadl_uses.specs.ThreadsBelow.{IsThreadAt}
use Rattle.aadl_uses.specs.SecondConnections.{target_in}
use Rattle.aadl_uses.specs.PortsOfConnections.{connection_ports_at}
use Rattle.aadl_uses.specs.proof.IncomingConnections.{connection_into}
use Rattle.aadl_chains.specs.Chains.{Port, is_in}

-- a connection between two subcomponents of the component at a path, and its source port
pub record Crossing : Type 0 where
  pub path : List ℕ
  pub declaration : ℕ
  pub connection : ℕ
  pub sub : ℕ
  pub port : ℕ

-- the end of the trace: a port without an incoming connection; a port of the root, with the last connection; or a
-- connection between two subcomponents
pub data WalkEnd : Type 0 where
  nowhere : WalkEnd
  at_root : Option ℕ → ℕ → WalkEnd
  crosses : Crossing → WalkEnd

abbrev pub walk_back_by : (ℕ → ℕ → WalkEnd) → List ℕ → ℕ → ℕ → NumberedPort → WalkEnd
walk_back_by up path n k (Own q) = up k q
walk_back_by up path n k (Inner t p) = crosses
    (record { path = path; declaration = n; connection = k; sub = t; port = p })

abbrev pub walk_back_along : (ℕ → ℕ → WalkEnd) → List ℕ → ℕ → Option (ℕ × NumberedPort) → WalkEnd
walk_back_along up path n None = nowhere
walk_back_along up path n (Some from) = walk_back_by up path n from.0 from.1

abbrev pub walk_back_into : PackageTree ℕ → (ℕ → ℕ → WalkEnd) → List ℕ → ℕ → ℕ → Option ℕ → WalkEnd
walk_back_into tree up path s port None = nowhere
walk_back_into tree up path s port (Some n) = walk_back_along up path n (connection_into tree n (Inner s port))

-- from a port of the component at a path, the innermost subcomponent first, after the last connection
abbrev pub walk_back : PackageTree ℕ → ℕ → Option ℕ → List ℕ → ℕ → WalkEnd
walk_back tree root last [] port = at_root last port
walk_back tree root last (s ∷ path) port =
    walk_back_into tree (λ k q. walk_back tree root (Some k) path q) path s port (number_at_path tree root path)

-- each port has at most one incoming connection of an implementation in use
abbrev pub OneEach : PackageTree ℕ → ℕ → Type 0
OneEach tree root = (n i j : ℕ) (target : NumberedPort) → IsInUse tree root n
    → target_in (connection_ports_at tree n) i ≡ Some target
    → target_in (connection_ports_at tree n) j ≡ Some target → i ≡ j

-- an in port of a thread
abbrev pub IsThreadPort : PackageTree ℕ → ℕ → Port → Type 0
IsThreadPort tree root port = IsThreadAt tree root port.path × (is_in tree root port ≡ true)
