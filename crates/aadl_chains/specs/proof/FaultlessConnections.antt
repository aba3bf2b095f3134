-- Connections without faults: at most one goes into each port in use, both ends of each are permitted, and threads
-- have none.
use Rattle.std.specs.Prelude.{◌≡◌, ℕ, true, Some, slice_get}
use Rattle.aadl_tree.specs.Declarations.{Connection, Implementation, PackageTree}
use Rattle.aadl_names.specs.declared.numbered_port.NumberedPort.{NumberedPort}
use Rattle.aadl_names.specs.NameResolution.{implementation_at, is_thread, end_port}
use Rattle.aadl_uses.specs.ContainmentAndUse.{IsInUse}
use Rattle.aadl_chains.specs.proof.PermittedConnections.{MayEnter}

pub record AreFaultless (tree : PackageTree ℕ) (root : ℕ) : Type 0 where
  pub one_source : (n i j : ℕ) (component : Implementation ℕ) (x y : Connection ℕ) (target : NumberedPort)
      → IsInUse tree root n
      → implementation_at tree n ≡ Some component
      → slice_get component.connections i ≡ Some x → slice_get component.connections j ≡ Some y
      → end_port tree component x.target ≡ Some target
      → end_port tree component y.target ≡ Some target → i ≡ j
  pub enters : (n i : ℕ) (component : Implementation ℕ) (x : Connection ℕ) (target : NumberedPort)
      → implementation_at tree n ≡ Some component
      → slice_get component.connections i ≡ Some x
      → end_port tree component x.target ≡ Some target → MayEnter tree n target
  pub threads : (n i : ℕ) (component : Implementation ℕ) (x : Connection ℕ) → implementation_at tree n ≡ Some component
      → is_thread component.category ≡ true → slice_get component.connections i ≡ Some x → ⊥
