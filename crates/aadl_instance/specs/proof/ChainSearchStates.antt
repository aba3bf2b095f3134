-- The facts about the threads and ports of a search for chains, for the contracts of `chain_search`.
use Rattle.std.specs.Prelude.{◌≡◌, ℕ, List, Some, reverse, slice_get}
use Rattle.aadl_tree.specs.Declarations.{PackageTree}
use Rattle.aadl_tree.specs.proof.PackageViews.{placed}
use Rattle.aadl_uses.specs.ContainmentAndUse.{number_at_path}
use Rattle.aadl_chains.specs.LinksFeedsAndTaps.{CarriedChain}
use Rattle.aadl_instance.specs.declared.chain.Chain.{Chain}
use Rattle.aadl_instance.specs.declared.chain_search.Incoming.{Incoming}
use Rattle.aadl_instance.specs.declared.chain_search_context.ChainSearchContext.{ChainSearchContext}
use Rattle.aadl_instance.specs.declared.chain_search_context.NumberedThread.{NumberedThread}
use Rattle.aadl_instance.specs.proof.PortNumberTables.{AreNumbers}
use Rattle.aadl_instance.specs.proof.ChainsSoFar.{paths_of, IsSettled, AreShown, AreInto, AreTapsTo}

abbrev pub tree_of : ChainSearchContext → PackageTree ℕ
tree_of network = placed network.wires.now.uses.names.tree.now

-- the paths of its threads, the innermost subcomponent first
abbrev pub paths_in : ChainSearchContext → List (List ℕ)
paths_in network = paths_of network.threads.now

-- the package has no faults, these are an order of its declarations and its threads, and the table has the ports'
-- numbers
pub record IsReady (network : ChainSearchContext) : Type 0 where
  pub settled : IsSettled (tree_of network) network.order.now.keys network.root (paths_in network)
  pub numbers : AreNumbers (tree_of network) network.numbers.now

-- the thread with a number is the one at the path
abbrev pub IsNumbered : ChainSearchContext → ℕ → List ℕ → Type 0
IsNumbered network node path = slice_get (paths_in network) node ≡ Some path

-- it is the thread with its number, and its path leads to its declaration
pub record IsNode (network : ChainSearchContext) (node : NumberedThread) : Type 0 where
  pub numbered : IsNumbered network node.number.0 (reverse node.path.now)
  pub stands : number_at_path (tree_of network) network.root (reverse node.path.now) ≡ Some node.declaration

-- all chains of a kind, in an order
abbrev pub Shows : ChainSearchContext → (PackageTree ℕ → ℕ → CarriedChain → Type 0)
    → (CarriedChain → CarriedChain → Type 0) → List Chain → Type 0
Shows network Kind Before chains =
    AreShown (tree_of network) network.root (paths_in network) (Kind (tree_of network) network.root) Before chains

-- the links and feeds into all earlier threads, and into the earlier ports of this thread
abbrev pub ShowsInto : ChainSearchContext → ℕ → ℕ → Incoming → Type 0
ShowsInto network node port incoming = AreInto (tree_of network) network.root (paths_in network) node port incoming

-- the taps to the earlier ports
abbrev pub ShowsTaps : ChainSearchContext → ℕ → List Chain → Type 0
ShowsTaps network port taps = AreTapsTo (tree_of network) network.root (paths_in network) port taps
