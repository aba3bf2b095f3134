-- The links, feeds and taps into the threads and ports that a loop has passed. For the contracts of `chain_search`.
use Rattle.std.specs.Prelude.{◌≡◌, ◌⊎◌, ℕ, ◌<◌, ◌≤◌, false, List, [], ◌∷◌, ◌++◌, map, reverse, length, Some, slice_get}
use Rattle.std.specs.declared.vec.Vec.{Vec}
use Rattle.std.specs.declared.alloc.Global.{Global}
use Rattle.pals_base.specs.declared.limits.TheConstants.{COMPONENTS, PORTS}
use Rattle.aadl_tree.specs.Declarations.{PackageTree}
use Rattle.aadl_names.specs.NameResolution.{ports_of, ports_at}
use Rattle.aadl_uses.specs.proof.PackageContainment.{containment}
use Rattle.aadl_uses.specs.ContainmentAndUse.{component_at}
use Rattle.aadl_uses.specs.ThreadsBelow.{Lists, IsThreadAt, PathBefore}
use Rattle.aadl_uses.specs.proof.ContainmentOrders.{IsOrder}
use Rattle.aadl_uses.specs.ThreadLocations.{ThreadWith}
use Rattle.aadl_chains.specs.proof.PortsJoinedInside.{is_thread_at}
use Rattle.aadl_chains.specs.Chains.{Port}
use Rattle.aadl_chains.specs.proof.PermittedConnections.{ArePermitted}
use Rattle.aadl_chains.specs.proof.UpwardWalks.{OneEach}
use Rattle.aadl_chains.specs.LinksFeedsAndTaps.{CarriedChain, IsLink, IsFeed, IsTap, TargetBefore, PortBefore}
use Rattle.aadl_instance.specs.declared.chain.Chain.{Chain}
use Rattle.aadl_instance.specs.declared.chain_search.Incoming.{Incoming}
use Rattle.aadl_instance.specs.declared.chain.ChainEnd.{ChainEnd}
use Rattle.aadl_chains.specs.proof.TracedChains.{begin_port}
use Rattle.aadl_chains.specs.declared.chain_tracing.ChainStart.{ChainStart}
use Rattle.aadl_chains.specs.declared.chain_tracing.ChainRoute.{ChainRoute}
use Rattle.aadl_instance.specs.InstancesByNumbers.{end_in, chain_in}
use Rattle.aadl_chains.specs.declared.chain_tracing.ChainStart.TheVariants as begins

-- paths, the innermost subcomponent first
abbrev pub paths_of : List (Vec ℕ Global) → List (List ℕ)
paths_of threads = map (λ path. reverse path.items) threads

-- The facts about a package in which the earlier lines have no findings, about an order of its declarations, and
-- about the paths of its threads.
pub record IsSettled (tree : PackageTree ℕ) (keys : List ℕ) (root : ℕ) (paths : List (List ℕ)) : Type 0 where
  pub sequence : IsOrder (containment tree) keys
  pub declared : ArePermitted tree
  pub one : OneEach tree root
  pub no_thread : is_thread_at tree root ≡ false
  pub threads : Lists (IsThreadAt tree root) PathBefore paths
  pub few : length paths ≤ COMPONENTS
  pub few_ports : ThreadWith tree root (λ x path. PORTS < length (ports_of tree x)) → ⊥

-- chains in the instance model's representation, for all chains that satisfy P, in an order
pub record AreShown (tree : PackageTree ℕ) (root : ℕ) (paths : List (List ℕ)) (P : CarriedChain → Type 0)
    (Before : CarriedChain → CarriedChain → Type 0)
    (chains : List Chain) : Type 0 where
  pub ends : List CarriedChain
  pub listed : Lists P Before ends
  pub shown : chains ≡ map (chain_in tree root paths) ends

-- the component at the path has a port with this number
abbrev pub HasPort : PackageTree ℕ → ℕ → Port → Type 0
HasPort tree root p = p.port < length (ports_at tree (component_at tree root p.path))

-- a port of the root or of a thread
abbrev pub IsChainStart : PackageTree ℕ → ℕ → ChainStart → Type 0
IsChainStart tree root (begins.Root port) = HasPort tree root (record { path = []; port = port })
IsChainStart tree root (begins.Thread path port) =
    IsThreadAt tree root (reverse path.items) × HasPort tree root (record { path = reverse path.items; port = port })

-- a port of one of the earlier threads, or an earlier port of this thread
abbrev pub IsPassed : List (List ℕ) → ℕ → ℕ → Port → Type 0
IsPassed paths node port to =
    ((k : ℕ) × (k < node) × (slice_get paths k ≡ Some to.path))
    ⊎ ((slice_get paths node ≡ Some to.path) × (to.port < port))

-- the links and feeds into the ports so far
pub record AreInto (tree : PackageTree ℕ) (root : ℕ) (paths : List (List ℕ)) (node port : ℕ)
    (incoming : Incoming) : Type 0 where
  pub links : AreShown tree root paths (λ ends. IsLink tree root ends × IsPassed paths node port ends.to) TargetBefore
      incoming.links
  pub feeds : AreShown tree root paths (λ ends. IsFeed tree root ends × IsPassed paths node port ends.to) TargetBefore
      incoming.feeds

-- the taps to the ports so far
abbrev pub AreTapsTo : PackageTree ℕ → ℕ → List (List ℕ) → ℕ → List Chain → Type 0
AreTapsTo tree root paths port taps =
    AreShown tree root paths (λ ends. IsTap tree root ends × (ends.to.port < port)) PortBefore taps

-- ---- one more
abbrev pub with_chain : Incoming → ChainStart → Chain → Incoming
with_chain incoming (begins.Root port) chain = record incoming { feeds = incoming.feeds ++ chain ∷ [] }
with_chain incoming (begins.Thread path port) chain = record incoming { links = incoming.links ++ chain ∷ [] }

-- the chain of a route, with its last port
abbrev pub chain_by : PackageTree ℕ → ℕ → List (List ℕ) → ChainRoute → ChainEnd → Chain
chain_by tree root paths route to =
    record {
      from = end_in tree root paths (begin_port route.begin);
      to = to;
      carrier = record { declaration = route.declaration; connection = route.connection };
    }
