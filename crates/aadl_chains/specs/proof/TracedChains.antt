-- Connection chains as the backward trace finds them: by their first port, the connection whose properties apply, and
-- the connections on the way.
use Rattle.std.specs.Prelude.{◌≡◌, ◌⊎◌, ℕ, false, List, [], reverse, Option, Some, None}
use Rattle.aadl_tree.specs.Declarations.{PackageTree}
use Rattle.aadl_uses.specs.ThreadsBelow.{IsThreadAt}
use Rattle.aadl_chains.specs.Chains.{Port, ConnectionAt, Leads, is_in, IsStart}
use Rattle.aadl_chains.specs.declared.chain_tracing.ChainStart.{ChainStart}
use Rattle.aadl_chains.specs.declared.chain_tracing.ChainRoute.{ChainRoute}
use Rattle.aadl_chains.specs.LinksFeedsAndTaps.{CarriedChain, IsLink, IsFeed, IsTap}
use Rattle.aadl_chains.specs.declared.chain_tracing.ChainStart.TheVariants as begins

abbrev pub begin_port : ChainStart → Port
begin_port (begins.Root port) = record { path = []; port = port }
begin_port (begins.Thread path port) = record { path = reverse path.items; port = port }

-- the connection chain to a port
abbrev pub carried_chain : Port → ChainRoute → CarriedChain
carried_chain to route =
    record { from = begin_port route.begin; to = to; declaration = route.declaration; connection = route.connection }

-- it is a thread's out port, from which a chain leads to another port, and no other chain leads there
pub record IsGiver (tree : PackageTree ℕ) (root : ℕ) (end from : Port) : Type 0 where
  pub thread : IsThreadAt tree root from.path
  pub out : is_in tree root from ≡ false
  pub chain : List ConnectionAt
  pub leads : Leads tree root chain from end
  pub only : (cs : List ConnectionAt) (other : Port) → IsStart tree root other → Leads tree root cs other end
      → other ≡ from

-- the thread that provides the value of a port, or `None` if no chain leads there
abbrev pub Descends : PackageTree ℕ → ℕ → Port → Option ChainStart → Type 0
Descends tree root end None = (cs : List ConnectionAt) (from : Port) → IsStart tree root from
    → Leads tree root cs from end → ⊥
Descends tree root end (Some (begins.Root port)) = ⊥
Descends tree root end (Some (begins.Thread path port)) = IsGiver tree root end (begin_port (begins.Thread path port))

abbrev pub IsOfKind : PackageTree ℕ → ℕ → ChainStart → CarriedChain → Type 0
IsOfKind tree root (begins.Root port) ends = IsFeed tree root ends
IsOfKind tree root (begins.Thread path port) ends = IsLink tree root ends

-- the only link or feed to a port
pub record IsRoute (tree : PackageTree ℕ) (root : ℕ) (to : Port) (route : ChainRoute) : Type 0 where
  pub kind : IsOfKind tree root route.begin (carried_chain to route)
  pub only : (ends : CarriedChain) → IsLink tree root ends ⊎ IsFeed tree root ends → ends.to ≡ to
      → ends ≡ carried_chain to route

-- the only link or feed, or `None` if there is none
abbrev pub Traces : PackageTree ℕ → ℕ → Port → Option ChainRoute → Type 0
Traces tree root to None = (ends : CarriedChain) → IsLink tree root ends ⊎ IsFeed tree root ends → ends.to ≡ to → ⊥
Traces tree root to (Some route) = IsRoute tree root to route

-- the only tap to a port
pub record IsTapRoute (tree : PackageTree ℕ) (root : ℕ) (to : Port) (route : ChainRoute) : Type 0 where
  pub is_tap : IsTap tree root (carried_chain to route)
  pub only : (ends : CarriedChain) → IsTap tree root ends → ends.to ≡ to → ends ≡ carried_chain to route

abbrev pub TracesTap : PackageTree ℕ → ℕ → Port → Option ChainRoute → Type 0
TracesTap tree root to None = (ends : CarriedChain) → IsTap tree root ends → ends.to ≡ to → ⊥
TracesTap tree root to (Some route) = IsTapRoute tree root to route

-- Connections lead from here to the end, and each chain to the end passes here.
pub record Passes (tree : PackageTree ℕ) (root : ℕ) (here end : Port) : Type 0 where
  pub chain : List ConnectionAt
  pub leads : Leads tree root chain here end
  pub through : (cs : List ConnectionAt) (from : Port) → IsStart tree root from → Leads tree root cs from end
      → (bs : List ConnectionAt) × Leads tree root bs from here
