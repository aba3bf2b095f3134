-- Links, feeds and taps: the connection chains between threads, from the root to threads, and from threads to the
-- root. A feed carries an environment input, a tap an observed output.
use Rattle.std.specs.Prelude.{◌≡◌, ◌⊎◌, ℕ, Bool, true, false, ◌&&◌, ◌||◌, nat_eq, nat_lt, List, [], ◌∷◌, reverse}
use Rattle.std.specs.Prelude.{Contains, Option, Some, None, slice_get}
use Rattle.aadl_tree.specs.Declarations.{Connection, Implementation, PackageTree}
use Rattle.aadl_names.specs.declared.numbered_port.NumberedPort.{NumberedPort}
use Rattle.aadl_names.specs.declared.numbered_port.NumberedPort.TheVariants.{Own, Inner}
use Rattle.aadl_names.specs.NameResolution.{implementation_at, end_port}
use Rattle.aadl_uses.specs.ContainmentAndUse.{number_at_path}
use Rattle.aadl_uses.specs.ThreadsBelow.{IsThreadAt, path_before}
use Rattle.aadl_chains.specs.Chains.{Port, ConnectionAt, IsChain}

-- a connection chain without its inner connections; the carrier is a connection of a declaration
pub record CarriedChain : Type 0 where
  pub from : Port
  pub to : Port
  pub declaration : ℕ
  pub connection : ℕ

abbrev pub not_own : Option NumberedPort → Bool
not_own None = false
not_own (Some (Own p)) = false
not_own (Some (Inner s p)) = true

abbrev pub is_crossing : PackageTree ℕ → Implementation ℕ → Connection ℕ → Bool
is_crossing tree x c = not_own (end_port tree x c.source) && not_own (end_port tree x c.target)

-- the carrier is the connection whose properties apply to the chain: the one between two subcomponents, or the one in
-- the root's implementation
pub record Carries (tree : PackageTree ℕ) (root : ℕ) (crossing : Bool) (chain : List ConnectionAt)
    (ends : CarriedChain) : Type 0 where
  pub place : ConnectionAt
  pub component : Implementation ℕ
  pub link : Connection ℕ
  pub among : Contains chain place
  pub stands : number_at_path tree root place.path ≡ Some ends.declaration
  pub number : place.connection ≡ ends.connection
  pub is_component : implementation_at tree ends.declaration ≡ Some component
  pub is_link : slice_get component.connections ends.connection ≡ Some link
  pub kind : ((crossing ≡ true) × (is_crossing tree component link ≡ true)) ⊎ ((crossing ≡ false) × (place.path ≡ []))

abbrev pub IsLink : PackageTree ℕ → ℕ → CarriedChain → Type 0
IsLink tree root ends =
    (chain : List ConnectionAt) × IsChain tree root chain ends.from ends.to × IsThreadAt tree root ends.from.path
    × IsThreadAt tree root ends.to.path
    × Carries tree root true chain ends

abbrev pub IsFeed : PackageTree ℕ → ℕ → CarriedChain → Type 0
IsFeed tree root ends =
    (chain : List ConnectionAt) × IsChain tree root chain ends.from ends.to × (ends.from.path ≡ [])
    × IsThreadAt tree root ends.to.path
    × Carries tree root false chain ends

abbrev pub IsTap : PackageTree ℕ → ℕ → CarriedChain → Type 0
IsTap tree root ends =
    (chain : List ConnectionAt) × IsChain tree root chain ends.from ends.to × IsThreadAt tree root ends.from.path
    × (ends.to.path ≡ [])
    × Carries tree root false chain ends

-- they end at distinct ports
abbrev pub OtherTarget : CarriedChain → CarriedChain → Type 0
OtherTarget a b = a.to ≡ b.to → ⊥

-- in order of their targets: by component, then by the port's declaration
abbrev pub same_path : List ℕ → List ℕ → Bool
same_path [] [] = true
same_path [] (y ∷ ys) = false
same_path (x ∷ xs) [] = false
same_path (x ∷ xs) (y ∷ ys) = nat_eq x y && same_path xs ys

abbrev pub TargetBefore : CarriedChain → CarriedChain → Type 0
TargetBefore a b =
    (path_before (reverse a.to.path) (reverse b.to.path)
    || (same_path a.to.path b.to.path && nat_lt a.to.port b.to.port)) ≡ true

abbrev pub PortBefore : CarriedChain → CarriedChain → Type 0
PortBefore a b = nat_lt a.to.port b.to.port ≡ true
