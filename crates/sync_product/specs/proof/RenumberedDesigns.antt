-- When two designs differ only by the numbers of their components.
use Rattle.std.specs.Prelude.{◌≡◌, ◌↔◌, ◌<◌, ℕ, List, [], map, length, All, Contains, slice_get, slice_index_or}
use Rattle.pals_base.specs.declared.basic_types.NodeNo.{NodeNo}
use Rattle.pals_base.specs.declared.basic_types.PortValue.{PortValue}
use Rattle.pals_model.specs.declared.design.Link.{Link}
use Rattle.pals_model.specs.declared.design.Feed.{Feed}
use Rattle.pals_model.specs.declared.design.Tap.{Tap}
use Rattle.pals_model.specs.declared.design.DesignParts.{DesignParts}
use Rattle.pals_model.specs.declared.environment.Env.{Env}
use Rattle.pals_model.specs.ComponentInputs.{root_inputs, place_of}

-- ---- other numbers
abbrev pub renumbered : (ℕ → ℕ) → NodeNo → NodeNo
renumbered to node = record { 0 = to node.0 }

-- the link between the same ports
abbrev pub renumbered_link : (ℕ → ℕ) → Link → Link
renumbered_link to link = record link { source = renumbered to link.source; target = renumbered to link.target }

-- the feed into the same port
abbrev pub renumbered_feed : (ℕ → ℕ) → Feed → Feed
renumbered_feed to feed = record feed { target = renumbered to feed.target }

-- the tap of the same port
abbrev pub renumbered_tap : (ℕ → ℕ) → Tap → Tap
renumbered_tap to tap = record tap { source = renumbered to tap.source }

-- the components of one design have other numbers in the other: component n of the one is component `to n` of the
-- other, and the links and the feeds of the other are the links and feeds of the one, in whatever order
pub record IsRenumbered (to : ℕ → ℕ) (a b : DesignParts) : Type 0 where
  pub period : b.period ≡ a.period
  pub gamma : b.gamma ≡ a.gamma
  pub count : length b.components ≡ length a.components
  pub component : (n : ℕ) → n < length a.components → slice_get b.components (to n) ≡ slice_get a.components n
  -- no two components have one number
  pub one_each : (m n : ℕ) → m < length a.components → n < length a.components → to m ≡ to n → m ≡ n
  pub links : (link : Link) → Contains b.links link ↔ Contains (map (renumbered_link to) a.links) link
  pub feeds : (feed : Feed) → Contains b.feeds feed ↔ Contains (map (renumbered_feed to) a.feeds) feed

-- ---- inputs
-- the values of the root in port of a name, round by round; `None` if the environment has no list for it
abbrev pub values_of : DesignParts → Env → List ℕ → List PortValue
values_of design env name = slice_index_or env.lists (place_of name (root_inputs design)) []

-- each root in port has the same values
abbrev pub AreSameInputs : DesignParts → DesignParts → Env → Env → Type 0
AreSameInputs a b env_a env_b = All (λ name. values_of b env_b name ≡ values_of a env_a name) (root_inputs a)
