-- What each design keeps.
use Rattle.std.specs.Prelude.{◌≡◌, ◌≢◌, ℕ, ◌+◌, ◌*◌, ◌%◌, ◌<◌, ◌≤◌, max, List, length, fold, All, AllPairs, IsTrue}
use Rattle.std.specs.Prelude.{slice_get}
use Rattle.pals_base.specs.declared.period_bound_and_releases.Gamma.{Gamma}
use Rattle.pals_base.specs.declared.behaviour.BehaviourParts.{BehaviourParts}
use Rattle.pals_base.specs.AllowedAdaptors.{divides_or_divided, is_allowed, suits_kind}
use Rattle.pals_base.specs.PeriodBoundAndReleases.{least_period}
use Rattle.pals_base.specs.Names.{is_word, is_path}
use Rattle.pals_base.specs.BehaviourRules.{IsBehaviour}
use Rattle.pals_base.specs.declared.limits.TheConstants.{HOUR, RATE, PORTS, VARIABLES, STATES, COMPONENTS, LINKS}
use Rattle.pals_base.specs.declared.limits.TheConstants.{PATH_BYTES}
use Rattle.pals_model.specs.declared.design.Component.{Component}
use Rattle.pals_model.specs.declared.design.Link.{Link}
use Rattle.pals_model.specs.declared.design.Feed.{Feed}
use Rattle.pals_model.specs.declared.design.Tap.{Tap}
use Rattle.pals_model.specs.declared.design.DesignParts.{DesignParts}
use Rattle.pals_model.specs.PortKindsAndRates.{rate_of, ins_in, outs_in, in_kind, out_kind, feed_kind}

-- a clock may be off, no range is reversed, and no number is above one hour
pub record IsGamma (g : Gamma) : Type 0 where
  pub skew : (1 ≤ g.eps) × (g.eps ≤ HOUR)
  pub execution : (g.alpha_min ≤ g.alpha_max) × (g.alpha_max ≤ HOUR)
  pub network : (g.mu_min ≤ g.mu_max) × (g.mu_max ≤ HOUR)

-- the limits of a thread
pub record IsSmall (b : BehaviourParts) : Type 0 where
  pub ports : length b.ins + length b.outs ≤ PORTS
  pub vars : length b.vars ≤ VARIABLES
  pub states : length b.states ≤ STATES

-- a component's steps divide the round
pub record IsComponent (period : ℕ) (c : Component) : Type 0 where
  pub path : IsTrue (is_path c.path)
  pub path_size : length c.path ≤ PATH_BYTES
  pub rate : (1 ≤ c.rate) × (c.rate ≤ RATE)
  pub divides : period % c.rate ≡ 0
  pub small : IsSmall c.behaviour
  pub behaviour : IsBehaviour c.behaviour

-- an out port of the design
pub record IsSource (design : DesignParts) (node port : ℕ) : Type 0 where
  pub node_is : node < length design.components
  pub port_is : port < outs_in (slice_get design.components node)

-- an in port of the design
pub record IsTarget (design : DesignParts) (node port : ℕ) : Type 0 where
  pub node_is : node < length design.components
  pub port_is : port < ins_in (slice_get design.components node)

-- the place of an in port among all, by its component and then by its number; a thread has at most 64 of them
abbrev pub port_place : ℕ → ℕ → ℕ
port_place node port = PORTS * node + port

-- ---- links, feeds and taps
pub record IsLink (design : DesignParts) (link : Link) : Type 0 where
  pub source : IsSource design link.source.0 link.out_port
  pub target : IsTarget design link.target.0 link.in_port
  pub rates : IsTrue (divides_or_divided (rate_of design link.source.0) (rate_of design link.target.0))
  pub allowed : IsTrue (is_allowed link.adaptor (rate_of design link.source.0) (rate_of design link.target.0))
  pub kinds : out_kind (slice_get design.components link.source.0) link.out_port
      ≡ in_kind (slice_get design.components link.target.0) link.in_port
  pub suits : IsTrue (suits_kind link.adaptor (in_kind (slice_get design.components link.target.0) link.in_port))

pub record IsFeed (design : DesignParts) (feed : Feed) : Type 0 where
  pub name : IsTrue (is_word feed.name)
  pub target : IsTarget design feed.target.0 feed.in_port
  pub allowed : IsTrue (is_allowed feed.adaptor 1 (rate_of design feed.target.0))
  pub suits : IsTrue (suits_kind feed.adaptor (in_kind (slice_get design.components feed.target.0) feed.in_port))

pub record IsTap (design : DesignParts) (tap : Tap) : Type 0 where
  pub name : IsTrue (is_word tap.name)
  pub source : IsSource design tap.source.0 tap.out_port

-- ---- the whole
abbrev pub greatest_rate : List Component → ℕ
greatest_rate components = fold (λ k c. max k c.rate) 1 components

abbrev pub LinkPrecedes : Link → Link → Type 0
LinkPrecedes a b = port_place a.target.0 a.in_port < port_place b.target.0 b.in_port

abbrev pub FeedPrecedes : Feed → Feed → Type 0
FeedPrecedes a b = port_place a.target.0 a.in_port < port_place b.target.0 b.in_port

-- feeds of one root in port have one type
pub record AgreeInKind (design : DesignParts) (a b : Feed) : Type 0 where
  pub kinds : a.name ≡ b.name → feed_kind design a ≡ feed_kind design b

-- no in port has two sources
abbrev pub IsApart : Feed → Link → Type 0
IsApart feed link = port_place feed.target.0 feed.in_port ≢ port_place link.target.0 link.in_port

pub record AreComponents (design : DesignParts) : Type 0 where
  pub each : All (IsComponent design.period) design.components
  pub count : length design.components ≤ COMPONENTS
  pub paths_differ : AllPairs (λ a b. a.path ≢ b.path) design.components

-- in order of target and in port, so no in port has two links
pub record AreLinks (design : DesignParts) : Type 0 where
  pub each : All (IsLink design) design.links
  pub count : length design.links ≤ LINKS
  pub order : AllPairs LinkPrecedes design.links

pub record AreFeeds (design : DesignParts) : Type 0 where
  pub each : All (IsFeed design) design.feeds
  pub order : AllPairs FeedPrecedes design.feeds
  pub kinds : AllPairs (AgreeInKind design) design.feeds
  pub apart : All (λ feed. All (IsApart feed) design.links) design.feeds

pub record AreTaps (design : DesignParts) : Type 0 where
  pub each : All (IsTap design) design.taps
  pub names_differ : AllPairs (λ a b. a.name ≢ b.name) design.taps

pub record IsDesign (design : DesignParts) : Type 0 where
  pub period : (1 ≤ design.period) × (design.period ≤ HOUR)
  pub gamma : IsGamma design.gamma
  pub components : AreComponents design
  pub links : AreLinks design
  pub feeds : AreFeeds design
  pub taps : AreTaps design
  -- each message has time to arrive
  pub bound : least_period design.gamma (greatest_rate design.components) ≤ design.period
