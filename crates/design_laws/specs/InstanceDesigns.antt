-- The design of an instance model, if all its parts exist.
use Rattle.std.specs.Prelude.{ℕ, ◌≡◌, List, [], ◌∷◌, map, Option, Some, None}
use Rattle.std.specs.Option.{option_and_then}
use Rattle.pals_base.specs.declared.allowed_adaptors.Adaptor.{Adaptor}
use Rattle.pals_base.specs.declared.behaviour.BehaviourParts.{BehaviourParts}
use Rattle.pals_base.specs.BehaviourRules.{IsBehaviour}
use Rattle.pals_model.specs.declared.design.Component.{Component}
use Rattle.pals_model.specs.declared.design.Link.{Link}
use Rattle.pals_model.specs.declared.design.Feed.{Feed}
use Rattle.pals_model.specs.declared.design.Tap.{Tap}
use Rattle.pals_model.specs.declared.design.DesignParts.{DesignParts}
use Rattle.aadl_tree.specs.Declarations.{Connection, PackageTree}
use Rattle.aadl_uses.specs.declared.thread_locations.ThreadAt.{ThreadAt}
use Rattle.aadl_instance.specs.declared.chain.Chain.{Chain}
use Rattle.aadl_instance.specs.declared.chain.ChainEnd.{ChainEnd}
use Rattle.aadl_instance.specs.declared.chain.ChainEnd.TheVariants.{Thread, Root}
use Rattle.component_checks.specs.AdaptorTexts.{adaptor_named}
use Rattle.component_checks.specs.ThreadRatesAndFindings.{root_period, thread_rate}
use Rattle.component_checks.specs.RootFindings.{root_gamma}
use Rattle.model_violations.specs.ConnectionsAndCarriers.{connection_of, adaptor_text}
use Rattle.model_violations.specs.ChainEnds.{component_of}
use Rattle.model_violations.specs.ThreadBehaviours.{behaviour_in}
use Rattle.model_violations.specs.IgnoredProperties.{ignored_names}
use Rattle.model_violations.specs.Violations.{ShownInstance}

-- all elements of a list, if none is missing
abbrev pub put_first : {X : Type 0} → Option X → Option (List X) → Option (List X)
put_first None xs = None
put_first (Some x) None = None
put_first (Some x) (Some xs) = Some (x ∷ xs)

abbrev pub all_of : {X : Type 0} → List (Option X) → Option (List X)
all_of [] = Some []
all_of (x ∷ xs) = put_first x (all_of xs)

-- ---- a component from its path, rate and behaviour
abbrev pub component_by : List ℕ → Option ℕ → Option BehaviourParts → Option Component
component_by path None b = None
component_by path (Some rate) None = None
component_by path (Some rate) (Some b) = Some (record { path = path; rate = rate; behaviour = b })

abbrev pub thread_behaviour : PackageTree ℕ → ThreadAt → Option BehaviourParts
thread_behaviour tree thread = option_and_then (behaviour_in tree) (component_of tree thread)

abbrev pub component_in : PackageTree ℕ → ℕ → ThreadAt → Option Component
component_in tree root thread = component_by thread.path (thread_rate tree root thread) (thread_behaviour tree thread)

-- a thread's behaviour, if it has one, satisfies the rules of behaviours
abbrev pub HasRules : PackageTree ℕ → ThreadAt → Type 0
HasRules tree thread = (b : BehaviourParts) → thread_behaviour tree thread ≡ Some b → IsBehaviour b

-- ---- connection chains from their ends, with the adaptor of the connection whose properties apply
abbrev pub given_adaptor : Connection ℕ → Option Adaptor
given_adaptor c = option_and_then adaptor_named (adaptor_text c)

abbrev pub chain_adaptor : PackageTree ℕ → Chain → Option Adaptor
chain_adaptor tree x = option_and_then given_adaptor (connection_of tree x.carrier)

abbrev pub link_by : Option Adaptor → ChainEnd → ChainEnd → Option Link
link_by a (Thread s out) (Thread t in_port) =
    Some (record { source = s; out_port = out; target = t; in_port = in_port; adaptor = a })
link_by a (Thread s out) (Root name) = None
link_by a (Root name) to = None

abbrev pub feed_by : Option Adaptor → ChainEnd → ChainEnd → Option Feed
feed_by a (Root name) (Thread t in_port) = Some (record { name = name; target = t; in_port = in_port; adaptor = a })
feed_by a (Root name) (Root other) = None
feed_by a (Thread s out) to = None

abbrev pub tap_by : ChainEnd → ChainEnd → Option Tap
tap_by (Thread s out) (Root name) = Some (record { name = name; source = s; out_port = out })
tap_by (Thread s out) (Thread t in_port) = None
tap_by (Root name) to = None

abbrev pub link_in : PackageTree ℕ → Chain → Option Link
link_in tree x = link_by (chain_adaptor tree x) x.from x.to

abbrev pub feed_in : PackageTree ℕ → Chain → Option Feed
feed_in tree x = feed_by (chain_adaptor tree x) x.from x.to

abbrev pub tap_in : Chain → Option Tap
tap_in x = tap_by x.from x.to

-- ---- the whole design: all its parts exist
pub record IsDesignOf (tree : PackageTree ℕ) (s : ShownInstance) (design : DesignParts) : Type 0 where
  pub period : root_period tree s.root ≡ Some design.period
  pub gamma : root_gamma tree s.root ≡ Some design.gamma
  pub components : all_of (map (component_in tree s.root) s.threads) ≡ Some design.components
  pub links : all_of (map (link_in tree) s.links) ≡ Some design.links
  pub feeds : all_of (map (feed_in tree) s.feeds) ≡ Some design.feeds
  pub taps : all_of (map tap_in s.taps) ≡ Some design.taps
  pub ignored : design.ignored ≡ ignored_names tree s.root
