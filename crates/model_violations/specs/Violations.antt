-- The content of an instance model that violations depend on, and all its violations, sorted by position and then by
-- rule.
use Rattle.std.specs.Prelude.{ℕ, nat_eq, nat_lt, Bool, ◌&&◌, ◌||◌, List, ◌++◌, map, flat_map, Option}
use Rattle.std.specs.List.Sorted.{IsSortedBy, IsStableBy}
use Rattle.aadl_tree.specs.Declarations.{PackageTree}
use Rattle.aadl_uses.specs.declared.thread_locations.ThreadAt.{ThreadAt}
use Rattle.aadl_instance.specs.declared.chain.Chain.{Chain}
use Rattle.aadl_instance.specs.InstancesByPaths.{InstanceParts}
use Rattle.aadl_instance.specs.InstancesByNumbers.{chain_at}
use Rattle.aadl_uses.specs.ThreadLocations.{thread_at}
use Rattle.annex_resolve.specs.declared.violation.Violation.{Violation}
use Rattle.component_checks.specs.ThreadRatesAndFindings.{thread_rate, greatest_rate, thread_findings}
use Rattle.component_checks.specs.RootFindings.{root_findings}
use Rattle.model_violations.specs.ConnectionsAndCarriers.{carries}
use Rattle.model_violations.specs.ChainFindings.{link_findings, feed_findings, tap_findings}
use Rattle.model_violations.specs.UsedDeclarations.{IsUse, type_used}
use Rattle.model_violations.specs.DeclarationFindings.{declarations_findings}

-- the content of an instance model that violations depend on
pub record ShownInstance : Type 0 where
  pub root : ℕ
  pub threads : List ThreadAt
  pub links : List Chain
  pub feeds : List Chain
  pub taps : List Chain

-- the content of the instance model of a flattened design
abbrev pub shown_by : PackageTree ℕ → InstanceParts → ShownInstance
shown_by tree parts = record {
  root = parts.root;
  threads = map (thread_at tree parts.root) parts.threads;
  links = map (chain_at tree parts) parts.links;
  feeds = map (chain_at tree parts) parts.feeds;
  taps = map (chain_at tree parts) parts.taps;
}

-- ---- each rule in the order of components, links or connections
abbrev pub rates_of : PackageTree ℕ → ShownInstance → List (Option ℕ)
rates_of tree s = map (thread_rate tree s.root) s.threads

abbrev pub carrier_numbers : Chain → ℕ × ℕ
carrier_numbers x = (x.carrier.declaration, x.carrier.connection)

-- the carriers of links, feeds or taps
abbrev pub carriers_of : ShownInstance → List (ℕ × ℕ)
carriers_of s = map carrier_numbers s.links ++ map carrier_numbers s.feeds ++ map carrier_numbers s.taps

-- for the rates of the threads
abbrev pub chain_findings : PackageTree ℕ → ShownInstance → List (Option ℕ) → List Violation
chain_findings tree s rates =
    flat_map (link_findings tree s.threads rates) s.links ++ flat_map (feed_findings tree s.threads rates) s.feeds
    ++ flat_map (tap_findings tree s.threads) s.taps

-- with the predicate of the declarations in use
abbrev pub used_findings : PackageTree ℕ → ShownInstance → (ℕ → Bool) → List Violation
used_findings tree s used = declarations_findings tree s.root used (type_used tree used) (carries (carriers_of s))

unfoldable pub findings : PackageTree ℕ → ShownInstance → (ℕ → Bool) → List Violation
findings tree s used =
    root_findings tree s.root (greatest_rate (rates_of tree s)) ++ flat_map (thread_findings tree s.root) s.threads
    ++ chain_findings tree s (rates_of tree s) ++ used_findings tree s used

-- ---- by position, then by rule
abbrev pub goes_before : Violation → Violation → Bool
goes_before a b = nat_lt a.at b.at || (nat_eq a.at b.at && nat_lt a.number b.number)

-- all violations in this order; violations with equal position and rule keep the order of the checks
pub record AreViolations (tree : PackageTree ℕ) (s : ShownInstance) (list : List Violation) : Type 0 where
  pub used : ℕ → Bool
  pub is_use : IsUse tree s.root used
  pub in_order : IsSortedBy goes_before list
  pub same : IsStableBy goes_before (findings tree s used) list
