-- The instance model of a package by numbers, as the type `Instance` represents it: threads with the texts of their
-- paths, and chains between numbered threads and ports.
use Rattle.std.specs.Prelude.{◌≡◌, ℕ, Bool, false, not, List, [], ◌∷◌, map, take, count_by, Option, Some, None}
use Rattle.std.specs.Prelude.{slice_get}
use Rattle.std.specs.Option.{option_map_or}
use Rattle.pals_base.specs.declared.basic_types.NodeNo.{NodeNo}
use Rattle.aadl_tree.specs.declared.declarations.Direction.{Direction}
use Rattle.aadl_tree.specs.Declarations.{Feature, PackageTree}
use Rattle.aadl_names.specs.NameResolution.{first_number, ports_at}
use Rattle.aadl_names.specs.PackageNameFaults.{goes_in}
use Rattle.aadl_uses.specs.declared.thread_locations.ThreadAt.{ThreadAt}
use Rattle.aadl_uses.specs.ThreadLocations.{thread_at}
use Rattle.aadl_instance.specs.declared.chain.Chain.{Chain}
use Rattle.aadl_instance.specs.declared.chain.ChainEnd.{ChainEnd}
use Rattle.aadl_instance.specs.declared.chain.ChainEnd.TheVariants.{Thread, Root}
use Rattle.aadl_uses.specs.ContainmentAndUse.{component_at}
use Rattle.aadl_chains.specs.Chains.{Port, port_of}
use Rattle.aadl_chains.specs.LinksFeedsAndTaps.{same_path, CarriedChain}
use Rattle.aadl_instance.specs.InstancesByPaths.{InstanceParts, IsFlat}
use Rattle.aadl_tree.specs.declared.declarations.Direction.TheVariants as directions

abbrev pub same_direction : Direction → Direction → Bool
same_direction directions.In other = goes_in (Some other)
same_direction directions.Out other = not (goes_in (Some other))

-- ---- chains
-- the number of the thread at a path
abbrev pub node_at : List (List ℕ) → List ℕ → NodeNo
node_at threads path = record { 0 = option_map_or (λ n. n) (first_number (same_path path) threads) 0 }

abbrev pub goes_as : Option (Feature ℕ) → Feature ℕ → Bool
goes_as None other = false
goes_as (Some f) other = same_direction f.direction other.direction

-- the number of a port among the ports of its direction
abbrev pub number_among : List (Feature ℕ) → ℕ → ℕ
number_among ports port = count_by (goes_as (slice_get ports port)) (take port ports)

abbrev pub port_number : PackageTree ℕ → ℕ → Port → ℕ
port_number tree root p = number_among (ports_at tree (component_at tree root p.path)) p.port

abbrev pub port_name : Option (Feature ℕ) → List ℕ
port_name None = []
port_name (Some f) = f.name.spelling

-- the root has the empty path, and threads have all other paths
abbrev pub end_by : PackageTree ℕ → ℕ → List (List ℕ) → Port → List ℕ → ChainEnd
end_by tree root threads p [] = Root (port_name (port_of tree root p))
end_by tree root threads p (s ∷ path) = Thread (node_at threads p.path) (port_number tree root p)

abbrev pub end_in : PackageTree ℕ → ℕ → List (List ℕ) → Port → ChainEnd
end_in tree root threads p = end_by tree root threads p p.path

-- with the threads at these paths
abbrev pub chain_in : PackageTree ℕ → ℕ → List (List ℕ) → CarriedChain → Chain
chain_in tree root threads ends =
    record {
      from = end_in tree root threads ends.from;
      to = end_in tree root threads ends.to;
      carrier = record { declaration = ends.declaration; connection = ends.connection };
    }

abbrev pub chain_at : PackageTree ℕ → InstanceParts → CarriedChain → Chain
chain_at tree parts = chain_in tree parts.root parts.threads

-- the instance model of a flattened design of the package
pub record IsInstance (tree : PackageTree ℕ) (root : ℕ) (threads : List ThreadAt)
    (links feeds taps : List Chain) : Type 0 where
  pub name : List ℕ
  pub parts : InstanceParts
  pub flat : IsFlat tree name parts
  pub root_is : root ≡ parts.root
  pub threads_are : threads ≡ map (thread_at tree parts.root) parts.threads
  pub links_are : links ≡ map (chain_at tree parts) parts.links
  pub feeds_are : feeds ≡ map (chain_at tree parts) parts.feeds
  pub taps_are : taps ≡ map (chain_at tree parts) parts.taps
