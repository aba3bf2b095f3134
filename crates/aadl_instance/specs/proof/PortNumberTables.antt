-- A table of the numbers of ports among the ports of their direction.
use Rattle.std.specs.Prelude.{◌≡◌, ℕ, ◌+◌, ◌<◌, List, [], Option, Some, None, length, slice_index_or}
use Rattle.aadl_tree.specs.declared.declarations.Direction.{Direction}
use Rattle.aadl_tree.specs.Declarations.{Feature, PackageTree}
use Rattle.aadl_names.specs.NameResolution.{features_of, type_numbered}
use Rattle.aadl_instance.specs.InstancesByNumbers.{number_among}
use Rattle.aadl_instance.specs.declared.port_numbers.SeenPorts.{SeenPorts}
use Rattle.aadl_tree.specs.declared.declarations.Direction.TheVariants as directions

-- the row of the type with a number; no row without a type
abbrev pub row_at : List (List ℕ) → Option ℕ → List ℕ
row_at rows None = []
row_at rows (Some number) = slice_index_or rows number []

abbrev pub number_in : List (List ℕ) → Option ℕ → ℕ → ℕ
number_in rows of_type port = slice_index_or (row_at rows of_type) port 0

-- the row has the number of each port
abbrev pub AreAmong : List (Feature ℕ) → List ℕ → Type 0
AreAmong ports row = (port : ℕ) → port < length ports → slice_index_or row port 0 ≡ number_among ports port

-- each type has the row of its ports
abbrev pub AreNumbers : PackageTree ℕ → List (List ℕ) → Type 0
AreNumbers tree rows = (of_type : Option ℕ) → AreAmong (features_of (type_numbered tree of_type)) (row_at rows of_type)

-- ---- the counts
-- the number of ports with a direction
abbrev pub seen : SeenPorts → Direction → ℕ
seen s directions.In = s.inward
seen s directions.Out = s.outward

abbrev pub with_port : SeenPorts → Direction → SeenPorts
with_port s directions.In = record s { inward = s.inward + 1 }
with_port s directions.Out = record s { outward = s.outward + 1 }
