-- The limits of a design, and the first one that is exceeded.
use Rattle.std.specs.Prelude.{ℕ, ◌<◌, List, length, codes, Option, Some, None}
use Rattle.pals_base.specs.declared.limits.TheConstants.{COMPONENTS, LINKS, PORTS, VARIABLES, STATES, PATH_BYTES}
use Rattle.aadl_tree.specs.Declarations.{PackageTree}
use Rattle.aadl_names.specs.NameResolution.{ports_of}
use Rattle.aadl_uses.specs.ThreadsBelow.{MoreThan, IsThreadAt, PathBefore}
use Rattle.aadl_uses.specs.ThreadLocations.{ThreadWith, spelled_path}
use Rattle.aadl_instance.specs.BehaviourSizes.{variable_count, state_count}
use Rattle.aadl_chains.specs.LinksFeedsAndTaps.{IsLink, OtherTarget}
use Rattle.aadl_instance.specs.declared.limits.Limit.{Limit}
use Rattle.aadl_instance.specs.declared.limits.Limit.TheVariants.{Components, Links, Ports, Variables, States, Path}

abbrev pub name_of : Limit → List ℕ
name_of Components = codes "components"
name_of Links = codes "links"
name_of Ports = codes "ports"
name_of Variables = codes "variables"
name_of States = codes "states"
name_of Path = codes "path"

-- the line of the limit's faults
abbrev pub line_of : Limit → ℕ
line_of Components = 5
line_of Links = 6
line_of Ports = 7
line_of Variables = 8
line_of States = 9
line_of Path = 10

-- the quantity exceeds the limit
abbrev pub IsExceeded : PackageTree ℕ → ℕ → Limit → Type 0
IsExceeded tree root Components = MoreThan COMPONENTS (IsThreadAt tree root) PathBefore
IsExceeded tree root Links = MoreThan LINKS (IsLink tree root) OtherTarget
IsExceeded tree root Ports = ThreadWith tree root (λ x path. PORTS < length (ports_of tree x))
IsExceeded tree root Variables = ThreadWith tree root (λ x path. VARIABLES < variable_count x)
IsExceeded tree root States = ThreadWith tree root (λ x path. STATES < state_count x)
IsExceeded tree root Path = ThreadWith tree root (λ x path. PATH_BYTES < length (spelled_path tree root path))

-- the first exceeded limit, or `None` if no limit is exceeded
abbrev pub IsFirstExceeded : PackageTree ℕ → ℕ → Option Limit → Type 0
IsFirstExceeded tree root None = (limit : Limit) → IsExceeded tree root limit → ⊥
IsFirstExceeded tree root (Some limit) =
    IsExceeded tree root limit × ((other : Limit) → line_of other < line_of limit → IsExceeded tree root other → ⊥)
