-- The threads of an instance model are within the limits of a design.
use Rattle.std.specs.Prelude.{◌≡◌, ℕ, Some}
use Rattle.aadl_tree.specs.Declarations.{Implementation, PackageTree}
use Rattle.aadl_uses.specs.declared.thread_locations.ThreadAt.{ThreadAt}
use Rattle.model_violations.specs.ChainEnds.{component_of}
use Rattle.model_violations.specs.ThreadBehaviours.{IsSmall}

-- the component of a thread has at most as many ports and variables as a design may have
abbrev pub IsWithinLimits : PackageTree ℕ → ThreadAt → Type 0
IsWithinLimits tree thread = (x : Implementation ℕ) → component_of tree thread ≡ Some x → IsSmall tree x
