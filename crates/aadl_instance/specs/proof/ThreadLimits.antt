-- The numbers of ports, variables and states of a thread in use, and their limits.
use Rattle.std.specs.Prelude.{◌≡◌, ℕ, ◌<◌, true, List, length, Some, Contains}
use Rattle.std.specs.Option.{option_map_or}
use Rattle.pals_base.specs.declared.limits.TheConstants.{PORTS, VARIABLES, STATES}
use Rattle.aadl_tree.specs.Declarations.{Implementation, PackageTree}
use Rattle.aadl_names.specs.NameResolution.{implementation_at, is_thread, ports_of}
use Rattle.aadl_instance.specs.declared.thread_limits.ThreadPart.{ThreadPart}
use Rattle.aadl_instance.specs.declared.thread_limits.ThreadPart.TheVariants.{Ports, Variables, States}
use Rattle.aadl_instance.specs.BehaviourSizes.{state_count, variable_count}

abbrev pub count_of : PackageTree ℕ → Implementation ℕ → ThreadPart → ℕ
count_of tree x Ports = length (ports_of tree x)
count_of tree x Variables = variable_count x
count_of tree x States = state_count x

abbrev pub most : ThreadPart → ℕ
most Ports = PORTS
most Variables = VARIABLES
most States = STATES

abbrev pub count_at : PackageTree ℕ → ℕ → ThreadPart → ℕ
count_at tree n part = option_map_or (λ x. count_of tree x part) (implementation_at tree n) 0

-- ---- threads in use
pub record IsUsedThread (tree : PackageTree ℕ) (used : List ℕ) (n : ℕ) (x : Implementation ℕ) : Type 0 where
  pub in_use : Contains used n
  pub is_implementation : implementation_at tree n ≡ Some x
  pub thread : is_thread x.category ≡ true

-- some thread in use exceeds a limit
pub record HasTooMany (tree : PackageTree ℕ) (used : List ℕ) (part : ThreadPart) : Type 0 where
  pub number : ℕ
  pub component : Implementation ℕ
  pub used_thread : IsUsedThread tree used number component
  pub over : most part < count_of tree component part
