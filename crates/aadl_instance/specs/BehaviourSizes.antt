-- The numbers of variables and states of a thread, which are limited.
use Rattle.std.specs.Prelude.{ℕ, List, length, Option, Some, None}
use Rattle.aadl_tree.specs.Annexes.{AnnexTree}
use Rattle.aadl_tree.specs.Declarations.{Implementation}
use Rattle.aadl_names.specs.BehaviourAnnexes.{behaviours, variables_of, states_of, first_behaviour}

abbrev pub count_in : {X : Type 0} → (AnnexTree ℕ → List X) → Option (AnnexTree ℕ) → ℕ
count_in of None = 0
count_in of (Some tree) = length (of tree)

-- the variables and states of the first behaviour of an implementation
abbrev pub variable_count : Implementation ℕ → ℕ
variable_count x = count_in variables_of (first_behaviour (behaviours x.annexes))

abbrev pub state_count : Implementation ℕ → ℕ
state_count x = count_in states_of (first_behaviour (behaviours x.annexes))
