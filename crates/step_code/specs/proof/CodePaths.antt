-- Paths through code as lists of places, and their weights.
use Rattle.std.specs.Prelude.{ℕ, ◌+◌, List, [], ◌∷◌}
use Rattle.step_code.specs.declared.instr.Instr.{Instr}
use Rattle.step_code.specs.SuccessorsAndWeights.{forward_successors_at, weight_at}
use Rattle.step_code.specs.proof.StackHeights.{Member}

-- a place and the following ones are a path: each leads to the next
abbrev pub IsPath : List Instr → ℕ → List ℕ → Type 0
IsPath code place [] = Unit {0}
IsPath code place (next ∷ rest) = Member (forward_successors_at code place) next × IsPath code next rest

abbrev pub path_weight : List Instr → ℕ → List ℕ → ℕ
path_weight code place [] = weight_at code place
path_weight code place (next ∷ rest) = weight_at code place + path_weight code next rest
