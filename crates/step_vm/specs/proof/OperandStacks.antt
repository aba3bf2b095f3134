-- The operands that lie on a stack, the topmost first.
use Rattle.std.specs.Prelude.{ℕ, zero, suc, ℤ, pos, List, [], ◌∷◌, slice_index_or}

abbrev pub stacked : List ℤ → ℕ → List ℤ
stacked cells zero = []
stacked cells (suc n) = slice_index_or cells n (pos 0) ∷ stacked cells n

pub record StackState : Type 0 where
  pub numbers : List ℤ
  pub size : ℕ

abbrev pub stack_of : List ℤ → ℕ → StackState
stack_of numbers size = record { numbers = numbers; size = size }
