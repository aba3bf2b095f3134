-- Subcomponents that may lead back to the declaration that contains them, by levels of declarations.
use Rattle.std.specs.Prelude.{◌≡◌, ℕ, ◌<◌, Bool, true, false, ◌||◌, nat_lt, nat_le, List, Option, Some, None}
use Rattle.std.specs.Prelude.{slice_index, Contains}
use Rattle.aadl_uses.specs.proof.ContainmentGraphs.{Graph, below_in}

abbrev pub level_in : List ℕ → ℕ → ℕ
level_in levels n = slice_index levels n

abbrev pub is_above : List ℕ → ℕ → Option ℕ → Bool
is_above levels level None = false
is_above levels level (Some m) = nat_lt level (level_in levels m)

abbrev pub is_suspect : List ℕ → Bool → ℕ → Option ℕ → Bool
is_suspect levels any n None = false
is_suspect levels any n (Some m) = any || nat_le (level_in levels n) (level_in levels m)

-- the list grows by the suspects among the first `subs` subcomponents of a declaration
pub record AreSuspected (g : Graph) (levels : List ℕ) (any : Bool) (n subs : ℕ) (old new : List (ℕ × ℕ)) : Type 0 where
  pub kept : (x : ℕ × ℕ) → Contains old x → Contains new x
  pub all : (s : ℕ) → s < subs → is_suspect levels any n (below_in g n s) ≡ true → Contains new (n, s)
