-- The targets of the nodes of a run, and which of them is least.
use Rattle.std.specs.Prelude.{◌≡◌, ℕ, nat_lt, Bool, true, false, List, Option, Some, None, slice_index_or}

-- a target is less than another one; none, as of a node that is done, is above all others
abbrev pub is_below : Option ℕ → Option ℕ → Bool
is_below None other = false
is_below (Some target) None = true
is_below (Some target) (Some other) = nat_lt target other

-- no target is less than a bound
abbrev pub IsBound : List (Option ℕ) → Option ℕ → Type 0
IsBound targets bound = (node : ℕ) → is_below (slice_index_or targets node None) bound ≡ false

-- no target is less than that of this node
abbrev pub IsFirst : List (Option ℕ) → ℕ → Type 0
IsFirst targets first = IsBound targets (slice_index_or targets first None)
