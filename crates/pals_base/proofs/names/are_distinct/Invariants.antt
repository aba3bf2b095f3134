use Rattle.std.proofs.Common.{◌≢◌, ℕ, ◌<◌, length, slice_index_or}
use Rattle.pals_base.proofs.names.are_distinct.Given as goal

-- each earlier item differs from all later ones
abbrev pub invariant-loop-at : goal.invariant-loop-at
invariant-loop-at g l =
    (k j : ℕ) (d : g.row.T.Denot) → k < l.at → k < j → j < length l.items
    → g.T.HasName.name_of (slice_index_or l.items k d) ≢ g.T.HasName.name_of (slice_index_or l.items j d)
