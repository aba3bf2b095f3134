-- The entry of a table, by its row and column.
use Rattle.std.proofs.Common.{◌≡◌, ℕ, ◌<◌, false, length, ap, ◌∙◌}
use Rattle.std.specs.Option.{unwrap_or}
use Rattle.pals_base.specs.declared.behaviour.BehaviourParts.{BehaviourParts}
use Rattle.pals_base.proofs.UpwardNumbers.{slice_get-map_upwards}
use Rattle.annex_resolve.specs.IncompleteStateCycles.{reaches}
use Rattle.annex_resolve.specs.proof.ReachabilityTables.{row_of, table_of, cell, cell_in}

pub cell_of_table : (k : ℕ) (b : BehaviourParts) (s t : ℕ) → s < length b.states → t < length b.states
    → cell (table_of k b) s t ≡ reaches k b s t
cell_of_table k b s t source target =
    ap (λ row. cell_in row t) (slice_get-map_upwards (row_of k b) (length b.states) s source)
    ∙ ap (λ o. unwrap_or o false) (slice_get-map_upwards (reaches k b s) (length b.states) t target)
