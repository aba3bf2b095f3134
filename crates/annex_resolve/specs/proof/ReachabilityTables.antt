-- Tables of the reachability of states by transitions from states that are not complete.
use Rattle.std.specs.Prelude.{◌≡◌, ℕ, Bool, true, false, not, ◌&&◌, nat_eq, List, [], length, map, filter, Option, None}
use Rattle.std.specs.Prelude.{Some, slice_get, slice_set, slice_index_or}
use Rattle.std.specs.Option.{unwrap_or}
use Rattle.std.specs.List.{list_any}
use Rattle.pals_base.specs.declared.behaviour.BehaviourParts.{BehaviourParts}
use Rattle.pals_base.specs.ExpressionAndActionTrees.{Edge}
use Rattle.pals_base.specs.SingleStep.{is_complete}
use Rattle.pals_base.specs.UpwardNumbers.{upwards}
use Rattle.annex_resolve.specs.declared.cycles.Reachability.{Reachability}
use Rattle.annex_resolve.specs.IncompleteStateCycles.{reaches}

-- the states reachable from a state, with inner states below k
abbrev pub row_of : ℕ → BehaviourParts → ℕ → List Bool
row_of k b s = map (reaches k b s) (upwards 0 (length b.states))

abbrev pub table_of : ℕ → BehaviourParts → List (List Bool)
table_of k b = map (row_of k b) (upwards 0 (length b.states))

-- the table of a behaviour
abbrev pub IsTable : BehaviourParts → Reachability → Type 0
IsTable b table = table.rows ≡ table_of table.between b

abbrev pub cell_in : Option (List Bool) → ℕ → Bool
cell_in None t = false
cell_in (Some row) t = unwrap_or (slice_get row t) false

abbrev pub cell : List (List Bool) → ℕ → ℕ → Bool
cell rows s t = cell_in (slice_get rows s) t

-- ---- the table of single transitions, one after another
-- a row and a cell in it are marked
abbrev pub marked : List (List Bool) → ℕ → ℕ → List (List Bool)
marked rows s t = slice_set rows s (slice_set (slice_index_or rows s []) t true)

-- one of these transitions leads from a state that is not complete to another state
abbrev pub leads_by : BehaviourParts → List Edge → ℕ → ℕ → Bool
leads_by b es s t = not (is_complete b s) && list_any (λ e. nat_eq e.target t) (filter (λ e. nat_eq e.source s) es)

abbrev pub row_by : BehaviourParts → List Edge → ℕ → List Bool
row_by b es s = map (leads_by b es s) (upwards 0 (length b.states))

abbrev pub table_by : BehaviourParts → List Edge → List (List Bool)
table_by b es = map (row_by b es) (upwards 0 (length b.states))
