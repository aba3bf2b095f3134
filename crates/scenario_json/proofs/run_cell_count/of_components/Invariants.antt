use Rattle.std.proofs.Common.{◌≡◌, ◌≤◌, ◌*◌, ◌^◌, take, sum_by}
use Rattle.scenario_json.specs.RunCellCount.{component_cells}
use Rattle.scenario_json.proofs.run_cell_count.of_components.Given as goal

-- the sum so far, none of whose summands is large
abbrev pub invariant-loop-component : goal.invariant-loop-component
invariant-loop-component l =
    (l.sum ≡ sum_by (component_cells) (take l.component-index l.components)) × (l.sum ≤ 2 ^ 66 * l.component-index)
