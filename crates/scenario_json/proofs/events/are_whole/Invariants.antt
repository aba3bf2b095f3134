use Rattle.std.proofs.Common.{◌≡◌, map, drop}
use Rattle.std.specs.List.{list_all}
use Rattle.serde_json.specs.View.{view}
use Rattle.scenario_values.specs.FieldValues.{is_whole}
use Rattle.scenario_json.proofs.events.are_whole.Given as goal

abbrev pub invariant-loop-value : goal.invariant-loop-value
invariant-loop-value l =
    list_all is_whole (map view (drop l.value-index l.values)) ≡ list_all is_whole (map view l.values)
