use Rattle.std.proofs.Common.{◌≡◌, map, drop, ◌-◌}
use Rattle.std.specs.List.{list_all}
use Rattle.serde_json.specs.View.{view}
use Rattle.analysis_fields.specs.Properties.{is_shallow}
use Rattle.analysis_fields.proofs.formulas.+is_shallow.Given as goal

abbrev pub decreases-is_shallow : goal.decreases-is_shallow
decreases-is_shallow l = l.levels

-- the visited parts are shallow
abbrev pub invariant-loop-part : goal.invariant-loop-part
invariant-loop-part l =
    list_all (is_shallow (l.levels - 1)) (map view (drop l.part-index l.parts))
    ≡ list_all (is_shallow (l.levels - 1)) (map view l.parts)
