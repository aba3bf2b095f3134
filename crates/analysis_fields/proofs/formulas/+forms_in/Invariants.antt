use Rattle.std.proofs.Common.{◌≡◌, ◌+◌, ◌-◌, ◌^◌, map, take, min, sum_by}
use Rattle.serde_json.specs.View.{view}
use Rattle.analysis_fields.specs.Properties.{forms_in}
use Rattle.analysis_fields.proofs.formulas.+forms_in.Given as goal

abbrev pub decreases-forms_in : goal.decreases-forms_in
decreases-forms_in l = l.levels

-- the formulas of the visited parts
abbrev pub invariant-loop-part : goal.invariant-loop-part
invariant-loop-part l =
    l.forms ≡ min (1 + sum_by (forms_in (l.levels - 1)) (map view (take l.part-index l.parts))) (2 ^ 64 - 1)
