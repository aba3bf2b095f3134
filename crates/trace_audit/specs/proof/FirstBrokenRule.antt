-- The first rule that an entry violates, from the result of each rule.
use Rattle.std.specs.Prelude.{Bool, not, if◌then◌else◌, Option, Some, None, is_some}
use Rattle.pals_runs.specs.declared.verdicts.TraceRule.{TraceRule}
use Rattle.pals_runs.specs.declared.verdicts.TraceRule.TheVariants as rule

abbrev pub first_rule : Bool → Bool → Option TraceRule → Bool → Bool → Option TraceRule
first_rule ordered falling early waiting telling =
    if not ordered then Some rule.Order
    else if falling then Some rule.Reading
    else if is_some early then early
    else if waiting then Some rule.Due
    else if not telling then Some rule.Stop
    else None
