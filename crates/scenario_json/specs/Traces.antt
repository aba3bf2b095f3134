-- The meaning of the field of a trace: its lines, or its first fault.
use Rattle.std.specs.Prelude.{ℕ, codes, decimal, List, [], ◌∷◌, ◌++◌, length, Result, Ok}
use Rattle.serde_json.specs.Data.{Data}
use Rattle.pals_base.specs.declared.limits.TheConstants.{LIST_ITEMS}
use Rattle.scenario_values.specs.declared.fault.ScenarioFault.{ScenarioFault}
use Rattle.scenario_values.specs.ResultCombinators.{◌>>=◌, through}
use Rattle.scenario_values.specs.FaultPlaces.{inside}
use Rattle.scenario_values.specs.FieldValues.{short_list, text}

abbrev pub with_line : List (List ℕ) → Data → Result (List (List ℕ)) ScenarioFault
with_line lines d = text (inside (codes "trace") (decimal (length lines))) d >>= λ line. Ok (lines ++ line ∷ [])

unfoldable pub trace_in : Data → Result (List (List ℕ)) ScenarioFault
trace_in d = short_list (codes "trace") LIST_ITEMS d >>= λ ds. through with_line [] ds
