-- The meaning of the field of clocks: a list of readings for each node, the virtual-time schedule, or its first
-- fault.
use Rattle.std.specs.Prelude.{ℕ, bytes_eq, codes, decimal, List, [], ◌∷◌, ◌++◌, length, replicate, slice_set}
use Rattle.std.specs.Prelude.{slice_index, Bool, ◌-◌, option_map, unwrap_or, false, Result, Ok, if◌then◌else◌}
use Rattle.serde_json.specs.Data.{Data}
use Rattle.serde_json.specs.Find.{as_str}
use Rattle.pals_base.specs.declared.limits.TheConstants.{READING, LIST_ITEMS}
use Rattle.pals_clock.specs.ClockStates.{ClockState, unpicked}
use Rattle.pals_clock.specs.declared.clock.Clocks.{Clocks}
use Rattle.pals_clock.specs.declared.clock.Clocks.TheVariants.{Meet, Lists}
use Rattle.pals_model.specs.declared.design.DesignParts.{DesignParts}
use Rattle.scenario_values.specs.declared.fault.ScenarioFault.{ScenarioFault}
use Rattle.scenario_values.specs.ResultCombinators.{◌>>=◌, through}
use Rattle.scenario_values.specs.FaultPlaces.{inside}
use Rattle.scenario_values.specs.FieldValues.{entries, short_list, whole}
use Rattle.scenario_values.specs.NameLookup.{node_at}

-- the last reading so far, 0 before the first
abbrev pub last_of : List ℕ → ℕ
last_of readings = slice_index readings (length readings - 1)

-- one more reading, which is not below the one before it
abbrev pub with_reading : List ℕ → List ℕ → Data → Result (List ℕ) ScenarioFault
with_reading place readings d =
    whole (inside place (decimal (length readings))) (last_of readings) READING d >>= λ n. Ok (readings ++ n ∷ [])

unfoldable pub reading_list : List ℕ → Data → Result (List ℕ) ScenarioFault
reading_list place d = short_list place LIST_ITEMS d >>= λ ds. through (with_reading place) [] ds

-- the clock of one node, at its index
unfoldable pub with_clock : DesignParts → List ClockState → List ℕ × Data → Result (List ClockState) ScenarioFault
with_clock design clocks entry =
    let place = inside (codes "clocks") entry.0 in
    node_at place design entry.0 >>= λ node. reading_list place entry.1 >>= λ readings.
    Ok (slice_set clocks node (unpicked readings))

-- a list for each node; empty if the field does not name the node
unfoldable pub clock_lists : DesignParts → Data → Result Clocks ScenarioFault
clock_lists design d =
    entries (codes "clocks") d >>= λ es.
    through (with_clock design) (replicate (length design.components) (unpicked [])) es >>= λ clocks.
    Ok (Lists clocks)

abbrev pub is_meet : Data → Bool
is_meet d = unwrap_or (option_map (bytes_eq (codes "meet")) (as_str d)) false

unfoldable pub clocks_in : DesignParts → Data → Result Clocks ScenarioFault
clocks_in design d = if is_meet d then Ok Meet else clock_lists design d
