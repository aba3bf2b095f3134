-- The meaning of the field of processors: processors with the components that they run, or its first fault.
use Rattle.std.specs.Prelude.{ℕ, ◌+◌, nat_eq, nat_le, nat_lt, codes, List, [], ◌∷◌, ◌++◌, length, map, filter}
use Rattle.std.specs.Prelude.{replicate, position, slice_set, slice_index, Bool, ◌&&◌, Option, Some, None, is_some}
use Rattle.std.specs.Prelude.{Result, Ok, Err}
use Rattle.std.specs.List.{list_all, enumerate_from}
use Rattle.serde_json.specs.Data.{Data}
use Rattle.serde_json.specs.Find.{get, as_str}
use Rattle.pals_base.specs.declared.basic_types.NodeNo.{NodeNo}
use Rattle.pals_base.specs.declared.limits.TheConstants.{HOUR}
use Rattle.pals_base.specs.Names.{is_word}
use Rattle.pals_model.specs.declared.design.DesignParts.{DesignParts}
use Rattle.pals_runs.specs.JournalLines.{node_word}
use Rattle.scenario_values.specs.declared.fault.ScenarioFault.{ScenarioFault}
use Rattle.scenario_values.specs.declared.fault.ScenarioFault.TheVariants.{Field, WrongKind, OutOfRange}
use Rattle.analysis_fields.specs.declared.limits.TheConstants.{PROCESSORS}
use Rattle.analysis_fields.specs.declared.processors.Processor.{Processor}
use Rattle.scenario_values.specs.ResultCombinators.{◌>>=◌, given, only_if, through}
use Rattle.scenario_values.specs.FaultPlaces.{inside}
use Rattle.scenario_values.specs.FieldValues.{elements, entries, text, whole, is_whole}
use Rattle.scenario_values.specs.NameLookup.{node_no, node_at}

-- For each component the number of its processor, from 1, or 0 if it has none.

-- one more component of the processor of this number
unfoldable pub with_member : DesignParts → List ℕ → ℕ → List ℕ → Data → Result (List ℕ) ScenarioFault
with_member design place number owners d =
    text place d >>= λ path. node_at place design path >>= λ node.
    only_if (nat_eq (slice_index owners node) 0) (OutOfRange place) (Ok (slice_set owners node number))

abbrev pub with_members : DesignParts → List ℕ → ℕ → List ℕ → List Data → Result (List ℕ) ScenarioFault
with_members design place number owners ds = through (with_member design place number) owners ds

-- the components of a processor, in ascending order
abbrev pub nodes_of : List ℕ → ℕ → List NodeNo
nodes_of owners number =
    map (λ numbered. node_no numbered.0) (filter (λ numbered. nat_eq numbered.1 number) (enumerate_from 0 owners))

abbrev pub is_text : Data → Bool
is_text d = is_some (as_str d)

-- the two fields of a processor: its time for an instruction, and its components; any other shape is wrong
unfoldable pub processor_parts : List ℕ → Data → Result (Data × List Data) ScenarioFault
processor_parts place d =
    entries place d >>= λ es. only_if (nat_eq (length es) 2) (WrongKind place)
    (given (WrongKind place) (get (codes "nanos") d) >>= λ nanos.
    given (WrongKind place) (get (codes "components") d) >>= λ components.
    elements place components >>= λ ds.
    only_if (is_whole nanos && list_all is_text ds) (WrongKind place) (Ok (nanos, ds)))

-- the processor with a number, and the owners after its components are assigned
unfoldable pub processor_in : DesignParts → List ℕ → ℕ → List ℕ × Data → Result (List ℕ × Processor) ScenarioFault
processor_in design owners number entry =
    let place = inside (codes "processors") entry.0 in
    only_if (is_word entry.0) (OutOfRange place)
    (processor_parts place entry.1 >>= λ parts. only_if (nat_lt 0 (length parts.1)) (OutOfRange place)
    (with_members design place number owners parts.1 >>= λ placed. whole place 1 HOUR parts.0 >>= λ nanos.
    Ok (placed, record { name = entry.0; nanos = nanos; components = nodes_of placed number })))

-- one more processor
abbrev pub with_processor : DesignParts → List ℕ × List Processor → List ℕ × Data
    → Result (List ℕ × List Processor) ScenarioFault
with_processor design before entry =
    processor_in design before.0 (length before.1 + 1) entry >>= λ p. Ok (p.0, before.1 ++ p.1 ∷ [])

-- each component has a processor
abbrev pub all_placed : DesignParts → List Processor → Option ℕ → Result (List Processor) ScenarioFault
all_placed design processors None = Ok processors
all_placed design processors (Some node) = Err (Field (inside (codes "processors") (node_word design node)))

abbrev pub first_unplaced : List ℕ → Option ℕ
first_unplaced owners = position (λ owner. nat_eq owner 0) owners

unfoldable pub processors_in : DesignParts → Data → Result (List Processor) ScenarioFault
processors_in design d =
    entries (codes "processors") d >>= λ es.
    only_if (nat_le 1 (length es) && nat_le (length es) PROCESSORS) (OutOfRange (codes "processors"))
    (through (with_processor design) (replicate (length design.components) 0, []) es >>= λ placing.
    all_placed design placing.1 (first_unplaced placing.0))
