-- The meaning of the fields of inputs and of delays: a list for each root in port and for each link, or the first
-- fault.
use Rattle.std.specs.Prelude.{ℕ, nat_lt, codes, decimal, List, [], ◌∷◌, ◌++◌, length, replicate, slice_set, Result, Ok}
use Rattle.serde_json.specs.Data.{Data}
use Rattle.pals_base.specs.declared.behaviour.Kind.{Kind}
use Rattle.pals_base.specs.declared.basic_types.PortValue.{PortValue}
use Rattle.pals_base.specs.declared.limits.TheConstants.{HOUR}
use Rattle.pals_model.specs.declared.design.DesignParts.{DesignParts}
use Rattle.pals_model.specs.ComponentInputs.{root_inputs}
use Rattle.pals_model.specs.PortKindsAndRates.{root_kind}
use Rattle.scenario_values.specs.declared.fault.ScenarioFault.{ScenarioFault}
use Rattle.scenario_values.specs.declared.fault.ScenarioFault.TheVariants.{OutOfRange}
use Rattle.scenario_values.specs.ResultCombinators.{◌>>=◌, only_if, through}
use Rattle.scenario_values.specs.FaultPlaces.{inside}
use Rattle.scenario_values.specs.FieldValues.{elements, entries, port_value, whole}
use Rattle.scenario_values.specs.NameLookup.{link_at, root_at}

-- ---- inputs
-- one more value of a list; its location ends with its index
abbrev pub with_value : Kind → List ℕ → List PortValue → Data → Result (List PortValue) ScenarioFault
with_value kind place values d =
    port_value kind (inside place (decimal (length values))) d >>= λ v. Ok (values ++ v ∷ [])

unfoldable pub value_list : Kind → List ℕ → Data → Result (List PortValue) ScenarioFault
value_list kind place d = elements place d >>= λ ds. through (with_value kind place) [] ds

-- the list of one root in port, at its index
unfoldable pub with_input : DesignParts → List (List PortValue) → List ℕ × Data
    → Result (List (List PortValue)) ScenarioFault
with_input design lists entry =
    let place = inside (codes "inputs") entry.0 in
    root_at place design entry.0 >>= λ root.
    value_list (root_kind design entry.0) place entry.1 >>= λ values. Ok (slice_set lists root values)

-- a list for each root in port; empty if the field does not name the port
unfoldable pub inputs_in : DesignParts → Data → Result (List (List PortValue)) ScenarioFault
inputs_in design d =
    entries (codes "inputs") d >>= λ es. through (with_input design) (replicate (length (root_inputs design)) []) es

-- ---- delays
abbrev pub with_delay : List ℕ → List ℕ → Data → Result (List ℕ) ScenarioFault
with_delay place delays d = whole (inside place (decimal (length delays))) 0 HOUR d >>= λ n. Ok (delays ++ n ∷ [])

-- one or more delays
unfoldable pub delay_list : List ℕ → Data → Result (List ℕ) ScenarioFault
delay_list place d =
    elements place d >>= λ ds. only_if (nat_lt 0 (length ds)) (OutOfRange place) (through (with_delay place) [] ds)

-- the list of one link, at its index
unfoldable pub with_link_delays : DesignParts → List (List ℕ) → List ℕ × Data → Result (List (List ℕ)) ScenarioFault
with_link_delays design lists entry =
    let place = inside (codes "delays") entry.0 in
    link_at place design entry.0 >>= λ link. delay_list place entry.1 >>= λ delays. Ok (slice_set lists link delays)

-- a list for each link; only the minimum network delay if the field does not name the link
unfoldable pub delays_in : DesignParts → Data → Result (List (List ℕ)) ScenarioFault
delays_in design d =
    entries (codes "delays") d >>= λ es.
    through (with_link_delays design) (replicate (length design.links) (design.gamma.mu_min ∷ [])) es
