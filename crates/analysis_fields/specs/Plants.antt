-- The meaning of the field of plants: pairs of a plant and its controller, or its first fault.
use Rattle.std.specs.Prelude.{ℕ, nat_eq, codes, List, [], ◌∷◌, ◌++◌, map, count_by, Bool, false, not, ◌&&◌, ◌||◌}
use Rattle.std.specs.Prelude.{Option, Some, None, option_and_then, Result, Ok}
use Rattle.std.specs.List.{list_all}
use Rattle.serde_json.specs.Data.{Data}
use Rattle.serde_json.specs.Find.{as_str}
use Rattle.pals_model.specs.declared.design.Link.{Link}
use Rattle.pals_model.specs.declared.design.DesignParts.{DesignParts}
use Rattle.pals_model.specs.PortKindsAndRates.{rate_of}
use Rattle.pals_model.specs.ComponentAndLinkNames.{node_named}
use Rattle.pals_runs.specs.declared.plant_pairs.Pair.{Pair}
use Rattle.scenario_values.specs.declared.fault.ScenarioFault.{ScenarioFault}
use Rattle.scenario_values.specs.declared.fault.ScenarioFault.TheVariants.{OutOfRange}
use Rattle.scenario_values.specs.ResultCombinators.{◌>>=◌, only_if, through}
use Rattle.scenario_values.specs.FaultPlaces.{inside}
use Rattle.scenario_values.specs.FieldValues.{entries, text}
use Rattle.scenario_values.specs.NameLookup.{node_no, node_at}
use Rattle.analysis_fields.specs.declared.plants.NamedPair.{NamedPair}

abbrev pub pair : ℕ → ℕ → Pair
pair plant controller = record { plant = node_no plant; controller = node_no controller }

-- the components that an entry names, regardless of other faults
abbrev pub controller_in : DesignParts → Data → Option ℕ
controller_in design d = option_and_then (node_named design) (as_str d)

abbrev pub named_in : DesignParts → List ℕ × Data → NamedPair
named_in design entry = record { plant = node_named design entry.0; controller = controller_in design entry.1 }

abbrev pub is_number : Option ℕ → ℕ → Bool
is_number None node = false
is_number (Some number) node = nat_eq number node

abbrev pub names_node : ℕ → NamedPair → Bool
names_node node n = is_number n.plant node || is_number n.controller node

-- an entry names a component of a pair
abbrev pub shares : Pair → NamedPair → Bool
shares p n = names_node p.plant.0 n || names_node p.controller.0 n

-- if one end of a link is the plant, the other end is the controller
abbrev pub is_between : Pair → Link → Bool
is_between p link =
    (not (nat_eq link.source.0 p.plant.0) || nat_eq link.target.0 p.controller.0)
    && (not (nat_eq link.target.0 p.plant.0) || nat_eq link.source.0 p.controller.0)

-- two components with one rate
abbrev pub are_equals : DesignParts → Pair → Bool
are_equals design p =
    nat_eq (rate_of design p.plant.0) (rate_of design p.controller.0) && not (nat_eq p.plant.0 p.controller.0)

-- only its own entry names one of these components
abbrev pub is_alone : List NamedPair → Pair → Bool
is_alone all p = nat_eq (count_by (shares p) all) 1

-- such components, if the plant is linked only to the controller
unfoldable pub is_fusible : DesignParts → List NamedPair → Pair → Bool
is_fusible design all p = are_equals design p && is_alone all p && list_all (is_between p) design.links

-- one pair, given the components that all entries name
unfoldable pub pair_in : DesignParts → List NamedPair → List ℕ × Data → Result Pair ScenarioFault
pair_in design all entry =
    let place = inside (codes "plants") entry.0 in
    node_at place design entry.0 >>= λ plant. text place entry.1 >>= λ path. node_at place design path >>= λ controller.
    only_if (is_fusible design all (pair plant controller)) (OutOfRange place) (Ok (pair plant controller))

abbrev pub with_pair : DesignParts → List NamedPair → List Pair → List ℕ × Data → Result (List Pair) ScenarioFault
with_pair design all before entry = pair_in design all entry >>= λ p. Ok (before ++ p ∷ [])

unfoldable pub plants_in : DesignParts → Data → Result (List Pair) ScenarioFault
plants_in design d = entries (codes "plants") d >>= λ es. through (with_pair design (map (named_in design) es)) [] es
