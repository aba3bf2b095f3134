-- Reading JSON values and names has no fault `Memory`: for the claim that bytes mean a scenario or have a first
-- fault.
use Rattle.std.proofs.Common.{ℕ, ℤ, Bool, true, false, List}
use Rattle.std.specs.Prelude.{pos, negsuc, Ok, is_some, if◌then◌else◌}
use Rattle.serde_json.specs.Data.{Data}
use Rattle.serde_json.specs.Find.{as_null, as_bool}
use Rattle.pals_base.specs.declared.behaviour.Kind.{Kind}
use Rattle.pals_base.specs.declared.behaviour.Kind.TheVariants.{Integer, Boolean}
use Rattle.pals_base.specs.declared.basic_types.PortValue.TheVariants.{Absent}
use Rattle.pals_model.specs.declared.design.DesignParts.{DesignParts}
use Rattle.scenario_values.specs.declared.fault.ScenarioFault.TheVariants.{WrongKind}
use Rattle.scenario_values.specs.FieldValues.{integer_of, elements, entries, short_list, in_range, whole, number, text}
use Rattle.scenario_values.specs.FieldValues.{present, port_value}
use Rattle.scenario_values.specs.NameLookup.{node_at, link_at, root_at}
use Rattle.scenario_laws.proofs.OutcomesWithoutMemoryFault.{IsNotMemory, ok, wrong, out, strange, bind, given_named}
use Rattle.scenario_laws.proofs.OutcomesWithoutMemoryFault.{only}

pub elements_named : (place : List ℕ) (d : Data) → IsNotMemory (elements place d)
unfolding elements
elements_named place d = given_named _ _ wrong

pub entries_named : (place : List ℕ) (d : Data) → IsNotMemory (entries place d)
unfolding entries
entries_named place d = given_named _ _ wrong

pub short_list_named : (place : List ℕ) (most : ℕ) (d : Data) → IsNotMemory (short_list place most d)
unfolding short_list
short_list_named place most d = bind _ _ (elements_named place d) (λ ds. only _ _ _ out ok)

pub in_range_named : (place : List ℕ) (least most : ℕ) (z : ℤ) → IsNotMemory (in_range place least most z)
in_range_named place least most (pos n) = only _ _ _ out ok
in_range_named place least most (negsuc n) = out

pub whole_named : (place : List ℕ) (least most : ℕ) (d : Data) → IsNotMemory (whole place least most d)
unfolding whole
whole_named place least most d = bind _ _ (given_named _ _ wrong) (in_range_named place least most)

pub number_named : (place : List ℕ) (d : Data) → IsNotMemory (number place d)
unfolding number
number_named place d = bind _ _ (given_named (WrongKind place) (integer_of d) wrong) (λ z. only _ _ _ out ok)

pub text_named : (place : List ℕ) (d : Data) → IsNotMemory (text place d)
unfolding text
text_named place d = given_named _ _ wrong

present_named : (kind : Kind) (place : List ℕ) (d : Data) → IsNotMemory (present kind place d)
present_named Integer place d = bind _ _ (number_named place d) (λ z. ok)
present_named Boolean place d = bind _ _ (given_named (WrongKind place) (as_bool d) wrong) (λ b. ok)

null_or : (kind : Kind) (place : List ℕ) (d : Data) (b : Bool) → IsNotMemory (present kind place d)
    → IsNotMemory (if b then Ok Absent else present kind place d)
null_or kind place d true n = ok
null_or kind place d false n = n

pub port_value_named : (kind : Kind) (place : List ℕ) (d : Data) → IsNotMemory (port_value kind place d)
unfolding port_value
port_value_named kind place d = null_or kind place d (is_some (as_null d)) (present_named kind place d)

pub node_at_named : (place : List ℕ) (design : DesignParts) (path : List ℕ) → IsNotMemory (node_at place design path)
unfolding node_at
node_at_named place design path = given_named _ _ strange

pub link_at_named : (place : List ℕ) (design : DesignParts) (name : List ℕ) → IsNotMemory (link_at place design name)
unfolding link_at
link_at_named place design name = given_named _ _ strange

pub root_at_named : (place : List ℕ) (design : DesignParts) (name : List ℕ) → IsNotMemory (root_at place design name)
unfolding root_at
root_at_named place design name = given_named _ _ strange
