-- What JSON values have to be for the fields of a scenario: lists, objects, numbers in a range.
use Rattle.std.specs.Prelude.{String, string_bytes, ℕ, ◌^◌, ◌-◌, nat_le, ℤ, pos, negsuc, int_le, Bool, ◌&&◌, List, []}
use Rattle.std.specs.Prelude.{◌∷◌, length, Option, option_map, option_and_then, is_some, Result, Ok, Err, if◌then◌else◌}
use Rattle.std.specs.declared.alloc.Global.{Global}
use Rattle.serde_json.specs.Data.{Data, Items, no_items, item, Members, no_members, member}
use Rattle.serde_json.specs.Find.{as_null, as_bool, as_number, as_str, as_array, as_object, as_integer}
use Rattle.serde_json.specs.View.{view}
use Rattle.serde_json.specs.declared.value.Value.{Value}
use Rattle.pals_base.specs.declared.behaviour.Kind.{Kind}
use Rattle.pals_base.specs.declared.behaviour.Kind.TheVariants.{Integer, Boolean}
use Rattle.pals_base.specs.declared.basic_types.PortValue.{PortValue}
use Rattle.pals_base.specs.declared.basic_types.PortValue.TheVariants.{Absent, Present}
use Rattle.pals_base.specs.ExpressionValues.{truth}
use Rattle.scenario_values.specs.declared.fault.ScenarioFault.{ScenarioFault}
use Rattle.scenario_values.specs.declared.fault.ScenarioFault.TheVariants.{WrongKind, OutOfRange}
use Rattle.scenario_values.specs.ResultCombinators.{◌>>=◌, given, only_if}

-- ---- lists
abbrev pub values_in : Items → List Data
values_in no_items = []
values_in (item d ds) = d ∷ values_in ds

-- the members of an object, in byte order of their names
abbrev pub entries_in : Members → List (List ℕ × Data)
entries_in no_members = []
entries_in (member name d ms) = (name, d) ∷ entries_in ms

abbrev pub entry_of : String Global × Value → List ℕ × Data
entry_of e = (string_bytes e.0, view e.1)

unfoldable pub elements : List ℕ → Data → Result (List Data) ScenarioFault
elements place d = given (WrongKind place) (option_map values_in (as_array d))

unfoldable pub entries : List ℕ → Data → Result (List (List ℕ × Data)) ScenarioFault
entries place d = given (WrongKind place) (option_map entries_in (as_object d))

-- a list within its limit of elements; the limit is checked before any element
unfoldable pub short_list : List ℕ → ℕ → Data → Result (List Data) ScenarioFault
short_list place most d = elements place d >>= λ ds. only_if (nat_le (length ds) most) (OutOfRange place) (Ok ds)

-- ---- numbers
-- a whole number; a number that is stored as a float is not one
abbrev pub integer_of : Data → Option ℤ
integer_of d = option_and_then as_integer (as_number d)

abbrev pub is_whole : Data → Bool
is_whole d = is_some (integer_of d)

abbrev pub in_range : List ℕ → ℕ → ℕ → ℤ → Result ℕ ScenarioFault
in_range place least most (pos n) = only_if (nat_le least n && nat_le n most) (OutOfRange place) (Ok n)
in_range place least most (negsuc n) = Err (OutOfRange place)

-- a whole number from a least to a most
unfoldable pub whole : List ℕ → ℕ → ℕ → Data → Result ℕ ScenarioFault
whole place least most d = given (WrongKind place) (integer_of d) >>= in_range place least most

-- the numbers of 64 bits
abbrev pub has_64_bits : ℤ → Bool
has_64_bits z = int_le (negsuc (2 ^ 63 - 1)) z && int_le z (pos (2 ^ 63 - 1))

unfoldable pub number : List ℕ → Data → Result ℤ ScenarioFault
number place d = given (WrongKind place) (integer_of d) >>= λ z. only_if (has_64_bits z) (OutOfRange place) (Ok z)

-- ---- texts and values of ports
unfoldable pub text : List ℕ → Data → Result (List ℕ) ScenarioFault
text place d = given (WrongKind place) (as_str d)

abbrev pub present : Kind → List ℕ → Data → Result PortValue ScenarioFault
present Integer place d = number place d >>= λ z. Ok (Present z)
present Boolean place d = given (WrongKind place) (as_bool d) >>= λ b. Ok (Present (truth b))

-- a value of a port of a type, or null for an absent one
unfoldable pub port_value : Kind → List ℕ → Data → Result PortValue ScenarioFault
port_value kind place d = if is_some (as_null d) then Ok Absent else present kind place d
