-- The times of properties, and the times above one hour.
use Rattle.std.specs.Prelude.{ℕ, Bool, false, ◌&&◌, ◌||◌, nat_lt, List, [], flat_map, codes, Option, Some, None}
use Rattle.std.specs.Prelude.{if◌then◌else◌}
use Rattle.std.specs.Option.{option_and_then}
use Rattle.pals_base.specs.declared.limits.TheConstants.{HOUR}
use Rattle.aadl_tree.specs.Values.{Value, Association, Associations}
use Rattle.aadl_names.specs.declared.recognised_properties.PropertyName.{PropertyName}
use Rattle.aadl_names.specs.declared.recognised_properties.PropertyName.TheVariants.{Period, Dispatch, Timing, Adaptor}
use Rattle.aadl_names.specs.declared.recognised_properties.PropertyName.TheVariants.{Skew, Execution, Network, Initial}
use Rattle.aadl_names.specs.declared.recognised_properties.PropertyHolder.{PropertyHolder}
use Rattle.aadl_names.specs.RecognisedProperties.{association_at, association_value, listed, counts, is_named, name_of}
use Rattle.aadl_names.specs.RecognisedProperties.{recognised}
use Rattle.aadl_names.specs.PropertyValueShapes.{time_of, range_of}
use Rattle.annex_resolve.specs.declared.violation.Violation.{Violation}
use Rattle.annex_resolve.specs.FindingRecords.{found_if}
use Rattle.annex_resolve.specs.declared.violation.TheConstants.{NUMBER_TOO_BIG}

-- the value that an association gives, if there is one
abbrev pub time_at : Option (Association ℕ) → Option ℕ
time_at x = option_and_then (λ a. time_of (association_value a)) x

abbrev pub range_at : Option (Association ℕ) → Option (ℕ × ℕ)
range_at x = option_and_then (λ a. range_of (association_value a)) x

-- ---- above one hour
abbrev pub is_above : Option ℕ → Bool
is_above None = false
is_above (Some n) = nat_lt HOUR n

abbrev pub has_above : Option (ℕ × ℕ) → Bool
has_above None = false
has_above (Some r) = nat_lt HOUR r.0 || nat_lt HOUR r.1

abbrev pub is_too_big : PropertyName → Value ℕ → Bool
is_too_big Period v = is_above (time_of v)
is_too_big Skew v = is_above (time_of v)
is_too_big Execution v = has_above (range_of v)
is_too_big Network v = has_above (range_of v)
is_too_big _ v = false

-- the names of the properties with times in violations
abbrev pub shown : PropertyName → List ℕ
shown Period = codes "Period"
shown Dispatch = codes "Dispatch_Protocol"
shown Timing = codes "Timing"
shown Adaptor = codes "Input_Adaptor"
shown Skew = codes "Skew"
shown Execution = codes "Execution"
shown Network = codes "Network"
shown Initial = codes "Initial_Value"

-- ---- each association of a list, for one kind of property holder
abbrev pub big_as : Association ℕ → PropertyName → List Violation
big_as x p =
    found_if (is_named (name_of p) x && is_too_big p (association_value x)) (association_at x) NUMBER_TOO_BIG (shown p)

abbrev pub association_big : PropertyHolder → Association ℕ → List Violation
association_big holder x = flat_map (big_as x) (recognised holder)

-- associations that apply elsewhere are ignored
abbrev pub counted_big : PropertyHolder → Association ℕ → List Violation
counted_big holder x = if counts x then association_big holder x else []

abbrev pub list_big : PropertyHolder → Associations ℕ → List Violation
list_big holder xs = flat_map (counted_big holder) (listed xs)
