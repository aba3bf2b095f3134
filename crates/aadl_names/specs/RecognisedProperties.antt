-- The properties with a meaning, the positions of that meaning, whether their values have the required shape, and the
-- faults of a list of them.
use Rattle.std.specs.Prelude.{ℕ, Bool, true, false, not, ◌&&◌, List, [], ◌∷◌, ◌++◌, filter, map, flat_map, codes}
use Rattle.std.specs.Prelude.{Option, if◌then◌else◌, find}
use Rattle.std.specs.Option.{is_some}
use Rattle.std.specs.List.{list_any}
use Rattle.aadl_tree.specs.declared.declarations.Category.{Category}
use Rattle.aadl_tree.specs.Names.{Path, same_name}
use Rattle.aadl_tree.specs.Values.{Value, Association, association, Associations, no_associations, associate}
use Rattle.aadl_names.specs.declared.fault.PackageFault.{PackageFault}
use Rattle.aadl_names.specs.declared.recognised_properties.PropertyName.{PropertyName}
use Rattle.aadl_names.specs.declared.recognised_properties.PropertyName.TheVariants.{Period, Dispatch, Timing, Adaptor}
use Rattle.aadl_names.specs.declared.recognised_properties.PropertyName.TheVariants.{Skew, Execution, Network, Initial}
use Rattle.aadl_names.specs.declared.recognised_properties.PropertyHolder.{PropertyHolder}
use Rattle.aadl_names.specs.declared.declared_name.SpelledName.{SpelledName}
use Rattle.aadl_names.specs.DuplicateNames.{wrong_if, twice}
use Rattle.aadl_names.specs.QualifiedNameSpellings.{spelled_name}
use Rattle.aadl_names.specs.NameResolution.{is_thread}
use Rattle.aadl_names.specs.declared.recognised_properties.PropertyHolder.TheVariants as holders
use Rattle.aadl_names.specs.PropertyValueShapes.{is_initial_text, only_text, range_of, reference_of, text_of, time_of}

abbrev pub listed : Associations ℕ → List (Association ℕ)
listed no_associations = []
listed (associate x xs) = x ∷ listed xs

abbrev pub association_name : Association ℕ → List ℕ
association_name (association name operator constant v paths) = spelled_name name

abbrev pub association_at : Association ℕ → ℕ
association_at (association name operator constant v paths) = name.first.at

abbrev pub association_value : Association ℕ → Value ℕ
association_value (association name operator constant v paths) = v

abbrev pub has_none : List (Path ℕ) → Bool
has_none [] = true
has_none (x ∷ xs) = false

-- an association with `applies to` is ignored altogether
abbrev pub counts : Association ℕ → Bool
counts (association name operator constant v paths) = has_none paths

abbrev pub counted : Associations ℕ → List (Association ℕ)
counted xs = filter counts (listed xs)

abbrev pub is_named : List ℕ → Association ℕ → Bool
is_named name x = same_name (association_name x) name

-- the first association of a name in a list
abbrev pub association_named : Associations ℕ → List ℕ → Option (Association ℕ)
association_named xs name = find (is_named name) (counted xs)

-- ---- the properties that mean something
abbrev pub name_of : PropertyName → List ℕ
name_of Period = codes "Period"
name_of Dispatch = codes "Dispatch_Protocol"
name_of Timing = codes "Timing"
name_of Adaptor = codes "PALS_Profile::Input_Adaptor"
name_of Skew = codes "PALS_Profile::Skew"
name_of Execution = codes "PALS_Profile::Execution"
name_of Network = codes "PALS_Profile::Network"
name_of Initial = codes "Data_Model::Initial_Value"

abbrev pub has_shape : PropertyName → Value ℕ → Bool
has_shape Period v = is_some (time_of v)
has_shape Dispatch v = is_some (reference_of v)
has_shape Timing v = is_some (reference_of v)
has_shape Adaptor v = is_some (text_of v)
has_shape Skew v = is_some (time_of v)
has_shape Execution v = is_some (range_of v)
has_shape Network v = is_some (range_of v)
has_shape Initial v = is_initial_text (only_text v)

-- ---- the properties that are recognised at a kind of place
abbrev pub timed : Category → List PropertyName
timed category = if is_thread category then Period ∷ Dispatch ∷ [] else Period ∷ []

abbrev pub recognised : PropertyHolder → List PropertyName
recognised holders.Port = []
recognised holders.Variable = Initial ∷ []
recognised holders.Connection = Timing ∷ Adaptor ∷ []
recognised (holders.Subcomponent category) = timed category
recognised (holders.Declaration category false) = timed category
recognised (holders.Declaration category true) = timed category ++ Skew ∷ Execution ∷ Network ∷ []

abbrev pub misshapen : PropertyHolder → Association ℕ → Bool
misshapen holder x =
    list_any (λ p. is_named (name_of p) x && not (has_shape p (association_value x))) (recognised holder)

abbrev pub association_entry : Association ℕ → SpelledName
association_entry x = record { name = association_name x; at = association_at x }

-- one association
abbrev pub shape_fault : PropertyHolder → Association ℕ → List PackageFault
shape_fault holder x = if counts x then wrong_if (misshapen holder x) (association_at x) else []

abbrev pub property_entries : Associations ℕ → List SpelledName
property_entries xs = map association_entry (counted xs)

-- a list of them, and one property twice in it
abbrev pub list_faults : PropertyHolder → Associations ℕ → List PackageFault
list_faults holder xs = flat_map (shape_fault holder) (listed xs) ++ twice (property_entries xs)
