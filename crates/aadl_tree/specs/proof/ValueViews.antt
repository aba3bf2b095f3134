-- The plain trees of properties and their values.
use Rattle.std.specs.Prelude.{ℕ, List, [], ◌∷◌, map, Option, option_map, Box}
use Rattle.std.specs.declared.alloc.Global.{Global}
use Rattle.aadl_tree.specs.Names.{Identifier}
use Rattle.aadl_tree.specs.declared.values.Value.TheOpen.{Value-F, Association-F}
use Rattle.aadl_tree.specs.Values.{UnsignedNumber, whole_figure, real_figure, Number, Quantity, Value, list, fields}
use Rattle.aadl_tree.specs.Values.{text, reference, classifier, named, number, Values, no_values, value, Association}
use Rattle.aadl_tree.specs.Values.{association, Associations, no_associations, associate}
use Rattle.aadl_tree.specs.proof.NameViews.{identifier_view, name_view, path_view, reference_view}
use Rattle.aadl_tree.specs.declared.names.Identifier as source_identifier
use Rattle.aadl_tree.specs.declared.values.Value as source_value
use Rattle.aadl_tree.specs.declared.values.Association as source_association
use Rattle.aadl_tree.specs.declared.values.Quantity as source_quantity
use Rattle.aadl_tree.specs.declared.values.Number as source_number
use Rattle.aadl_tree.specs.declared.values.UnsignedNumber as source_figure
use Rattle.aadl_tree.specs.declared.values.UnsignedNumber.TheVariants as figures

abbrev pub figure_view : source_figure.UnsignedNumber → UnsignedNumber
figure_view (figures.Whole n) = whole_figure n
figure_view (figures.Real bytes) = real_figure bytes.value.items

abbrev pub number_view : source_number.Number → Number
number_view x = record { sign = x.sign; figure = figure_view x.figure }

abbrev pub unit_view : {P : Type 0} → (ℕ → P) → Option (Box source_identifier.Identifier Global) → Option (Identifier P)
unit_view place unit = option_map (λ x. identifier_view place x.value) unit

abbrev pub quantity_view : {P : Type 0} → (ℕ → P) → source_quantity.Quantity → Quantity P
quantity_view place x = record { number = number_view x.number; unit = unit_view place x.unit }

abbrev pub values_of : {P : Type 0} → List (Value P) → Values P
values_of [] = no_values
values_of (v ∷ vs) = value v (values_of vs)

abbrev pub associations_of : {P : Type 0} → List (Association P) → Associations P
associations_of [] = no_associations
associations_of (x ∷ xs) = associate x (associations_of xs)

-- one level of each, whose parts are already plain trees
abbrev pub value_step : {P : Type 0} → (ℕ → P) → Value-F (Value P) (Association P) → Value P
value_step place (Value-F.List vs) = list (values_of vs.items)
value_step place (Value-F.Record xs) = fields (associations_of xs.items)
value_step place (Value-F.Text bytes) = text bytes.items
value_step place (Value-F.Reference x) = reference (path_view place x.value)
value_step place (Value-F.Classifier x) = classifier (reference_view place x.value)
value_step place (Value-F.Named x) = named (reference_view place x.value)
value_step place (Value-F.Number low high) =
    number (quantity_view place low) (option_map (λ x. quantity_view place x.value) high)

abbrev pub association_step : {P : Type 0} → (ℕ → P) → Association-F (Value P) (Association P) → Association P
association_step place x =
    association (name_view place x.name) x.operator x.constant x.value (map (path_view place) x.applies_to.items)

abbrev pub value_view : {P : Type 0} → (ℕ → P) → source_value.Value → Value P
value_view {P} place = source_value.fold-Value (Value P) (Association P) (value_step place) (association_step place)

abbrev pub association_view : {P : Type 0} → (ℕ → P) → source_association.Association → Association P
association_view {P} place =
    source_association.fold-Association (Value P) (Association P) (value_step place) (association_step place)

abbrev pub values_view : {P : Type 0} → (ℕ → P) → List source_value.Value → Values P
values_view place vs = values_of (map (value_view place) vs)

abbrev pub associations_view : {P : Type 0} → (ℕ → P) → List source_association.Association → Associations P
associations_view place xs = associations_of (map (association_view place) xs)
