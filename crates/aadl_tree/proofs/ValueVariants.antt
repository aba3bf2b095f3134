-- The variant of a value is determined by its plain value. For the comparison of values.
use Rattle.std.proofs.Common.{◌≡◌, ◌∙◌, ℕ, List, Option, Vec, Global, Box, ap, sym}
use Rattle.aadl_tree.specs.declared.names.Path.{Path}
use Rattle.aadl_tree.specs.declared.names.Reference.{Reference}
use Rattle.aadl_tree.specs.declared.values.Quantity.{Quantity}
use Rattle.aadl_tree.specs.declared.values.Association.{Association}
use Rattle.aadl_tree.specs.declared.values.Value.{Value, List as ListOf, Record, Text, Reference as ReferenceTo}
use Rattle.aadl_tree.specs.declared.values.Value.{Classifier, Named, Number}
use Rattle.aadl_tree.specs.declared.values.Value.TheOpen.{Value-F}
use Rattle.aadl_tree.specs.declared.values.Value.TheViews.{out-Value, roll-Value, roll-out-Value, rolls-List}
use Rattle.aadl_tree.specs.declared.values.Value.TheViews.{rolls-Record, rolls-Text, rolls-Reference, rolls-Classifier}
use Rattle.aadl_tree.specs.declared.values.Value.TheViews.{rolls-Named, rolls-Number}
use Rattle.aadl_tree.specs.Names as plain_names
use Rattle.aadl_tree.specs.Values as plain
use Rattle.aadl_tree.specs.Values.{list, fields, text, reference, classifier, named, number}
use Rattle.aadl_tree.specs.proof.ValueViews.{value_view}
use Rattle.aadl_tree.specs.proof.PlaceMaps.{no_place}
use Rattle.aadl_tree.proofs.ValueViews.{view-List, view-Record, view-Text, view-Reference, view-Classifier, view-Named}
use Rattle.aadl_tree.proofs.ValueViews.{view-Number}

abbrev Level : Type 0
Level = Value-F Value Association

abbrev view : Value → plain.Value (Unit {0})
view x = value_view no_place x

abbrev IsList : Value → Type 0
IsList x = (vs : Vec Value Global) × (x ≡ ListOf vs)

list_layer : (x : Value) (layer : Level) (y : plain.Values (Unit {0})) → x ≡ roll-Value layer
    → view x ≡ list y → IsList x
list_layer x (Value-F.List vs) y is e = (vs, is ∙ rolls-List vs)
list_layer x (Value-F.Record xs) y is e = let f = ap view (is ∙ rolls-Record xs) ∙ view-Record no_place xs in absurd cc
list_layer x (Value-F.Text bytes) y is e = let f = ap view (is ∙ rolls-Text bytes)
    ∙ view-Text no_place bytes in absurd cc
list_layer x (Value-F.Reference z) y is e = let f = ap view (is ∙ rolls-Reference z)
    ∙ view-Reference no_place z in absurd cc
list_layer x (Value-F.Classifier z) y is e = let f = ap view (is ∙ rolls-Classifier z)
    ∙ view-Classifier no_place z in absurd cc
list_layer x (Value-F.Named z) y is e = let f = ap view (is ∙ rolls-Named z) ∙ view-Named no_place z in absurd cc
list_layer x (Value-F.Number low high) y is e = let f = ap view (is ∙ rolls-Number low high)
    ∙ view-Number no_place low high in absurd cc

pub only_list : (x : Value) (y : plain.Values (Unit {0})) → view x ≡ list y → IsList x
only_list x y e = list_layer x (out-Value x) y (sym (roll-out-Value x)) e

abbrev IsRecord : Value → Type 0
IsRecord x = (xs : Vec Association Global) × (x ≡ Record xs)

record_layer : (x : Value) (layer : Level) (y : plain.Associations (Unit {0})) → x ≡ roll-Value layer
    → view x ≡ fields y → IsRecord x
record_layer x (Value-F.List vs) y is e = let f = ap view (is ∙ rolls-List vs) ∙ view-List no_place vs in absurd cc
record_layer x (Value-F.Record xs) y is e = (xs, is ∙ rolls-Record xs)
record_layer x (Value-F.Text bytes) y is e = let f = ap view (is ∙ rolls-Text bytes)
    ∙ view-Text no_place bytes in absurd cc
record_layer x (Value-F.Reference z) y is e = let f = ap view (is ∙ rolls-Reference z)
    ∙ view-Reference no_place z in absurd cc
record_layer x (Value-F.Classifier z) y is e = let f = ap view (is ∙ rolls-Classifier z)
    ∙ view-Classifier no_place z in absurd cc
record_layer x (Value-F.Named z) y is e = let f = ap view (is ∙ rolls-Named z) ∙ view-Named no_place z in absurd cc
record_layer x (Value-F.Number low high) y is e = let f = ap view (is ∙ rolls-Number low high)
    ∙ view-Number no_place low high in absurd cc

pub only_record : (x : Value) (y : plain.Associations (Unit {0})) → view x ≡ fields y → IsRecord x
only_record x y e = record_layer x (out-Value x) y (sym (roll-out-Value x)) e

abbrev IsText : Value → Type 0
IsText x = (bytes : Vec ℕ Global) × (x ≡ Text bytes)

text_layer : (x : Value) (layer : Level) (y : List ℕ) → x ≡ roll-Value layer → view x ≡ text y → IsText x
text_layer x (Value-F.List vs) y is e = let f = ap view (is ∙ rolls-List vs) ∙ view-List no_place vs in absurd cc
text_layer x (Value-F.Record xs) y is e = let f = ap view (is ∙ rolls-Record xs) ∙ view-Record no_place xs in absurd cc
text_layer x (Value-F.Text bytes) y is e = (bytes, is ∙ rolls-Text bytes)
text_layer x (Value-F.Reference z) y is e = let f = ap view (is ∙ rolls-Reference z)
    ∙ view-Reference no_place z in absurd cc
text_layer x (Value-F.Classifier z) y is e = let f = ap view (is ∙ rolls-Classifier z)
    ∙ view-Classifier no_place z in absurd cc
text_layer x (Value-F.Named z) y is e = let f = ap view (is ∙ rolls-Named z) ∙ view-Named no_place z in absurd cc
text_layer x (Value-F.Number low high) y is e = let f = ap view (is ∙ rolls-Number low high)
    ∙ view-Number no_place low high in absurd cc

pub only_text : (x : Value) (y : List ℕ) → view x ≡ text y → IsText x
only_text x y e = text_layer x (out-Value x) y (sym (roll-out-Value x)) e

abbrev IsReference : Value → Type 0
IsReference x = (z : Box Path Global) × (x ≡ ReferenceTo z)

reference_layer : (x : Value) (layer : Level) (y : plain_names.Path (Unit {0})) → x ≡ roll-Value layer
    → view x ≡ reference y → IsReference x
reference_layer x (Value-F.List vs) y is e = let f = ap view (is ∙ rolls-List vs) ∙ view-List no_place vs in absurd cc
reference_layer x (Value-F.Record xs) y is e = let f = ap view (is ∙ rolls-Record xs)
    ∙ view-Record no_place xs in absurd cc
reference_layer x (Value-F.Text bytes) y is e = let f = ap view (is ∙ rolls-Text bytes)
    ∙ view-Text no_place bytes in absurd cc
reference_layer x (Value-F.Reference z) y is e = (z, is ∙ rolls-Reference z)
reference_layer x (Value-F.Classifier z) y is e = let f = ap view (is ∙ rolls-Classifier z)
    ∙ view-Classifier no_place z in absurd cc
reference_layer x (Value-F.Named z) y is e = let f = ap view (is ∙ rolls-Named z) ∙ view-Named no_place z in absurd cc
reference_layer x (Value-F.Number low high) y is e = let f = ap view (is ∙ rolls-Number low high)
    ∙ view-Number no_place low high in absurd cc

pub only_reference : (x : Value) (y : plain_names.Path (Unit {0})) → view x ≡ reference y → IsReference x
only_reference x y e = reference_layer x (out-Value x) y (sym (roll-out-Value x)) e

abbrev IsClassifier : Value → Type 0
IsClassifier x = (z : Box Reference Global) × (x ≡ Classifier z)

classifier_layer : (x : Value) (layer : Level) (y : plain_names.Reference (Unit {0})) → x ≡ roll-Value layer
    → view x ≡ classifier y → IsClassifier x
classifier_layer x (Value-F.List vs) y is e = let f = ap view (is ∙ rolls-List vs) ∙ view-List no_place vs in absurd cc
classifier_layer x (Value-F.Record xs) y is e = let f = ap view (is ∙ rolls-Record xs)
    ∙ view-Record no_place xs in absurd cc
classifier_layer x (Value-F.Text bytes) y is e = let f = ap view (is ∙ rolls-Text bytes)
    ∙ view-Text no_place bytes in absurd cc
classifier_layer x (Value-F.Reference z) y is e = let f = ap view (is ∙ rolls-Reference z)
    ∙ view-Reference no_place z in absurd cc
classifier_layer x (Value-F.Classifier z) y is e = (z, is ∙ rolls-Classifier z)
classifier_layer x (Value-F.Named z) y is e = let f = ap view (is ∙ rolls-Named z) ∙ view-Named no_place z in absurd cc
classifier_layer x (Value-F.Number low high) y is e = let f = ap view (is ∙ rolls-Number low high)
    ∙ view-Number no_place low high in absurd cc

pub only_classifier : (x : Value) (y : plain_names.Reference (Unit {0})) → view x ≡ classifier y → IsClassifier x
only_classifier x y e = classifier_layer x (out-Value x) y (sym (roll-out-Value x)) e

abbrev IsName : Value → Type 0
IsName x = (z : Box Reference Global) × (x ≡ Named z)

name_layer : (x : Value) (layer : Level) (y : plain_names.Reference (Unit {0})) → x ≡ roll-Value layer
    → view x ≡ named y → IsName x
name_layer x (Value-F.List vs) y is e = let f = ap view (is ∙ rolls-List vs) ∙ view-List no_place vs in absurd cc
name_layer x (Value-F.Record xs) y is e = let f = ap view (is ∙ rolls-Record xs) ∙ view-Record no_place xs in absurd cc
name_layer x (Value-F.Text bytes) y is e = let f = ap view (is ∙ rolls-Text bytes)
    ∙ view-Text no_place bytes in absurd cc
name_layer x (Value-F.Reference z) y is e = let f = ap view (is ∙ rolls-Reference z)
    ∙ view-Reference no_place z in absurd cc
name_layer x (Value-F.Classifier z) y is e = let f = ap view (is ∙ rolls-Classifier z)
    ∙ view-Classifier no_place z in absurd cc
name_layer x (Value-F.Named z) y is e = (z, is ∙ rolls-Named z)
name_layer x (Value-F.Number low high) y is e = let f = ap view (is ∙ rolls-Number low high)
    ∙ view-Number no_place low high in absurd cc

pub only_name : (x : Value) (y : plain_names.Reference (Unit {0})) → view x ≡ named y → IsName x
only_name x y e = name_layer x (out-Value x) y (sym (roll-out-Value x)) e

abbrev IsNumber : Value → Type 0
IsNumber x = (low : Quantity) × (high : Option (Box Quantity Global)) × (x ≡ Number low high)

number_layer : (x : Value) (layer : Level) (y : plain.Quantity (Unit {0})) (w : Option (plain.Quantity (Unit {0})))
    → x ≡ roll-Value layer → view x ≡ number y w → IsNumber x
number_layer x (Value-F.List vs) y w is e = let f = ap view (is ∙ rolls-List vs) ∙ view-List no_place vs in absurd cc
number_layer x (Value-F.Record xs) y w is e = let f = ap view (is ∙ rolls-Record xs)
    ∙ view-Record no_place xs in absurd cc
number_layer x (Value-F.Text bytes) y w is e = let f = ap view (is ∙ rolls-Text bytes)
    ∙ view-Text no_place bytes in absurd cc
number_layer x (Value-F.Reference z) y w is e = let f = ap view (is ∙ rolls-Reference z)
    ∙ view-Reference no_place z in absurd cc
number_layer x (Value-F.Classifier z) y w is e = let f = ap view (is ∙ rolls-Classifier z)
    ∙ view-Classifier no_place z in absurd cc
number_layer x (Value-F.Named z) y w is e = let f = ap view (is ∙ rolls-Named z) ∙ view-Named no_place z in absurd cc
number_layer x (Value-F.Number low high) y w is e = (low, high, is ∙ rolls-Number low high)

pub only_number : (x : Value) (y : plain.Quantity (Unit {0})) (w : Option (plain.Quantity (Unit {0})))
    → view x ≡ number y w → IsNumber x
only_number x y w e = number_layer x (out-Value x) y w (sym (roll-out-Value x)) e
