-- The views of properties and their values, level by level.
use Rattle.std.proofs.Common.{◌≡◌, ℕ, Bool, map, Option, Vec, Global, Box, rules}
use Rattle.std.specs.Prelude.{option_map}
use Rattle.aadl_tree.specs.declared.names.Name.{Name}
use Rattle.aadl_tree.specs.declared.names.Path.{Path}
use Rattle.aadl_tree.specs.declared.names.Reference.{Reference}
use Rattle.aadl_tree.specs.declared.values.AssociationOperator.{AssociationOperator}
use Rattle.aadl_tree.specs.declared.values.Quantity.{Quantity}
use Rattle.aadl_tree.specs.declared.values.Value.{Value, List as ListOf, Record, Text, Reference as ReferenceTo}
use Rattle.aadl_tree.specs.declared.values.Value.{Classifier, Named, Number, the_lemmas, the_lemmas as value_lemmas}
use Rattle.aadl_tree.specs.declared.values.Association.{Association, roll-Association}
use Rattle.aadl_tree.specs.Values.{list, fields, text, reference, classifier, named, number, association}
use Rattle.aadl_tree.specs.proof.NameViews.{name_view, path_view, reference_view}
use Rattle.aadl_tree.specs.proof.ValueViews.{quantity_view, value_view, association_view, values_view}
use Rattle.aadl_tree.specs.proof.ValueViews.{associations_view}
use Rattle.aadl_tree.specs.declared.values.Value.TheViews.{out-Association}

pub view-List : {P : Type 0} (place : ℕ → P) (vs : Vec Value Global)
    → value_view place (ListOf vs) ≡ list (values_view place vs.items)
view-List place vs = search (rules, the_lemmas)

pub view-Record : {P : Type 0} (place : ℕ → P) (xs : Vec Association Global)
    → value_view place (Record xs) ≡ fields (associations_view place xs.items)
view-Record place xs = search (rules, the_lemmas)

pub view-Text : {P : Type 0} (place : ℕ → P) (bytes : Vec ℕ Global) → value_view place (Text bytes) ≡ text bytes.items
view-Text place bytes = search (rules, the_lemmas)

pub view-Reference : {P : Type 0} (place : ℕ → P) (x : Box Path Global)
    → value_view place (ReferenceTo x) ≡ reference (path_view place x.value)
view-Reference place x = search (rules, the_lemmas)

pub view-Classifier : {P : Type 0} (place : ℕ → P) (x : Box Reference Global)
    → value_view place (Classifier x) ≡ classifier (reference_view place x.value)
view-Classifier place x = search (rules, the_lemmas)

pub view-Named : {P : Type 0} (place : ℕ → P) (x : Box Reference Global)
    → value_view place (Named x) ≡ named (reference_view place x.value)
view-Named place x = search (rules, the_lemmas)

pub view-Number : {P : Type 0} (place : ℕ → P) (low : Quantity) (high : Option (Box Quantity Global))
    → value_view place (Number low high)
    ≡ number (quantity_view place low) (option_map (λ x. quantity_view place x.value) high)
view-Number place low high = search (rules, the_lemmas)

pub view-association : {P : Type 0} (place : ℕ → P) (name : Name) (operator : AssociationOperator) (constant : Bool)
    (value : Value) (applies_to : Vec Path Global)
    → association_view place
    (roll-Association (record {
      name = name;
      operator = operator;
      constant = constant;
      value = value;
      applies_to = applies_to;
    }))
    ≡ association (name_view place name) operator constant (value_view place value)
    (map (path_view place) applies_to.items)
view-association place name operator constant value applies_to = search (rules, the_lemmas)

pub view_out_association : {P : Type 0} (place : ℕ → P) (x : Association)
    → association_view place x
    ≡ association (name_view place (out-Association x).name) (out-Association x).operator (out-Association x).constant
    (value_view place (out-Association x).value) (map (path_view place) (out-Association x).applies_to.items)
view_out_association place x = search (rules, value_lemmas)
