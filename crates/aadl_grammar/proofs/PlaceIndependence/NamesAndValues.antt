-- Names, values and properties that differ only in their places have the same spelling. For the proof that a text has
-- one tree.
use Rattle.std.proofs.Common.{refl, List, [], ◌∷◌, map, Option, Some, None, option_map}
use Rattle.aadl_tree.specs.declared.expressions.Sign.{Sign}
use Rattle.aadl_tree.specs.declared.mark.Mark.TheVariants as k
use Rattle.aadl_tree.specs.SpellingParts.{parts_if, behind}
use Rattle.aadl_tree.specs.Names as n
use Rattle.aadl_tree.specs.Values as v
use Rattle.aadl_tree.specs.proof.PlaceMaps.{association_to, associations_to, identifier_to, identifiers_to, name_to}
use Rattle.aadl_tree.specs.proof.PlaceMaps.{path_to, quantity_to, reference_to, value_to, values_to}
use Rattle.aadl_grammar.proofs.PlaceIndependence.AlikeParts.{Alike, none, one, both, each, chain, perhaps, marked}

pub identifier_alike : {P Q : Type 0} (f : P → Q) (t : n.Identifier P)
    → Alike f (n.identifier_parts t) (n.identifier_parts (identifier_to f t))
identifier_alike f t = one refl none

pub dotted_alike : {P Q : Type 0} (f : P → Q) (t : Option (n.Identifier P))
    → Alike f (parts_if (behind k.Dot n.identifier_parts) t)
    (parts_if (behind k.Dot n.identifier_parts) (option_map (identifier_to f) t))
dotted_alike f None = none
dotted_alike f (Some t) = one refl (one refl none)

pub name_alike : {P Q : Type 0} (f : P → Q) (t : n.Name P) → Alike f (n.name_parts t) (n.name_parts (name_to f t))
name_alike f t =
    one refl (chain k.Scope n.identifier_parts n.identifier_parts (identifier_to f) (identifier_alike f) t.rest)

pub path_alike : {P Q : Type 0} (f : P → Q) (t : n.Path P) → Alike f (n.path_parts t) (n.path_parts (path_to f t))
path_alike f t =
    one refl (chain k.Dot n.identifier_parts n.identifier_parts (identifier_to f) (identifier_alike f) t.rest)

pub identifiers_alike : {P Q : Type 0} (f : P → Q) (t : n.Identifiers P)
    → Alike f (n.identifiers_parts t) (n.identifiers_parts (identifiers_to f t))
identifiers_alike f t =
    one refl (chain k.Comma n.identifier_parts n.identifier_parts (identifier_to f) (identifier_alike f) t.rest)

pub reference_alike : {P Q : Type 0} (f : P → Q) (t : n.Reference P)
    → Alike f (n.reference_parts t) (n.reference_parts (reference_to f t))
reference_alike f t =
    both (each n.qualifier_parts n.qualifier_parts (identifier_to f) (λ y. one refl (one refl none)) t.qualifiers)
    (one refl (dotted_alike f t.implementation))

figure_alike : {P Q : Type 0} {f : P → Q} (t : v.UnsignedNumber) → Alike f (v.figure_parts t) (v.figure_parts t)
figure_alike (v.whole_figure t) = one refl none
figure_alike (v.real_figure t) = one refl none

sign_alike : {P Q : Type 0} {f : P → Q} (t : Option Sign) → Alike f (parts_if v.sign_parts t) (parts_if v.sign_parts t)
sign_alike None = none
sign_alike (Some t) = one refl none

number_alike : {P Q : Type 0} {f : P → Q} (t : v.Number) → Alike f (v.number_parts t) (v.number_parts t)
number_alike t = both (sign_alike t.sign) (figure_alike t.figure)

pub quantity_alike : {P Q : Type 0} (f : P → Q) (t : v.Quantity P)
    → Alike f (v.quantity_parts t) (v.quantity_parts (quantity_to f t))
quantity_alike f t =
    both (number_alike t.number)
    (perhaps n.identifier_parts n.identifier_parts (identifier_to f) (identifier_alike f) t.unit)

upper_alike : {P Q : Type 0} (f : P → Q) (t : Option (v.Quantity P))
    → Alike f (parts_if (behind k.Range v.quantity_parts) t)
    (parts_if (behind k.Range v.quantity_parts) (option_map (quantity_to f) t))
upper_alike f None = none
upper_alike f (Some t) = one refl (quantity_alike f t)

applies_alike : {P Q : Type 0} (f : P → Q) (ts : List (n.Path P))
    → Alike f (v.applies_parts ts) (v.applies_parts (map (path_to f) ts))
applies_alike f [] = none
applies_alike f (t ∷ ts) =
    one refl (one refl (both (path_alike f t) (chain k.Comma n.path_parts n.path_parts (path_to f) (path_alike f) ts)))

mutual
  pub value_alike : {P Q : Type 0} (f : P → Q) (t : v.Value P)
      → Alike f (v.value_parts t) (v.value_parts (value_to f t))
  value_alike f (v.list t) = one refl (both (values_alike f t) (one refl none))
  value_alike f (v.fields t) = one refl (both (associations_alike f t) (one refl none))
  value_alike f (v.text t) = one refl none
  value_alike f (v.reference t) = one refl (one refl (both (path_alike f t) (one refl none)))
  value_alike f (v.classifier t) = one refl (one refl (both (reference_alike f t) (one refl none)))
  value_alike f (v.named t) = reference_alike f t
  value_alike f (v.number t u) = both (quantity_alike f t) (upper_alike f u)

  pub values_alike : {P Q : Type 0} (f : P → Q) (t : v.Values P)
      → Alike f (v.values_parts t) (v.values_parts (values_to f t))
  values_alike f v.no_values = none
  values_alike f (v.value t u) = both (value_alike f t) (more_values_alike f u)

  pub more_values_alike : {P Q : Type 0} (f : P → Q) (t : v.Values P)
      → Alike f (v.more_values_parts t) (v.more_values_parts (values_to f t))
  more_values_alike f v.no_values = none
  more_values_alike f (v.value t u) = one refl (both (value_alike f t) (more_values_alike f u))

  pub association_alike : {P Q : Type 0} (f : P → Q) (t : v.Association P)
      → Alike f (v.association_parts t) (v.association_parts (association_to f t))
  association_alike f (v.association name operator constant t paths) =
      both (name_alike f name)
      (one refl (both (marked k.Constant constant)
      (both (value_alike f t) (both (applies_alike f paths) (one refl none)))))

  pub associations_alike : {P Q : Type 0} (f : P → Q) (t : v.Associations P)
      → Alike f (v.associations_parts t) (v.associations_parts (associations_to f t))
  associations_alike f v.no_associations = none
  associations_alike f (v.associate t u) = both (association_alike f t) (associations_alike f u)

pub properties_alike : {P Q : Type 0} (f : P → Q) (t : v.Associations P)
    → Alike f (v.properties_parts t) (v.properties_parts (associations_to f t))
properties_alike f v.no_associations = none
properties_alike f (v.associate t u) =
    one refl (both (both (association_alike f t) (associations_alike f u)) (one refl none))
