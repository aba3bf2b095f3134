-- Declarations and packages that differ only in their places have the same spelling. For the proof that a text has
-- one tree.
use Rattle.std.proofs.Common.{refl, List}
use Rattle.aadl_tree.specs.declared.mark.Mark.TheVariants as k
use Rattle.aadl_tree.specs.SpellingParts.{SpellingPart, Section, feature_section, subcomponent_section}
use Rattle.aadl_tree.specs.SpellingParts.{connection_section}
use Rattle.aadl_tree.specs.SpellingParts.{property_section}
use Rattle.aadl_tree.specs.Names as n
use Rattle.aadl_tree.specs.Annexes as x
use Rattle.aadl_tree.specs.Declarations as d
use Rattle.aadl_tree.specs.proof.PlaceMaps.{annex_to, connection_to, declaration_to, end_to, feature_to}
use Rattle.aadl_tree.specs.proof.PlaceMaps.{implementation_name_to, implementation_to, name_to, package_to}
use Rattle.aadl_tree.specs.proof.PlaceMaps.{reference_to, subcomponent_to, type_to, with_to}
use Rattle.aadl_grammar.proofs.PlaceIndependence.AlikeParts.{Alike, none, one, extra, both, each, chain, perhaps}
use Rattle.aadl_grammar.proofs.PlaceIndependence.NamesAndValues.{identifier_alike, name_alike, reference_alike}
use Rattle.aadl_grammar.proofs.PlaceIndependence.NamesAndValues.{associations_alike, properties_alike, dotted_alike}
use Rattle.aadl_grammar.proofs.PlaceIndependence.Annexes.{annex_alike}

section_alike : {P Q : Type 0} {f : P → Q} {xs : List (SpellingPart P)} {ys : List (SpellingPart Q)}
    (section : Section) → Alike f xs ys
    → Alike f (d.section_parts section xs) (d.section_parts section ys)
section_alike section none = extra none
section_alike section (one h y) = one refl (one h y)
section_alike section (extra y) = one refl (extra y)

pub feature_alike : {P Q : Type 0} (f : P → Q) (t : d.Feature P)
    → Alike f (d.feature_parts t) (d.feature_parts (feature_to f t))
feature_alike f t =
    one refl (one refl (one refl
    (one refl (one refl (both
    (perhaps n.reference_parts n.reference_parts (reference_to f) (reference_alike f) t.data_type)
    (both (properties_alike f t.properties) (one refl none)))))))

pub subcomponent_alike : {P Q : Type 0} (f : P → Q) (t : d.Subcomponent P)
    → Alike f (d.subcomponent_parts t) (d.subcomponent_parts (subcomponent_to f t))
subcomponent_alike f t =
    one refl (one refl (one refl
    (both (reference_alike f t.classifier) (both (properties_alike f t.properties) (one refl none)))))

pub end_alike : {P Q : Type 0} (f : P → Q) (t : d.ConnectionEnd P) → Alike f (d.end_parts t) (d.end_parts (end_to f t))
end_alike f t = one refl (dotted_alike f t.second)

pub connection_alike : {P Q : Type 0} (f : P → Q) (t : d.Connection P)
    → Alike f (d.connection_parts t) (d.connection_parts (connection_to f t))
connection_alike f t =
    one refl (one refl (one refl
    (both (end_alike f t.source)
    (one refl (both (end_alike f t.target) (both (properties_alike f t.properties) (one refl none)))))))

pub implementation_name_alike : {P Q : Type 0} (f : P → Q) (t : d.ImplementationName P)
    → Alike f (d.implementation_name_parts t) (d.implementation_name_parts (implementation_name_to f t))
implementation_name_alike f t = one refl (one refl (one refl none))

pub type_alike : {P Q : Type 0} (f : P → Q) (t : d.TypeDeclaration P)
    → Alike f (d.type_parts t) (d.type_parts (type_to f t))
type_alike f t =
    one refl (one refl (both
    (section_alike feature_section
    (each d.feature_parts d.feature_parts (feature_to f) (feature_alike f) t.features))
    (both (section_alike property_section (associations_alike f t.properties))
    (both (each x.annex_parts x.annex_parts (annex_to f) (annex_alike f) t.annexes)
    (one refl (both (identifier_alike f t.end_name) (one refl none)))))))

pub implementation_alike : {P Q : Type 0} (f : P → Q) (t : d.Implementation P)
    → Alike f (d.implementation_parts t) (d.implementation_parts (implementation_to f t))
implementation_alike f t =
    one refl (one refl (both (implementation_name_alike f t.name)
    (both (section_alike subcomponent_section
    (each d.subcomponent_parts d.subcomponent_parts (subcomponent_to f) (subcomponent_alike f) t.subcomponents))
    (both (section_alike connection_section
    (each d.connection_parts d.connection_parts (connection_to f) (connection_alike f) t.connections))
    (both (section_alike property_section (associations_alike f t.properties))
    (both (each x.annex_parts x.annex_parts (annex_to f) (annex_alike f) t.annexes)
    (one refl (both (implementation_name_alike f t.end_name) (one refl none)))))))))

pub declaration_alike : {P Q : Type 0} (f : P → Q) (t : d.Declaration P)
    → Alike f (d.declaration_parts t) (d.declaration_parts (declaration_to f t))
declaration_alike f (d.type t) = type_alike f t
declaration_alike f (d.implementation t) = implementation_alike f t

pub with_alike : {P Q : Type 0} (f : P → Q) (t : d.With P) → Alike f (d.with_parts t) (d.with_parts (with_to f t))
with_alike f t =
    one refl (both (both (name_alike f t.first)
    (chain k.Comma n.name_parts n.name_parts (name_to f) (name_alike f) t.rest)) (one refl none))

pub package_alike : {P Q : Type 0} (f : P → Q) (t : d.PackageTree P)
    → Alike f (d.package_parts t) (d.package_parts (package_to f t))
package_alike f t =
    one refl (both (name_alike f t.name)
    (one refl (both (each d.with_parts d.with_parts (with_to f) (with_alike f) t.withs)
    (both (each d.declaration_parts d.declaration_parts (declaration_to f) (declaration_alike f) t.declarations)
    (one refl (both (name_alike f t.end_name) (one refl none)))))))
