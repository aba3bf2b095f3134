-- Declarations and packages that terminals spell can be given the places of these terminals. For the law that a text
-- has a tree or a fault.
use Rattle.std.proofs.Common.{ℕ, sym, List, [], ◌∷◌, ◌++◌, flat_map}
use Rattle.aadl_tree.specs.declared.mark.Mark.TheVariants as k
use Rattle.aadl_tree.specs.Terminals.{mark}
use Rattle.aadl_tree.specs.SpellingParts.{SpellingPart, token, feature_section, subcomponent_section}
use Rattle.aadl_tree.specs.SpellingParts.{connection_section}
use Rattle.aadl_tree.specs.SpellingParts.{property_section, parts_if, behind, chained}
use Rattle.aadl_grammar.proofs.PlaceFilling.FilledTrees.{U, Fills, split, cut, cut_at, nil, joined, consed, list_fill}
use Rattle.aadl_grammar.proofs.PlaceFilling.FilledTrees.{option_fill, chain_fill, sectioned, section_fill}
use Rattle.aadl_tree.specs.Names as n
use Rattle.aadl_tree.specs.Values as v
use Rattle.aadl_tree.specs.Annexes as x
use Rattle.aadl_tree.specs.Declarations as d
use Rattle.aadl_grammar.proofs.PlaceFilling.Names.{identifier_fill, name_fill, dotted_fill, reference_fill}
use Rattle.aadl_grammar.proofs.PlaceFilling.Values.{associations_fill, properties_fill}
use Rattle.aadl_grammar.proofs.PlaceFilling.Annexes.{annex_fill}

abbrev chained_names : {P : Type 0} → d.With P → List (SpellingPart P)
chained_names t = chained k.Comma n.name_parts t.first t.rest

pub feature_fill : Fills (d.Feature U) (d.Feature ℕ) d.feature_parts d.feature_parts
feature_fill t b l =
    let s0 =
    split (n.identifier_parts t.name)
    (token (mark k.Colon) []
    ∷ (token (mark (d.direction_mark t.direction)) []
    ∷ (token (mark k.Data) []
    ∷ (token (mark k.Port) []
    ∷ (parts_if (n.reference_parts) t.data_type
    ++ (v.properties_parts t.properties ++ (token (mark k.Semicolon) [] ∷ []))))))) (b) (l) in
    let r1 = identifier_fill t.name s0.front s0.first in
    let s1 =
    cut (mark k.Colon) (token (mark (d.direction_mark t.direction)) []
    ∷ (token (mark k.Data) []
    ∷ (token (mark k.Port) []
    ∷ (parts_if (n.reference_parts) t.data_type
    ++ (v.properties_parts t.properties ++ (token (mark k.Semicolon) [] ∷ [])))))) (s0.back)
    (s0.second) in
    let s2 =
    cut (mark (d.direction_mark t.direction))
    (token (mark k.Data) [] ∷ (token (mark k.Port) []
    ∷ (parts_if (n.reference_parts) t.data_type
    ++ (v.properties_parts t.properties ++ (token (mark k.Semicolon) [] ∷ []))))) (s1.back) (s1.rest) in
    let s3 =
    cut (mark k.Data) (token (mark k.Port) []
    ∷ (parts_if (n.reference_parts) t.data_type
    ++ (v.properties_parts t.properties ++ (token (mark k.Semicolon) [] ∷ [])))) (s2.back) (s2.rest) in
    let s4 =
    cut (mark k.Port) (parts_if (n.reference_parts) t.data_type
    ++ (v.properties_parts t.properties ++ (token (mark k.Semicolon) [] ∷ []))) (s3.back) (s3.rest) in
    let s5 =
    split (parts_if (n.reference_parts) t.data_type)
    (v.properties_parts t.properties ++ (token (mark k.Semicolon) [] ∷ [])) (s4.back) (s4.rest) in
    let r2 = option_fill (n.reference_parts) (n.reference_parts) (reference_fill) t.data_type s5.front s5.first in
    let s6 = split (v.properties_parts t.properties) (token (mark k.Semicolon) [] ∷ []) (s5.back) (s5.second) in
    let r3 = properties_fill t.properties s6.front s6.first in
    let s7 = cut (mark k.Semicolon) [] (s6.back) (s6.second) in
    record {
      tree = record { name = r1.tree; direction = t.direction; data_type = r2.tree; properties = r3.tree };
      is = joined (r1.is) (consed
          (consed (consed (consed (joined (r2.is)
          (joined (r3.is) (consed (sym (nil (s7.back) (s7.rest))) (s7.is)) (s6.is)) (s5.is)) (s4.is)) (s3.is))
          (s2.is)) (s1.is)) (s0.is);
    }

pub subcomponent_fill : Fills (d.Subcomponent U) (d.Subcomponent ℕ) d.subcomponent_parts d.subcomponent_parts
subcomponent_fill t b l =
    let s0 =
    split (n.identifier_parts t.name)
    (token (mark k.Colon) []
    ∷ (token (mark (d.category_mark t.category)) []
    ∷ (n.reference_parts t.classifier
    ++ (v.properties_parts t.properties ++ (token (mark k.Semicolon) [] ∷ []))))) (b) (l) in
    let r1 = identifier_fill t.name s0.front s0.first in
    let s1 =
    cut (mark k.Colon) (token (mark (d.category_mark t.category)) []
    ∷ (n.reference_parts t.classifier
    ++ (v.properties_parts t.properties ++ (token (mark k.Semicolon) [] ∷ [])))) (s0.back) (s0.second) in
    let s2 =
    cut (mark (d.category_mark t.category))
    (n.reference_parts t.classifier ++ (v.properties_parts t.properties ++ (token (mark k.Semicolon) [] ∷ [])))
    (s1.back) (s1.rest) in
    let s3 =
    split (n.reference_parts t.classifier) (v.properties_parts t.properties ++ (token (mark k.Semicolon) [] ∷ []))
    (s2.back) (s2.rest) in
    let r2 = reference_fill t.classifier s3.front s3.first in
    let s4 = split (v.properties_parts t.properties) (token (mark k.Semicolon) [] ∷ []) (s3.back) (s3.second) in
    let r3 = properties_fill t.properties s4.front s4.first in
    let s5 = cut (mark k.Semicolon) [] (s4.back) (s4.second) in
    record {
      tree = record { name = r1.tree; category = t.category; classifier = r2.tree; properties = r3.tree };
      is = joined (r1.is) (consed
          (consed (joined (r2.is) (joined (r3.is) (consed (sym (nil (s5.back) (s5.rest))) (s5.is)) (s4.is)) (s3.is))
          (s2.is)) (s1.is)) (s0.is);
    }

pub end_fill : Fills (d.ConnectionEnd U) (d.ConnectionEnd ℕ) d.end_parts d.end_parts
end_fill t b l =
    let s0 = split (n.identifier_parts t.first) (parts_if (behind k.Dot n.identifier_parts) t.second) (b) (l) in
    let r1 = identifier_fill t.first s0.front s0.first in
    let r2 =
    option_fill (behind k.Dot n.identifier_parts) (behind k.Dot n.identifier_parts) (dotted_fill) t.second (s0.back)
    (s0.second) in
    record { tree = record { first = r1.tree; second = r2.tree }; is = joined (r1.is) (r2.is) (s0.is) }

pub connection_fill : Fills (d.Connection U) (d.Connection ℕ) d.connection_parts d.connection_parts
connection_fill t b l =
    let s0 =
    split (n.identifier_parts t.name)
    (token (mark k.Colon) []
    ∷ (token (mark k.Port) []
    ∷ (d.end_parts t.source ++ (token (mark k.Arrow) []
    ∷ (d.end_parts t.target ++ (v.properties_parts t.properties
    ++ (token (mark k.Semicolon) [] ∷ []))))))) (b) (l) in
    let r1 = identifier_fill t.name s0.front s0.first in
    let s1 =
    cut (mark k.Colon) (token (mark k.Port) []
    ∷ (d.end_parts t.source ++ (token (mark k.Arrow) []
    ∷ (d.end_parts t.target ++ (v.properties_parts t.properties ++ (token (mark k.Semicolon) [] ∷ []))))))
    (s0.back) (s0.second) in
    let s2 =
    cut (mark k.Port) (d.end_parts t.source
    ++ (token (mark k.Arrow) []
    ∷ (d.end_parts t.target ++ (v.properties_parts t.properties ++ (token (mark k.Semicolon) [] ∷ [])))))
    (s1.back) (s1.rest) in
    let s3 =
    split (d.end_parts t.source)
    (token (mark k.Arrow) []
    ∷ (d.end_parts t.target ++ (v.properties_parts t.properties ++ (token (mark k.Semicolon) [] ∷ []))))
    (s2.back) (s2.rest) in
    let r2 = end_fill t.source s3.front s3.first in
    let s4 =
    cut (mark k.Arrow) (d.end_parts t.target
    ++ (v.properties_parts t.properties ++ (token (mark k.Semicolon) [] ∷ []))) (s3.back) (s3.second) in
    let s5 =
    split (d.end_parts t.target) (v.properties_parts t.properties ++ (token (mark k.Semicolon) [] ∷ [])) (s4.back)
    (s4.rest) in
    let r3 = end_fill t.target s5.front s5.first in
    let s6 = split (v.properties_parts t.properties) (token (mark k.Semicolon) [] ∷ []) (s5.back) (s5.second) in
    let r4 = properties_fill t.properties s6.front s6.first in
    let s7 = cut (mark k.Semicolon) [] (s6.back) (s6.second) in
    record {
      tree = record { name = r1.tree; source = r2.tree; target = r3.tree; properties = r4.tree };
      is = joined (r1.is) (consed
          (consed (joined (r2.is) (consed
          (joined (r3.is) (joined (r4.is) (consed (sym (nil (s7.back) (s7.rest))) (s7.is)) (s6.is)) (s5.is))
          (s4.is)) (s3.is)) (s2.is)) (s1.is)) (s0.is);
    }

pub implementation_name_fill : Fills (d.ImplementationName U) (d.ImplementationName ℕ) d.implementation_name_parts
    d.implementation_name_parts
implementation_name_fill t b l =
    let s0 =
    split (n.identifier_parts t.component_type)
    (token (mark k.Dot) [] ∷ (n.identifier_parts t.implementation)) (b) (l) in
    let r1 = identifier_fill t.component_type s0.front s0.first in
    let s1 = cut (mark k.Dot) (n.identifier_parts t.implementation) (s0.back) (s0.second) in
    let r2 = identifier_fill t.implementation (s1.back) (s1.rest) in
    record {
      tree = record { component_type = r1.tree; implementation = r2.tree };
      is = joined (r1.is) (consed (r2.is) (s1.is)) (s0.is);
    }

pub type_fill : Fills (d.TypeDeclaration U) (d.TypeDeclaration ℕ) d.type_parts d.type_parts
type_fill t b l =
    let s0 =
    cut_at (mark (d.category_mark t.category)) (t.at)
    (n.identifier_parts t.name
    ++ (sectioned feature_section (flat_map d.feature_parts) t.features
    ++ (sectioned property_section (v.associations_parts) t.properties
    ++ (flat_map (x.annex_parts) t.annexes
    ++ (token (mark k.End) []
    ∷ (n.identifier_parts t.end_name ++ (token (mark k.Semicolon) [] ∷ []))))))) (b) (l) in
    let at = s0.at in
    let s1 =
    split (n.identifier_parts t.name)
    (sectioned feature_section (flat_map d.feature_parts) t.features
    ++ (sectioned property_section (v.associations_parts) t.properties
    ++ (flat_map (x.annex_parts) t.annexes
    ++ (token (mark k.End) []
    ∷ (n.identifier_parts t.end_name ++ (token (mark k.Semicolon) [] ∷ [])))))) (s0.back)
    (s0.rest) in
    let r1 = identifier_fill t.name s1.front s1.first in
    let s2 =
    split (sectioned feature_section (flat_map d.feature_parts) t.features)
    (sectioned property_section (v.associations_parts) t.properties
    ++ (flat_map (x.annex_parts) t.annexes
    ++ (token (mark k.End) [] ∷ (n.identifier_parts t.end_name ++ (token (mark k.Semicolon) [] ∷ [])))))
    (s1.back) (s1.second) in
    let r2 =
    section_fill feature_section (flat_map d.feature_parts) (flat_map d.feature_parts)
    (list_fill d.feature_parts d.feature_parts feature_fill) t.features s2.front s2.first in
    let s3 =
    split (sectioned property_section (v.associations_parts) t.properties)
    (flat_map (x.annex_parts) t.annexes
    ++ (token (mark k.End) [] ∷ (n.identifier_parts t.end_name ++ (token (mark k.Semicolon) [] ∷ []))))
    (s2.back) (s2.second) in
    let r3 =
    section_fill property_section (v.associations_parts) (v.associations_parts) (associations_fill) t.properties
    s3.front s3.first in
    let s4 =
    split (flat_map (x.annex_parts) t.annexes)
    (token (mark k.End) [] ∷ (n.identifier_parts t.end_name ++ (token (mark k.Semicolon) [] ∷ []))) (s3.back)
    (s3.second) in
    let r4 = list_fill (x.annex_parts) (x.annex_parts) (annex_fill) t.annexes s4.front s4.first in
    let s5 =
    cut (mark k.End) (n.identifier_parts t.end_name ++ (token (mark k.Semicolon) [] ∷ [])) (s4.back) (s4.second) in
    let s6 = split (n.identifier_parts t.end_name) (token (mark k.Semicolon) [] ∷ []) (s5.back) (s5.rest) in
    let r5 = identifier_fill t.end_name s6.front s6.first in
    let s7 = cut (mark k.Semicolon) [] (s6.back) (s6.second) in
    record {
      tree = record {
        at = at;
        category = t.category;
        name = r1.tree;
        features = r2.tree;
        properties = r3.tree;
        annexes = r4.tree;
        end_name = r5.tree;
      };
      is = consed (joined (r1.is)
          (joined (r2.is) (joined (r3.is)
          (joined (r4.is) (consed (joined (r5.is) (consed (sym (nil (s7.back) (s7.rest))) (s7.is)) (s6.is))
          (s5.is)) (s4.is)) (s3.is)) (s2.is)) (s1.is)) (s0.is);
    }

pub implementation_fill : Fills (d.Implementation U) (d.Implementation ℕ) d.implementation_parts d.implementation_parts
implementation_fill t b l =
    let s0 =
    cut_at (mark (d.category_mark t.category)) (t.at)
    (token (mark k.Implementation) []
    ∷ (d.implementation_name_parts t.name
    ++ (sectioned subcomponent_section (flat_map d.subcomponent_parts) t.subcomponents
    ++ (sectioned connection_section (flat_map d.connection_parts) t.connections
    ++ (sectioned property_section (v.associations_parts) t.properties
    ++ (flat_map (x.annex_parts) t.annexes
    ++ (token (mark k.End) []
    ∷ (d.implementation_name_parts t.end_name
    ++ (token (mark k.Semicolon) [] ∷ []))))))))) (b) (l) in
    let at = s0.at in
    let s1 =
    cut (mark k.Implementation)
    (d.implementation_name_parts t.name
    ++ (sectioned subcomponent_section (flat_map d.subcomponent_parts) t.subcomponents
    ++ (sectioned connection_section (flat_map d.connection_parts) t.connections
    ++ (sectioned property_section (v.associations_parts) t.properties
    ++ (flat_map (x.annex_parts) t.annexes
    ++ (token (mark k.End) []
    ∷ (d.implementation_name_parts t.end_name ++ (token (mark k.Semicolon) [] ∷ []))))))))
    (s0.back) (s0.rest) in
    let s2 =
    split (d.implementation_name_parts t.name)
    (sectioned subcomponent_section (flat_map d.subcomponent_parts) t.subcomponents
    ++ (sectioned connection_section (flat_map d.connection_parts) t.connections
    ++ (sectioned property_section (v.associations_parts) t.properties
    ++ (flat_map (x.annex_parts) t.annexes
    ++ (token (mark k.End) []
    ∷ (d.implementation_name_parts t.end_name ++ (token (mark k.Semicolon) [] ∷ [])))))))
    (s1.back) (s1.rest) in
    let r1 = implementation_name_fill t.name s2.front s2.first in
    let s3 =
    split (sectioned subcomponent_section (flat_map d.subcomponent_parts) t.subcomponents)
    (sectioned connection_section (flat_map d.connection_parts) t.connections
    ++ (sectioned property_section (v.associations_parts) t.properties
    ++ (flat_map (x.annex_parts) t.annexes
    ++ (token (mark k.End) []
    ∷ (d.implementation_name_parts t.end_name ++ (token (mark k.Semicolon) [] ∷ [])))))) (s2.back)
    (s2.second) in
    let r2 =
    section_fill subcomponent_section (flat_map d.subcomponent_parts) (flat_map d.subcomponent_parts)
    (list_fill d.subcomponent_parts d.subcomponent_parts subcomponent_fill) t.subcomponents s3.front s3.first in
    let s4 =
    split (sectioned connection_section (flat_map d.connection_parts) t.connections)
    (sectioned property_section (v.associations_parts) t.properties
    ++ (flat_map (x.annex_parts) t.annexes
    ++ (token (mark k.End) []
    ∷ (d.implementation_name_parts t.end_name ++ (token (mark k.Semicolon) [] ∷ []))))) (s3.back)
    (s3.second) in
    let r3 =
    section_fill connection_section (flat_map d.connection_parts) (flat_map d.connection_parts)
    (list_fill d.connection_parts d.connection_parts connection_fill) t.connections s4.front s4.first in
    let s5 =
    split (sectioned property_section (v.associations_parts) t.properties)
    (flat_map (x.annex_parts) t.annexes
    ++ (token (mark k.End) [] ∷ (d.implementation_name_parts t.end_name ++ (token (mark k.Semicolon) [] ∷ []))))
    (s4.back) (s4.second) in
    let r4 =
    section_fill property_section (v.associations_parts) (v.associations_parts) (associations_fill) t.properties
    s5.front s5.first in
    let s6 =
    split (flat_map (x.annex_parts) t.annexes)
    (token (mark k.End) [] ∷ (d.implementation_name_parts t.end_name ++ (token (mark k.Semicolon) [] ∷ [])))
    (s5.back) (s5.second) in
    let r5 = list_fill (x.annex_parts) (x.annex_parts) (annex_fill) t.annexes s6.front s6.first in
    let s7 =
    cut (mark k.End) (d.implementation_name_parts t.end_name ++ (token (mark k.Semicolon) [] ∷ [])) (s6.back)
    (s6.second) in
    let s8 = split (d.implementation_name_parts t.end_name) (token (mark k.Semicolon) [] ∷ []) (s7.back) (s7.rest) in
    let r6 = implementation_name_fill t.end_name s8.front s8.first in
    let s9 = cut (mark k.Semicolon) [] (s8.back) (s8.second) in
    record {
      tree = record {
        at = at;
        category = t.category;
        name = r1.tree;
        subcomponents = r2.tree;
        connections = r3.tree;
        properties = r4.tree;
        annexes = r5.tree;
        end_name = r6.tree;
      };
      is = consed (consed (joined (r1.is)
          (joined (r2.is) (joined (r3.is)
          (joined (r4.is) (joined (r5.is)
          (consed (joined (r6.is) (consed (sym (nil (s9.back) (s9.rest))) (s9.is)) (s8.is)) (s7.is))
          (s6.is)) (s5.is)) (s4.is)) (s3.is)) (s2.is)) (s1.is)) (s0.is);
    }

pub declaration_fill : Fills (d.Declaration U) (d.Declaration ℕ) d.declaration_parts d.declaration_parts
declaration_fill (d.type t) b l =
    let r1 = type_fill t (b) (l) in
    record { tree = d.type r1.tree; is = r1.is }
declaration_fill (d.implementation t) b l =
    let r1 = implementation_fill t (b) (l) in
    record { tree = d.implementation r1.tree; is = r1.is }

pub chained_names_fill : Fills (d.With U) (d.With ℕ) chained_names chained_names
chained_names_fill t b l =
    let s0 = split (n.name_parts t.first) (flat_map (behind k.Comma n.name_parts) t.rest) (b) (l) in
    let r1 = name_fill t.first s0.front s0.first in
    let r2 = chain_fill k.Comma n.name_parts n.name_parts (name_fill) t.rest (s0.back) (s0.second) in
    record { tree = record { first = r1.tree; rest = r2.tree }; is = joined (r1.is) (r2.is) (s0.is) }

pub with_fill : Fills (d.With U) (d.With ℕ) d.with_parts d.with_parts
with_fill t b l =
    let s0 = cut (mark k.With) (chained_names t ++ (token (mark k.Semicolon) [] ∷ [])) (b) (l) in
    let s1 = split (chained_names t) (token (mark k.Semicolon) [] ∷ []) (s0.back) (s0.rest) in
    let r1 = chained_names_fill t s1.front s1.first in
    let s2 = cut (mark k.Semicolon) [] (s1.back) (s1.second) in
    record {
      tree = r1.tree;
      is = consed (joined (r1.is) (consed (sym (nil (s2.back) (s2.rest))) (s2.is)) (s1.is)) (s0.is);
    }

pub package_fill : Fills (d.PackageTree U) (d.PackageTree ℕ) d.package_parts d.package_parts
package_fill t b l =
    let s0 =
    cut (mark k.Package) (n.name_parts t.name
    ++ (token (mark k.Public) []
    ∷ (flat_map (d.with_parts) t.withs
    ++ (flat_map (d.declaration_parts) t.declarations
    ++ (token (mark k.End) []
    ∷ (n.name_parts t.end_name ++ (token (mark k.Semicolon) [] ∷ []))))))) (b) (l) in
    let s1 =
    split (n.name_parts t.name)
    (token (mark k.Public) []
    ∷ (flat_map (d.with_parts) t.withs
    ++ (flat_map (d.declaration_parts) t.declarations
    ++ (token (mark k.End) [] ∷ (n.name_parts t.end_name ++ (token (mark k.Semicolon) [] ∷ []))))))
    (s0.back) (s0.rest) in
    let r1 = name_fill t.name s1.front s1.first in
    let s2 =
    cut (mark k.Public) (flat_map (d.with_parts) t.withs
    ++ (flat_map (d.declaration_parts) t.declarations
    ++ (token (mark k.End) [] ∷ (n.name_parts t.end_name ++ (token (mark k.Semicolon) [] ∷ []))))) (s1.back)
    (s1.second) in
    let s3 =
    split (flat_map (d.with_parts) t.withs)
    (flat_map (d.declaration_parts) t.declarations
    ++ (token (mark k.End) [] ∷ (n.name_parts t.end_name ++ (token (mark k.Semicolon) [] ∷ [])))) (s2.back)
    (s2.rest) in
    let r2 = list_fill (d.with_parts) (d.with_parts) (with_fill) t.withs s3.front s3.first in
    let s4 =
    split (flat_map (d.declaration_parts) t.declarations)
    (token (mark k.End) [] ∷ (n.name_parts t.end_name ++ (token (mark k.Semicolon) [] ∷ []))) (s3.back)
    (s3.second) in
    let r3 =
    list_fill (d.declaration_parts) (d.declaration_parts) (declaration_fill) t.declarations s4.front s4.first in
    let s5 = cut (mark k.End) (n.name_parts t.end_name ++ (token (mark k.Semicolon) [] ∷ [])) (s4.back) (s4.second) in
    let s6 = split (n.name_parts t.end_name) (token (mark k.Semicolon) [] ∷ []) (s5.back) (s5.rest) in
    let r4 = name_fill t.end_name s6.front s6.first in
    let s7 = cut (mark k.Semicolon) [] (s6.back) (s6.second) in
    record {
      tree = record { name = r1.tree; withs = r2.tree; declarations = r3.tree; end_name = r4.tree };
      is = consed (joined (r1.is)
          (consed (joined (r2.is) (joined (r3.is)
          (consed (joined (r4.is) (consed (sym (nil (s7.back) (s7.rest))) (s7.is)) (s6.is)) (s5.is)) (s4.is))
          (s3.is)) (s2.is)) (s1.is)) (s0.is);
    }
