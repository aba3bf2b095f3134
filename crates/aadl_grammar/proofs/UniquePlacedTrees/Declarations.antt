-- Declarations and packages are determined by their shape, which is the tree without places, and by their places.
use Rattle.std.proofs.Common.{ℕ, ◌∙◌, sym, ap, List, [], ◌∷◌, ◌++◌, map, flat_map}
use Rattle.aadl_tree.specs.declared.mark.Mark.TheVariants as k
use Rattle.aadl_tree.specs.declared.declarations.Category.{Category}
use Rattle.aadl_tree.specs.SpellingParts.{feature_section, subcomponent_section, connection_section, property_section}
use Rattle.aadl_tree.specs.SpellingParts.{plain}
use Rattle.aadl_tree.specs.Names as n
use Rattle.aadl_tree.specs.Values as v
use Rattle.aadl_tree.specs.Annexes as x
use Rattle.aadl_tree.specs.Declarations as d
use Rattle.aadl_grammar.proofs.HeadsAndTails.{heads, tails}
use Rattle.aadl_tree.specs.proof.PlaceMaps.{no_place, associations_to, annex_to, feature_to, subcomponent_to}
use Rattle.aadl_tree.specs.proof.PlaceMaps.{connection_to, type_to, implementation_to, declaration_to, with_to}
use Rattle.aadl_tree.specs.proof.PlaceMaps.{package_to}
use Rattle.aadl_grammar.proofs.UniquePlacedTrees.PlacesFromTokens.{in_turn}
use Rattle.aadl_grammar.proofs.UniquePlacedTrees.Names.{Fixed, identifier_fixed, name_fixed}
use Rattle.aadl_grammar.proofs.UniquePlacedTrees.Values.{list_fixed, associations_fixed}
use Rattle.aadl_grammar.proofs.UniquePlacedTrees.Annexes.{annex_fixed}
use Rattle.aadl_grammar.proofs.UniquePlacedTrees.DeclarationMembers.{category_one, sectioned, with_fixed, feature_fixed}
use Rattle.aadl_grammar.proofs.UniquePlacedTrees.DeclarationMembers.{subcomponent_fixed, connection_fixed}
use Rattle.aadl_grammar.proofs.UniquePlacedTrees.DeclarationMembers.{implementation_name_fixed}

pub type_fixed : Fixed (d.TypeDeclaration ℕ) (d.TypeDeclaration (Unit {0})) (type_to no_place) d.type_parts
type_fixed t u xs ys s h =
    let c0 =
    sym (category_one t.category t.at
    (n.identifier_parts t.name
    ++ (d.section_parts feature_section (flat_map d.feature_parts t.features)
    ++ (d.section_parts property_section (v.associations_parts t.properties)
    ++ (flat_map x.annex_parts t.annexes
    ++ (plain k.End ∷ (n.identifier_parts t.end_name ++ (plain k.Semicolon ∷ []))))))) xs) ∙ h
    ∙ category_one u.category u.at
    (n.identifier_parts u.name
    ++ (d.section_parts feature_section (flat_map d.feature_parts u.features)
    ++ (d.section_parts property_section (v.associations_parts u.properties)
    ++ (flat_map x.annex_parts u.annexes
    ++ (plain k.End ∷ (n.identifier_parts u.end_name
    ++ (plain k.Semicolon ∷ []))))))) ys in
    let p0 = heads t.at u.at _ _ c0 in
    let h0 = tails t.at u.at _ _ c0 in
    let r1 =
    identifier_fixed t.name u.name _ _ (ap (λ (z : d.TypeDeclaration (Unit {0})). z.name) s)
    (in_turn (n.identifier_parts t.name)
    (d.section_parts feature_section (flat_map d.feature_parts t.features)
    ++ (d.section_parts property_section (v.associations_parts t.properties)
    ++ (flat_map x.annex_parts t.annexes
    ++ (plain k.End ∷ (n.identifier_parts t.end_name ++ (plain k.Semicolon ∷ []))))))
    (n.identifier_parts u.name)
    (d.section_parts feature_section (flat_map d.feature_parts u.features)
    ++ (d.section_parts property_section (v.associations_parts u.properties)
    ++ (flat_map x.annex_parts u.annexes
    ++ (plain k.End ∷ (n.identifier_parts u.end_name
    ++ (plain k.Semicolon ∷ [])))))) xs ys h0) in
    let r2 =
    (sectioned feature_section (map (feature_to no_place)) (flat_map d.feature_parts)
    (list_fixed (feature_to no_place) d.feature_parts feature_fixed)) t.features u.features _ _
    (ap (λ (z : d.TypeDeclaration (Unit {0})). z.features) s)
    (in_turn (d.section_parts feature_section (flat_map d.feature_parts t.features))
    (d.section_parts property_section (v.associations_parts t.properties)
    ++ (flat_map x.annex_parts t.annexes
    ++ (plain k.End ∷ (n.identifier_parts t.end_name ++ (plain k.Semicolon ∷ [])))))
    (d.section_parts feature_section (flat_map d.feature_parts u.features))
    (d.section_parts property_section (v.associations_parts u.properties)
    ++ (flat_map x.annex_parts u.annexes
    ++ (plain k.End ∷ (n.identifier_parts u.end_name ++ (plain k.Semicolon ∷ [])))))
    xs ys r1.rest) in
    let r3 =
    (sectioned property_section (associations_to no_place) v.associations_parts associations_fixed) t.properties
    u.properties _ _ (ap (λ (z : d.TypeDeclaration (Unit {0})). z.properties) s)
    (in_turn (d.section_parts property_section (v.associations_parts t.properties))
    (flat_map x.annex_parts t.annexes
    ++ (plain k.End ∷ (n.identifier_parts t.end_name ++ (plain k.Semicolon ∷ []))))
    (d.section_parts property_section (v.associations_parts u.properties))
    (flat_map x.annex_parts u.annexes
    ++ (plain k.End ∷ (n.identifier_parts u.end_name ++ (plain k.Semicolon ∷ [])))) xs
    ys r2.rest) in
    let r4 =
    (list_fixed (annex_to no_place) x.annex_parts annex_fixed) t.annexes u.annexes _ _
    (ap (λ (z : d.TypeDeclaration (Unit {0})). z.annexes) s)
    (in_turn (flat_map x.annex_parts t.annexes)
    (plain k.End ∷ (n.identifier_parts t.end_name ++ (plain k.Semicolon ∷ [])))
    (flat_map x.annex_parts u.annexes)
    (plain k.End ∷ (n.identifier_parts u.end_name ++ (plain k.Semicolon ∷ []))) xs ys r3.rest) in
    let r5 =
    identifier_fixed t.end_name u.end_name _ _ (ap (λ (z : d.TypeDeclaration (Unit {0})). z.end_name) s)
    (in_turn (n.identifier_parts t.end_name) (plain k.Semicolon ∷ []) (n.identifier_parts u.end_name)
    (plain k.Semicolon ∷ []) xs ys r4.rest) in
    record {
      tree =
          ap (λ (q : ℕ). let r : d.TypeDeclaration ℕ =
          record {
            at = q;
            category = t.category;
            name = t.name;
            features = t.features;
            properties = t.properties;
            annexes = t.annexes;
            end_name = t.end_name;
          } in r) p0
          ∙ ap (λ (q : Category). let r : d.TypeDeclaration ℕ =
          record {
            at = u.at;
            category = q;
            name = t.name;
            features = t.features;
            properties = t.properties;
            annexes = t.annexes;
            end_name = t.end_name;
          } in r)
          (ap (λ (z : d.TypeDeclaration (Unit {0})). z.category) s)
          ∙ ap (λ (q : n.Identifier ℕ). let r : d.TypeDeclaration ℕ =
          record {
            at = u.at;
            category = u.category;
            name = q;
            features = t.features;
            properties = t.properties;
            annexes = t.annexes;
            end_name = t.end_name;
          } in r) r1.tree
          ∙ ap (λ (q : List (d.Feature ℕ)). let r : d.TypeDeclaration ℕ =
          record {
            at = u.at;
            category = u.category;
            name = u.name;
            features = q;
            properties = t.properties;
            annexes = t.annexes;
            end_name = t.end_name;
          } in r) r2.tree
          ∙ ap (λ (q : v.Associations ℕ). let r : d.TypeDeclaration ℕ =
          record {
            at = u.at;
            category = u.category;
            name = u.name;
            features = u.features;
            properties = q;
            annexes = t.annexes;
            end_name = t.end_name;
          } in r) r3.tree
          ∙ ap (λ (q : List (x.Annex ℕ)). let r : d.TypeDeclaration ℕ =
          record {
            at = u.at;
            category = u.category;
            name = u.name;
            features = u.features;
            properties = u.properties;
            annexes = q;
            end_name = t.end_name;
          } in r) r4.tree
          ∙ ap (λ (q : n.Identifier ℕ). let r : d.TypeDeclaration ℕ =
          record {
            at = u.at;
            category = u.category;
            name = u.name;
            features = u.features;
            properties = u.properties;
            annexes = u.annexes;
            end_name = q;
          } in r) r5.tree;
      rest = r5.rest;
    }

pub implementation_fixed : Fixed (d.Implementation ℕ) (d.Implementation (Unit {0})) (implementation_to no_place)
    d.implementation_parts
implementation_fixed t u xs ys s h =
    let c0 =
    sym (category_one t.category t.at
    (plain k.Implementation ∷ (d.implementation_name_parts t.name
    ++ (d.section_parts subcomponent_section (flat_map d.subcomponent_parts t.subcomponents)
    ++ (d.section_parts connection_section (flat_map d.connection_parts t.connections)
    ++ (d.section_parts property_section (v.associations_parts t.properties)
    ++ (flat_map x.annex_parts t.annexes
    ++ (plain k.End ∷ (d.implementation_name_parts t.end_name
    ++ (plain k.Semicolon ∷ []))))))))) xs) ∙ h
    ∙ category_one u.category u.at
    (plain k.Implementation ∷ (d.implementation_name_parts u.name
    ++ (d.section_parts subcomponent_section
    (flat_map d.subcomponent_parts u.subcomponents)
    ++ (d.section_parts connection_section
    (flat_map d.connection_parts u.connections)
    ++ (d.section_parts property_section
    (v.associations_parts u.properties)
    ++ (flat_map x.annex_parts u.annexes
    ++ (plain k.End ∷ (d.implementation_name_parts u.end_name
    ++ (plain k.Semicolon ∷ []))))))))) ys in
    let p0 = heads t.at u.at _ _ c0 in
    let h0 = tails t.at u.at _ _ c0 in
    let r1 =
    implementation_name_fixed t.name u.name _ _ (ap (λ (z : d.Implementation (Unit {0})). z.name) s)
    (in_turn (d.implementation_name_parts t.name)
    (d.section_parts subcomponent_section (flat_map d.subcomponent_parts t.subcomponents)
    ++ (d.section_parts connection_section (flat_map d.connection_parts t.connections)
    ++ (d.section_parts property_section (v.associations_parts t.properties)
    ++ (flat_map x.annex_parts t.annexes
    ++ (plain k.End ∷ (d.implementation_name_parts t.end_name ++ (plain k.Semicolon ∷ [])))))))
    (d.implementation_name_parts u.name)
    (d.section_parts subcomponent_section (flat_map d.subcomponent_parts u.subcomponents)
    ++ (d.section_parts connection_section (flat_map d.connection_parts u.connections)
    ++ (d.section_parts property_section (v.associations_parts u.properties)
    ++ (flat_map x.annex_parts u.annexes
    ++ (plain k.End ∷ (d.implementation_name_parts u.end_name
    ++ (plain k.Semicolon ∷ []))))))) xs ys h0) in
    let r2 =
    (sectioned subcomponent_section (map (subcomponent_to no_place)) (flat_map d.subcomponent_parts)
    (list_fixed (subcomponent_to no_place) d.subcomponent_parts subcomponent_fixed)) t.subcomponents
    u.subcomponents _ _ (ap (λ (z : d.Implementation (Unit {0})). z.subcomponents) s)
    (in_turn (d.section_parts subcomponent_section (flat_map d.subcomponent_parts t.subcomponents))
    (d.section_parts connection_section (flat_map d.connection_parts t.connections)
    ++ (d.section_parts property_section (v.associations_parts t.properties)
    ++ (flat_map x.annex_parts t.annexes
    ++ (plain k.End ∷ (d.implementation_name_parts t.end_name
    ++ (plain k.Semicolon ∷ []))))))
    (d.section_parts subcomponent_section
    (flat_map d.subcomponent_parts u.subcomponents))
    (d.section_parts connection_section
    (flat_map d.connection_parts u.connections)
    ++ (d.section_parts property_section
    (v.associations_parts u.properties)
    ++ (flat_map x.annex_parts u.annexes
    ++ (plain k.End ∷ (d.implementation_name_parts u.end_name
    ++ (plain k.Semicolon ∷ [])))))) xs ys r1.rest) in
    let r3 =
    (sectioned connection_section (map (connection_to no_place)) (flat_map d.connection_parts)
    (list_fixed (connection_to no_place) d.connection_parts connection_fixed)) t.connections u.connections _ _
    (ap (λ (z : d.Implementation (Unit {0})). z.connections) s)
    (in_turn (d.section_parts connection_section (flat_map d.connection_parts t.connections))
    (d.section_parts property_section (v.associations_parts t.properties)
    ++ (flat_map x.annex_parts t.annexes
    ++ (plain k.End ∷ (d.implementation_name_parts t.end_name ++ (plain k.Semicolon ∷ [])))))
    (d.section_parts connection_section (flat_map d.connection_parts u.connections))
    (d.section_parts property_section (v.associations_parts u.properties)
    ++ (flat_map x.annex_parts u.annexes
    ++ (plain k.End ∷ (d.implementation_name_parts u.end_name
    ++ (plain k.Semicolon ∷ []))))) xs ys r2.rest) in
    let r4 =
    (sectioned property_section (associations_to no_place) v.associations_parts associations_fixed) t.properties
    u.properties _ _ (ap (λ (z : d.Implementation (Unit {0})). z.properties) s)
    (in_turn (d.section_parts property_section (v.associations_parts t.properties))
    (flat_map x.annex_parts t.annexes
    ++ (plain k.End ∷ (d.implementation_name_parts t.end_name ++ (plain k.Semicolon ∷ []))))
    (d.section_parts property_section (v.associations_parts u.properties))
    (flat_map x.annex_parts u.annexes
    ++ (plain k.End ∷ (d.implementation_name_parts u.end_name ++ (plain k.Semicolon ∷ [])))) xs
    ys r3.rest) in
    let r5 =
    (list_fixed (annex_to no_place) x.annex_parts annex_fixed) t.annexes u.annexes _ _
    (ap (λ (z : d.Implementation (Unit {0})). z.annexes) s)
    (in_turn (flat_map x.annex_parts t.annexes)
    (plain k.End ∷ (d.implementation_name_parts t.end_name ++ (plain k.Semicolon ∷ [])))
    (flat_map x.annex_parts u.annexes)
    (plain k.End ∷ (d.implementation_name_parts u.end_name ++ (plain k.Semicolon ∷ []))) xs ys r4.rest) in
    let r6 =
    implementation_name_fixed t.end_name u.end_name _ _ (ap (λ (z : d.Implementation (Unit {0})). z.end_name) s)
    (in_turn (d.implementation_name_parts t.end_name) (plain k.Semicolon ∷ [])
    (d.implementation_name_parts u.end_name) (plain k.Semicolon ∷ []) xs ys r5.rest) in
    record {
      tree =
          ap (λ (q : ℕ). let r : d.Implementation ℕ =
          record {
            at = q;
            category = t.category;
            name = t.name;
            subcomponents = t.subcomponents;
            connections = t.connections;
            properties = t.properties;
            annexes = t.annexes;
            end_name = t.end_name;
          } in r) p0
          ∙ ap (λ (q : Category). let r : d.Implementation ℕ =
          record {
            at = u.at;
            category = q;
            name = t.name;
            subcomponents = t.subcomponents;
            connections = t.connections;
            properties = t.properties;
            annexes = t.annexes;
            end_name = t.end_name;
          } in r) (ap (λ (z : d.Implementation (Unit {0})). z.category) s)
          ∙ ap (λ (q : d.ImplementationName ℕ). let r : d.Implementation ℕ =
          record {
            at = u.at;
            category = u.category;
            name = q;
            subcomponents = t.subcomponents;
            connections = t.connections;
            properties = t.properties;
            annexes = t.annexes;
            end_name = t.end_name;
          } in r) r1.tree
          ∙ ap (λ (q : List (d.Subcomponent ℕ)). let r : d.Implementation ℕ =
          record {
            at = u.at;
            category = u.category;
            name = u.name;
            subcomponents = q;
            connections = t.connections;
            properties = t.properties;
            annexes = t.annexes;
            end_name = t.end_name;
          } in r) r2.tree
          ∙ ap (λ (q : List (d.Connection ℕ)). let r : d.Implementation ℕ =
          record {
            at = u.at;
            category = u.category;
            name = u.name;
            subcomponents = u.subcomponents;
            connections = q;
            properties = t.properties;
            annexes = t.annexes;
            end_name = t.end_name;
          } in r) r3.tree
          ∙ ap (λ (q : v.Associations ℕ). let r : d.Implementation ℕ =
          record {
            at = u.at;
            category = u.category;
            name = u.name;
            subcomponents = u.subcomponents;
            connections = u.connections;
            properties = q;
            annexes = t.annexes;
            end_name = t.end_name;
          } in r) r4.tree
          ∙ ap (λ (q : List (x.Annex ℕ)). let r : d.Implementation ℕ =
          record {
            at = u.at;
            category = u.category;
            name = u.name;
            subcomponents = u.subcomponents;
            connections = u.connections;
            properties = u.properties;
            annexes = q;
            end_name = t.end_name;
          } in r) r5.tree
          ∙ ap (λ (q : d.ImplementationName ℕ). let r : d.Implementation ℕ =
          record {
            at = u.at;
            category = u.category;
            name = u.name;
            subcomponents = u.subcomponents;
            connections = u.connections;
            properties = u.properties;
            annexes = u.annexes;
            end_name = q;
          } in r) r6.tree;
      rest = r6.rest;
    }

pub declaration_fixed : Fixed (d.Declaration ℕ) (d.Declaration (Unit {0})) (declaration_to no_place) d.declaration_parts
declaration_fixed (d.type t) (d.type t2) xs ys s h =
    let r0 = type_fixed t t2 xs ys (cc) h in
    record { tree = ap (λ q. d.type q) r0.tree; rest = r0.rest }
declaration_fixed (d.implementation t) (d.implementation t2) xs ys s h =
    let r0 = implementation_fixed t t2 xs ys (cc) h in
    record { tree = ap (λ q. d.implementation q) r0.tree; rest = r0.rest }
declaration_fixed _ _ xs ys s h = absurd cc

pub package_fixed : Fixed (d.PackageTree ℕ) (d.PackageTree (Unit {0})) (package_to no_place) d.package_parts
package_fixed t u xs ys s h =
    let r0 =
    name_fixed t.name u.name _ _ (ap (λ (z : d.PackageTree (Unit {0})). z.name) s)
    (in_turn (n.name_parts t.name)
    (plain k.Public ∷ (flat_map d.with_parts t.withs
    ++ (flat_map d.declaration_parts t.declarations
    ++ (plain k.End ∷ (n.name_parts t.end_name ++ (plain k.Semicolon ∷ [])))))) (n.name_parts u.name)
    (plain k.Public ∷ (flat_map d.with_parts u.withs
    ++ (flat_map d.declaration_parts u.declarations
    ++ (plain k.End ∷ (n.name_parts u.end_name ++ (plain k.Semicolon ∷ [])))))) xs ys h) in
    let r1 =
    (list_fixed (with_to no_place) d.with_parts with_fixed) t.withs u.withs _ _
    (ap (λ (z : d.PackageTree (Unit {0})). z.withs) s)
    (in_turn (flat_map d.with_parts t.withs)
    (flat_map d.declaration_parts t.declarations
    ++ (plain k.End ∷ (n.name_parts t.end_name ++ (plain k.Semicolon ∷ []))))
    (flat_map d.with_parts u.withs)
    (flat_map d.declaration_parts u.declarations
    ++ (plain k.End ∷ (n.name_parts u.end_name ++ (plain k.Semicolon ∷ [])))) xs ys r0.rest) in
    let r2 =
    (list_fixed (declaration_to no_place) d.declaration_parts declaration_fixed) t.declarations u.declarations _ _
    (ap (λ (z : d.PackageTree (Unit {0})). z.declarations) s)
    (in_turn (flat_map d.declaration_parts t.declarations)
    (plain k.End ∷ (n.name_parts t.end_name ++ (plain k.Semicolon ∷ [])))
    (flat_map d.declaration_parts u.declarations)
    (plain k.End ∷ (n.name_parts u.end_name ++ (plain k.Semicolon ∷ []))) xs ys r1.rest) in
    let r3 =
    name_fixed t.end_name u.end_name _ _ (ap (λ (z : d.PackageTree (Unit {0})). z.end_name) s)
    (in_turn (n.name_parts t.end_name) (plain k.Semicolon ∷ []) (n.name_parts u.end_name) (plain k.Semicolon ∷ [])
    xs ys r2.rest) in
    record {
      tree =
          ap (λ (q : n.Name ℕ). let r : d.PackageTree ℕ =
          record { name = q; withs = t.withs; declarations = t.declarations; end_name = t.end_name } in r) r0.tree
          ∙ ap (λ (q : List (d.With ℕ)). let r : d.PackageTree ℕ =
          record { name = u.name; withs = q; declarations = t.declarations; end_name = t.end_name } in r) r1.tree
          ∙ ap (λ (q : List (d.Declaration ℕ)). let r : d.PackageTree ℕ =
          record { name = u.name; withs = u.withs; declarations = q; end_name = t.end_name } in r) r2.tree
          ∙ ap (λ (q : n.Name ℕ). let r : d.PackageTree ℕ =
          record { name = u.name; withs = u.withs; declarations = u.declarations; end_name = q } in r) r3.tree;
      rest = r3.rest;
    }
