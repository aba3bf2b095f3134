-- The members of a declaration are determined by their shape, which is the tree without places, and by their places.
use Rattle.std.proofs.Common.{◌≡◌, ℕ, ◌∙◌, sym, ap, ap₂, List, [], ◌∷◌, ◌++◌, flat_map, Option, refl}
use Rattle.aadl_tree.specs.declared.mark.Mark.TheVariants as k
use Rattle.aadl_tree.specs.declared.declarations.Category.{Category}
use Rattle.aadl_tree.specs.declared.declarations.Category.TheVariants as categories
use Rattle.aadl_tree.specs.declared.declarations.Direction.{Direction}
use Rattle.aadl_tree.specs.Terminals.{mark}
use Rattle.aadl_tree.specs.SpellingParts.{SpellingPart, Section, token, plain, parts_if, behind}
use Rattle.aadl_tree.specs.Names as n
use Rattle.aadl_tree.specs.Values as v
use Rattle.aadl_tree.specs.Declarations as d
use Rattle.aadl_tree.specs.proof.PlaceMaps.{no_place, identifier_to, name_to, reference_to, feature_to, subcomponent_to}
use Rattle.aadl_tree.specs.proof.PlaceMaps.{end_to, connection_to, implementation_name_to, with_to}
use Rattle.aadl_grammar.proofs.UniquePlacedTrees.PlacesFromTokens.{placed, in_turn}
use Rattle.aadl_grammar.proofs.UniquePlacedTrees.Names.{Fixed, identifier_fixed, chain_fixed, name_fixed}
use Rattle.aadl_grammar.proofs.UniquePlacedTrees.Values.{option_fixed, reference_fixed, properties_fixed}

pub category_one : (c : Category) (at : ℕ) (ps : List (SpellingPart ℕ)) (xs : List ℕ)
    → placed (token (mark (d.category_mark c)) (at ∷ []) ∷ ps) xs ≡ at ∷ placed ps xs
category_one categories.System at ps xs = refl
category_one categories.Process at ps xs = refl
category_one categories.Thread at ps xs = refl

section_none : (section : Section) (ps : List (SpellingPart ℕ)) (xs : List ℕ)
    → placed (d.section_parts section ps) xs ≡ placed ps xs
section_none section [] xs = refl
section_none section (p ∷ ps) xs = refl

pub sectioned : {T U : Type 0} (section : Section) (to : T → U) (parts : T → List (SpellingPart ℕ)) → Fixed T U to parts
    → Fixed T U to (λ t. d.section_parts section (parts t))
sectioned section to parts f t u xs ys s h =
    f t u xs ys s (sym (section_none section (parts t) xs) ∙ h ∙ section_none section (parts u) ys)

pub with_fixed : Fixed (d.With ℕ) (d.With (Unit {0})) (with_to no_place) d.with_parts
with_fixed t u xs ys s h =
    let c =
    in_turn (n.name_parts t.first ++ flat_map (behind k.Comma n.name_parts) t.rest) (plain k.Semicolon ∷ [])
    (n.name_parts u.first ++ flat_map (behind k.Comma n.name_parts) u.rest) (plain k.Semicolon ∷ []) xs ys h in
    let r0 =
    name_fixed t.first u.first _ _ (ap (λ (z : d.With (Unit {0})). z.first) s)
    (in_turn (n.name_parts t.first) (flat_map (behind k.Comma n.name_parts) t.rest) (n.name_parts u.first)
    (flat_map (behind k.Comma n.name_parts) u.rest) xs ys c) in
    let r1 =
    chain_fixed k.Comma (name_to no_place) n.name_parts name_fixed t.rest u.rest xs ys
    (ap (λ (z : d.With (Unit {0})). z.rest) s) r0.rest in
    record {
      tree = ap₂ (λ (p : n.Name ℕ) (q : List (n.Name ℕ)). let r : d.With ℕ = record { first = p; rest = q } in r)
          r0.tree r1.tree;
      rest = r1.rest;
    }

pub feature_fixed : Fixed (d.Feature ℕ) (d.Feature (Unit {0})) (feature_to no_place) d.feature_parts
feature_fixed t u xs ys s h =
    let r0 =
    identifier_fixed t.name u.name _ _ (ap (λ (z : d.Feature (Unit {0})). z.name) s)
    (in_turn (n.identifier_parts t.name)
    (plain k.Colon ∷ (plain (d.direction_mark t.direction)
    ∷ (plain k.Data ∷ (plain k.Port
    ∷ (parts_if n.reference_parts t.data_type
    ++ (v.properties_parts t.properties ++ (plain k.Semicolon ∷ [])))))))
    (n.identifier_parts u.name)
    (plain k.Colon ∷ (plain (d.direction_mark u.direction)
    ∷ (plain k.Data ∷ (plain k.Port
    ∷ (parts_if n.reference_parts u.data_type
    ++ (v.properties_parts u.properties
    ++ (plain k.Semicolon ∷ []))))))) xs ys h) in
    let r1 =
    (option_fixed (reference_to no_place) n.reference_parts reference_fixed) t.data_type u.data_type _ _
    (ap (λ (z : d.Feature (Unit {0})). z.data_type) s)
    (in_turn (parts_if n.reference_parts t.data_type) (v.properties_parts t.properties ++ (plain k.Semicolon ∷ []))
    (parts_if n.reference_parts u.data_type) (v.properties_parts u.properties ++ (plain k.Semicolon ∷ [])) xs
    ys r0.rest) in
    let r2 =
    properties_fixed t.properties u.properties _ _ (ap (λ (z : d.Feature (Unit {0})). z.properties) s)
    (in_turn (v.properties_parts t.properties) (plain k.Semicolon ∷ []) (v.properties_parts u.properties)
    (plain k.Semicolon ∷ []) xs ys r1.rest) in
    record {
      tree =
          ap (λ (q : n.Identifier ℕ). let r : d.Feature ℕ =
          record {
            name = q;
            direction = t.direction;
            data_type = t.data_type;
            properties = t.properties;
          } in r) r0.tree
          ∙ ap (λ (q : Direction). let r : d.Feature ℕ =
          record { name = u.name; direction = q; data_type = t.data_type; properties = t.properties } in r)
          (ap (λ (z : d.Feature (Unit {0})). z.direction) s)
          ∙ ap (λ (q : Option (n.Reference ℕ)). let r : d.Feature ℕ =
          record { name = u.name; direction = u.direction; data_type = q; properties = t.properties } in r) r1.tree
          ∙ ap (λ (q : v.Associations ℕ). let r : d.Feature ℕ =
          record { name = u.name; direction = u.direction; data_type = u.data_type; properties = q } in r) r2.tree;
      rest = r2.rest;
    }

pub subcomponent_fixed : Fixed (d.Subcomponent ℕ) (d.Subcomponent (Unit {0})) (subcomponent_to no_place)
    d.subcomponent_parts
subcomponent_fixed t u xs ys s h =
    let r0 =
    identifier_fixed t.name u.name _ _ (ap (λ (z : d.Subcomponent (Unit {0})). z.name) s)
    (in_turn (n.identifier_parts t.name)
    (plain k.Colon ∷ (plain (d.category_mark t.category)
    ∷ (n.reference_parts t.classifier ++ (v.properties_parts t.properties ++ (plain k.Semicolon ∷ [])))))
    (n.identifier_parts u.name)
    (plain k.Colon ∷ (plain (d.category_mark u.category)
    ∷ (n.reference_parts u.classifier
    ++ (v.properties_parts u.properties ++ (plain k.Semicolon ∷ []))))) xs ys h) in
    let r1 =
    reference_fixed t.classifier u.classifier _ _ (ap (λ (z : d.Subcomponent (Unit {0})). z.classifier) s)
    (in_turn (n.reference_parts t.classifier) (v.properties_parts t.properties ++ (plain k.Semicolon ∷ []))
    (n.reference_parts u.classifier) (v.properties_parts u.properties ++ (plain k.Semicolon ∷ [])) xs
    ys r0.rest) in
    let r2 =
    properties_fixed t.properties u.properties _ _ (ap (λ (z : d.Subcomponent (Unit {0})). z.properties) s)
    (in_turn (v.properties_parts t.properties) (plain k.Semicolon ∷ []) (v.properties_parts u.properties)
    (plain k.Semicolon ∷ []) xs ys r1.rest) in
    record {
      tree =
          ap (λ (q : n.Identifier ℕ). let r : d.Subcomponent ℕ =
          record {
            name = q;
            category = t.category;
            classifier = t.classifier;
            properties = t.properties;
          } in r) r0.tree
          ∙ ap (λ (q : Category). let r : d.Subcomponent ℕ =
          record { name = u.name; category = q; classifier = t.classifier; properties = t.properties } in r)
          (ap (λ (z : d.Subcomponent (Unit {0})). z.category) s)
          ∙ ap (λ (q : n.Reference ℕ). let r : d.Subcomponent ℕ =
          record { name = u.name; category = u.category; classifier = q; properties = t.properties } in r) r1.tree
          ∙ ap (λ (q : v.Associations ℕ). let r : d.Subcomponent ℕ =
          record { name = u.name; category = u.category; classifier = u.classifier; properties = q } in r) r2.tree;
      rest = r2.rest;
    }

pub end_fixed : Fixed (d.ConnectionEnd ℕ) (d.ConnectionEnd (Unit {0})) (end_to no_place) d.end_parts
end_fixed t u xs ys s h =
    let r0 =
    identifier_fixed t.first u.first _ _ (ap (λ (z : d.ConnectionEnd (Unit {0})). z.first) s)
    (in_turn (n.identifier_parts t.first) (parts_if (behind k.Dot n.identifier_parts) t.second)
    (n.identifier_parts u.first) (parts_if (behind k.Dot n.identifier_parts) u.second) xs ys h) in
    let r1 =
    (option_fixed (identifier_to no_place) (behind k.Dot n.identifier_parts) identifier_fixed) t.second u.second xs
    ys (ap (λ (z : d.ConnectionEnd (Unit {0})). z.second) s) r0.rest in
    record {
      tree =
          ap (λ (q : n.Identifier ℕ). let r : d.ConnectionEnd ℕ = record { first = q; second = t.second } in r) r0.tree
          ∙ ap (λ (q : Option (n.Identifier ℕ)). let r : d.ConnectionEnd ℕ =
          record { first = u.first; second = q } in r) r1.tree;
      rest = r1.rest;
    }

pub connection_fixed : Fixed (d.Connection ℕ) (d.Connection (Unit {0})) (connection_to no_place) d.connection_parts
connection_fixed t u xs ys s h =
    let r0 =
    identifier_fixed t.name u.name _ _ (ap (λ (z : d.Connection (Unit {0})). z.name) s)
    (in_turn (n.identifier_parts t.name)
    (plain k.Colon ∷ (plain k.Port
    ∷ (d.end_parts t.source ++ (plain k.Arrow
    ∷ (d.end_parts t.target ++ (v.properties_parts t.properties ++ (plain k.Semicolon ∷ [])))))))
    (n.identifier_parts u.name)
    (plain k.Colon ∷ (plain k.Port
    ∷ (d.end_parts u.source ++ (plain k.Arrow
    ∷ (d.end_parts u.target ++ (v.properties_parts u.properties
    ++ (plain k.Semicolon ∷ []))))))) xs ys h) in
    let r1 =
    end_fixed t.source u.source _ _ (ap (λ (z : d.Connection (Unit {0})). z.source) s)
    (in_turn (d.end_parts t.source)
    (plain k.Arrow ∷ (d.end_parts t.target ++ (v.properties_parts t.properties ++ (plain k.Semicolon ∷ []))))
    (d.end_parts u.source) (plain k.Arrow
    ∷ (d.end_parts u.target ++ (v.properties_parts u.properties ++ (plain k.Semicolon ∷ [])))) xs
    ys r0.rest) in
    let r2 =
    end_fixed t.target u.target _ _ (ap (λ (z : d.Connection (Unit {0})). z.target) s)
    (in_turn (d.end_parts t.target) (v.properties_parts t.properties ++ (plain k.Semicolon ∷ []))
    (d.end_parts u.target) (v.properties_parts u.properties ++ (plain k.Semicolon ∷ [])) xs ys r1.rest) in
    let r3 =
    properties_fixed t.properties u.properties _ _ (ap (λ (z : d.Connection (Unit {0})). z.properties) s)
    (in_turn (v.properties_parts t.properties) (plain k.Semicolon ∷ []) (v.properties_parts u.properties)
    (plain k.Semicolon ∷ []) xs ys r2.rest) in
    record {
      tree =
          ap (λ (q : n.Identifier ℕ). let r : d.Connection ℕ =
          record { name = q; source = t.source; target = t.target; properties = t.properties } in r) r0.tree
          ∙ ap (λ (q : d.ConnectionEnd ℕ). let r : d.Connection ℕ =
          record { name = u.name; source = q; target = t.target; properties = t.properties } in r) r1.tree
          ∙ ap (λ (q : d.ConnectionEnd ℕ). let r : d.Connection ℕ =
          record { name = u.name; source = u.source; target = q; properties = t.properties } in r) r2.tree
          ∙ ap (λ (q : v.Associations ℕ). let r : d.Connection ℕ =
          record { name = u.name; source = u.source; target = u.target; properties = q } in r) r3.tree;
      rest = r3.rest;
    }

pub implementation_name_fixed : Fixed (d.ImplementationName ℕ) (d.ImplementationName (Unit {0}))
    (implementation_name_to no_place) d.implementation_name_parts
implementation_name_fixed t u xs ys s h =
    let r0 =
    identifier_fixed t.component_type u.component_type _ _
    (ap (λ (z : d.ImplementationName (Unit {0})). z.component_type) s)
    (in_turn (n.identifier_parts t.component_type) (plain k.Dot ∷ (n.identifier_parts t.implementation))
    (n.identifier_parts u.component_type) (plain k.Dot ∷ (n.identifier_parts u.implementation)) xs ys h) in
    let r1 =
    identifier_fixed t.implementation u.implementation xs ys
    (ap (λ (z : d.ImplementationName (Unit {0})). z.implementation) s) r0.rest in
    record {
      tree =
          ap (λ (q : n.Identifier ℕ). let r : d.ImplementationName ℕ =
          record { component_type = q; implementation = t.implementation } in r) r0.tree
          ∙ ap (λ (q : n.Identifier ℕ). let r : d.ImplementationName ℕ =
          record { component_type = u.component_type; implementation = q } in r) r1.tree;
      rest = r1.rest;
    }
