-- Values and properties are determined by their shape, which is the tree without places, and by their places.
use Rattle.std.proofs.Common.{◌≡◌, ℕ, ◌∙◌, sym, ap, ap₂, Bool, true, false, List, [], ◌∷◌, ◌++◌, map, flat_map, Option}
use Rattle.std.proofs.Common.{Some, None, option_map, refl}
use Rattle.std.proofs.lemmas.Option.{same_Some}
use Rattle.aadl_tree.specs.declared.mark.Mark.{Mark}
use Rattle.aadl_tree.specs.declared.mark.Mark.TheVariants as k
use Rattle.aadl_tree.specs.declared.expressions.Sign.{Sign}
use Rattle.aadl_tree.specs.SpellingParts.{SpellingPart, plain, parts_if, behind, marked_if}
use Rattle.aadl_tree.specs.Names as n
use Rattle.aadl_tree.specs.Values as v
use Rattle.aadl_grammar.proofs.HeadsAndTails.{heads, tails}
use Rattle.aadl_tree.specs.proof.PlaceMaps.{no_place, identifier_to, path_to, identifiers_to, reference_to, quantity_to}
use Rattle.aadl_tree.specs.proof.PlaceMaps.{value_to, values_to, association_to, associations_to}
use Rattle.aadl_grammar.proofs.UniquePlacedTrees.PlacesFromTokens.{placed, in_turn}
use Rattle.aadl_grammar.proofs.UniquePlacedTrees.Names.{Fixed, identifier_fixed, chain_fixed, name_fixed}

-- lists and optional parts
pub list_fixed : {T U : Type 0} (to : T → U) (parts : T → List (SpellingPart ℕ)) → Fixed T U to parts
    → Fixed (List T) (List U) (map to) (flat_map parts)
list_fixed to parts f [] [] xs ys s h = record { tree = refl; rest = h }
list_fixed to parts f (t ∷ ts) (u ∷ us) xs ys s h =
    let a =
    f t u _ _ (heads (to t) (to u) (map to ts) (map to us) s)
    (in_turn (parts t) (flat_map parts ts) (parts u) (flat_map parts us) xs ys h) in
    let b = list_fixed to parts f ts us xs ys (tails (to t) (to u) (map to ts) (map to us) s) a.rest in
    record { tree = ap₂ (λ v w. v ∷ w) a.tree b.tree; rest = b.rest }
list_fixed to parts f [] (u ∷ us) xs ys s h = absurd cc
list_fixed to parts f (t ∷ ts) [] xs ys s h = absurd cc

pub option_fixed : {T U : Type 0} (to : T → U) (parts : T → List (SpellingPart ℕ)) → Fixed T U to parts
    → Fixed (Option T) (Option U) (option_map to) (parts_if parts)
option_fixed to parts f None None xs ys s h = record { tree = refl; rest = h }
option_fixed to parts f (Some t) (Some u) xs ys s h = let a = f t u xs ys (same_Some (to t) (to u) s) h in
    record { tree = ap Some a.tree; rest = a.rest }
option_fixed to parts f None (Some u) xs ys s h = absurd cc
option_fixed to parts f (Some t) None xs ys s h = absurd cc

-- none of these parts keeps a place
number_none : (x : v.Number) (ps : List (SpellingPart ℕ)) (xs : List ℕ)
    → placed (v.number_parts x ++ ps) xs ≡ placed ps xs
number_none x ps xs = by_parts x.sign x.figure ps xs where
  by_parts : (o : Option Sign) (f : v.UnsignedNumber) (qs : List (SpellingPart ℕ)) (ys : List ℕ)
      → placed (v.number_parts (record { sign = o; figure = f }) ++ qs) ys ≡ placed qs ys
  by_parts None (v.whole_figure z) qs ys = refl
  by_parts None (v.real_figure z) qs ys = refl
  by_parts (Some o) (v.whole_figure z) qs ys = refl
  by_parts (Some o) (v.real_figure z) qs ys = refl

pub marked_none : (m : Mark) (b : Bool) (ps : List (SpellingPart ℕ)) (xs : List ℕ)
    → placed (marked_if m b ++ ps) xs ≡ placed ps xs
marked_none m true ps xs = refl
marked_none m false ps xs = refl

pub path_fixed : Fixed (n.Path ℕ) (n.Path (Unit {0})) (path_to no_place) n.path_parts
path_fixed t u xs ys s h =
    let r0 =
    identifier_fixed t.first u.first _ _ (ap (λ (z : n.Path (Unit {0})). z.first) s)
    (in_turn (n.identifier_parts t.first) (flat_map (behind k.Dot n.identifier_parts) t.rest)
    (n.identifier_parts u.first) (flat_map (behind k.Dot n.identifier_parts) u.rest) xs ys h) in
    let r1 =
    (chain_fixed k.Dot (identifier_to no_place) n.identifier_parts identifier_fixed) t.rest u.rest xs ys
    (ap (λ (z : n.Path (Unit {0})). z.rest) s) r0.rest in
    record {
      tree = ap (λ (q : n.Identifier ℕ). let r : n.Path ℕ = record { first = q; rest = t.rest } in r) r0.tree
          ∙ ap (λ (q : List (n.Identifier ℕ)). let r : n.Path ℕ = record { first = u.first; rest = q } in r) r1.tree;
      rest = r1.rest;
    }

pub identifiers_fixed : Fixed (n.Identifiers ℕ) (n.Identifiers (Unit {0})) (identifiers_to no_place) n.identifiers_parts
identifiers_fixed t u xs ys s h =
    let r0 =
    identifier_fixed t.first u.first _ _ (ap (λ (z : n.Identifiers (Unit {0})). z.first) s)
    (in_turn (n.identifier_parts t.first) (flat_map (behind k.Comma n.identifier_parts) t.rest)
    (n.identifier_parts u.first) (flat_map (behind k.Comma n.identifier_parts) u.rest) xs ys h) in
    let r1 =
    (chain_fixed k.Comma (identifier_to no_place) n.identifier_parts identifier_fixed) t.rest u.rest xs ys
    (ap (λ (z : n.Identifiers (Unit {0})). z.rest) s) r0.rest in
    record {
      tree = ap (λ (q : n.Identifier ℕ). let r : n.Identifiers ℕ = record { first = q; rest = t.rest } in r) r0.tree
          ∙ ap (λ (q : List (n.Identifier ℕ)). let r : n.Identifiers ℕ =
          record { first = u.first; rest = q } in r) r1.tree;
      rest = r1.rest;
    }

qualifier_fixed : Fixed (n.Identifier ℕ) (n.Identifier (Unit {0})) (identifier_to no_place) n.qualifier_parts
qualifier_fixed t u xs ys s h = identifier_fixed t u xs ys s h

pub reference_fixed : Fixed (n.Reference ℕ) (n.Reference (Unit {0})) (reference_to no_place) n.reference_parts
reference_fixed t u xs ys s h =
    let r0 =
    list_fixed (identifier_to no_place) n.qualifier_parts qualifier_fixed t.qualifiers u.qualifiers _ _
    (ap (λ (z : n.Reference (Unit {0})). z.qualifiers) s)
    (in_turn (flat_map n.qualifier_parts t.qualifiers)
    (n.identifier_parts t.type_name ++ parts_if (behind k.Dot n.identifier_parts) t.implementation)
    (flat_map n.qualifier_parts u.qualifiers)
    (n.identifier_parts u.type_name ++ parts_if (behind k.Dot n.identifier_parts) u.implementation) xs ys h) in
    let r1 =
    identifier_fixed t.type_name u.type_name _ _ (ap (λ (z : n.Reference (Unit {0})). z.type_name) s) r0.rest in
    let r2 =
    (option_fixed (identifier_to no_place) (behind k.Dot n.identifier_parts) identifier_fixed) t.implementation
    u.implementation xs ys (ap (λ (z : n.Reference (Unit {0})). z.implementation) s) r1.rest in
    record {
      tree =
          ap (λ (q : List (n.Identifier ℕ)). let r : n.Reference ℕ =
          record { qualifiers = q; type_name = t.type_name; implementation = t.implementation } in r) r0.tree
          ∙ ap (λ (q : n.Identifier ℕ). let r : n.Reference ℕ =
          record { qualifiers = u.qualifiers; type_name = q; implementation = t.implementation } in r) r1.tree
          ∙ ap (λ (q : Option (n.Identifier ℕ)). let r : n.Reference ℕ =
          record { qualifiers = u.qualifiers; type_name = u.type_name; implementation = q } in r) r2.tree;
      rest = r2.rest;
    }

pub quantity_fixed : Fixed (v.Quantity ℕ) (v.Quantity (Unit {0})) (quantity_to no_place) v.quantity_parts
quantity_fixed t u xs ys s h =
    let h0 =
    sym (number_none t.number (parts_if n.identifier_parts t.unit) xs) ∙ h
    ∙ number_none u.number (parts_if n.identifier_parts u.unit) ys in
    let r1 =
    (option_fixed (identifier_to no_place) n.identifier_parts identifier_fixed) t.unit u.unit xs ys
    (ap (λ (z : v.Quantity (Unit {0})). z.unit) s) h0 in
    record {
      tree =
          ap (λ (q : v.Number). let r : v.Quantity ℕ = record { number = q; unit = t.unit } in r)
          (ap (λ (z : v.Quantity (Unit {0})). z.number) s)
          ∙ ap (λ (q : Option (n.Identifier ℕ)). let r : v.Quantity ℕ =
          record { number = u.number; unit = q } in r) r1.tree;
      rest = r1.rest;
    }

pub applies_fixed : Fixed (List (n.Path ℕ)) (List (n.Path (Unit {0}))) (map (path_to no_place)) v.applies_parts
applies_fixed [] [] xs ys s h = record { tree = refl; rest = h }
applies_fixed (t ∷ ts) (u ∷ us) xs ys s h =
    let a =
    path_fixed t u _ _ (heads (path_to no_place t) (path_to no_place u) (map (path_to no_place) ts)
    (map (path_to no_place) us) s)
    (in_turn (n.path_parts t) (flat_map (behind k.Comma n.path_parts) ts) (n.path_parts u)
    (flat_map (behind k.Comma n.path_parts) us) xs ys h) in
    let b =
    chain_fixed k.Comma (path_to no_place) n.path_parts path_fixed ts us xs ys
    (tails (path_to no_place t) (path_to no_place u) (map (path_to no_place) ts) (map (path_to no_place) us)
    s) a.rest in
    record { tree = ap₂ (λ v w. v ∷ w) a.tree b.tree; rest = b.rest }
applies_fixed [] (u ∷ us) xs ys s h = absurd cc
applies_fixed (t ∷ ts) [] xs ys s h = absurd cc

mutual
  pub value_fixed : Fixed (v.Value ℕ) (v.Value (Unit {0})) (value_to no_place) v.value_parts
  value_fixed (v.list t) (v.list t2) xs ys s h =
      let r0 =
      values_fixed t t2 _ _ (cc)
      (in_turn (v.values_parts t) (plain k.ParenClose ∷ []) (v.values_parts t2)
      (plain k.ParenClose ∷ []) xs ys h) in
      record { tree = ap (λ q. v.list q) r0.tree; rest = r0.rest }
  value_fixed (v.fields t) (v.fields t2) xs ys s h =
      let r0 =
      associations_fixed t t2 _ _ (cc)
      (in_turn (v.associations_parts t) (plain k.BracketClose ∷ []) (v.associations_parts t2)
      (plain k.BracketClose ∷ []) xs ys h) in
      record { tree = ap (λ q. v.fields q) r0.tree; rest = r0.rest }
  value_fixed (v.text t) (v.text t2) xs ys s h =
      let g0 : t ≡ t2 = cc in
      record { tree = ap (λ q. v.text q) g0; rest = h }
  value_fixed (v.reference t) (v.reference t2) xs ys s h =
      let r0 =
      path_fixed t t2 _ _ (cc)
      (in_turn (n.path_parts t) (plain k.ParenClose ∷ []) (n.path_parts t2) (plain k.ParenClose ∷ []) xs ys h) in
      record { tree = ap (λ q. v.reference q) r0.tree; rest = r0.rest }
  value_fixed (v.classifier t) (v.classifier t2) xs ys s h =
      let r0 =
      reference_fixed t t2 _ _ (cc)
      (in_turn (n.reference_parts t) (plain k.ParenClose ∷ []) (n.reference_parts t2)
      (plain k.ParenClose ∷ []) xs ys h) in
      record { tree = ap (λ q. v.classifier q) r0.tree; rest = r0.rest }
  value_fixed (v.named t) (v.named t2) xs ys s h =
      let r0 = reference_fixed t t2 xs ys (cc) h in
      record { tree = ap (λ q. v.named q) r0.tree; rest = r0.rest }
  value_fixed (v.number t w) (v.number t2 w2) xs ys s h =
      let r0 =
      quantity_fixed t t2 _ _ (cc)
      (in_turn (v.quantity_parts t) (parts_if (behind k.Range v.quantity_parts) w) (v.quantity_parts t2)
      (parts_if (behind k.Range v.quantity_parts) w2) xs ys h) in
      let r1 =
      (option_fixed (quantity_to no_place) (behind k.Range v.quantity_parts) quantity_fixed) w w2 xs ys
      (cc) r0.rest in
      record { tree = ap (λ q. v.number q w) r0.tree ∙ ap (λ q. v.number t2 q) r1.tree; rest = r1.rest }
  value_fixed _ _ xs ys s h = absurd cc

  pub values_fixed : Fixed (v.Values ℕ) (v.Values (Unit {0})) (values_to no_place) v.values_parts
  values_fixed v.no_values v.no_values xs ys s h =
      record { tree = refl; rest = h }
  values_fixed (v.value t w) (v.value t2 w2) xs ys s h =
      let r0 =
      value_fixed t t2 _ _ (cc)
      (in_turn (v.value_parts t) (v.more_values_parts w) (v.value_parts t2) (v.more_values_parts w2) xs ys h) in
      let r1 = more_values_fixed w w2 xs ys (cc) r0.rest in
      record { tree = ap (λ q. v.value q w) r0.tree ∙ ap (λ q. v.value t2 q) r1.tree; rest = r1.rest }
  values_fixed _ _ xs ys s h = absurd cc

  pub more_values_fixed : Fixed (v.Values ℕ) (v.Values (Unit {0})) (values_to no_place) v.more_values_parts
  more_values_fixed v.no_values v.no_values xs ys s h =
      record { tree = refl; rest = h }
  more_values_fixed (v.value t w) (v.value t2 w2) xs ys s h =
      let r0 =
      value_fixed t t2 _ _ (cc)
      (in_turn (v.value_parts t) (v.more_values_parts w) (v.value_parts t2) (v.more_values_parts w2) xs ys h) in
      let r1 = more_values_fixed w w2 xs ys (cc) r0.rest in
      record { tree = ap (λ q. v.value q w) r0.tree ∙ ap (λ q. v.value t2 q) r1.tree; rest = r1.rest }
  more_values_fixed _ _ xs ys s h = absurd cc

  pub association_fixed : Fixed (v.Association ℕ) (v.Association (Unit {0})) (association_to no_place)
      v.association_parts
  association_fixed (v.association m o c t w) (v.association m2 o2 c2 t2 w2) xs ys s h =
      let g1 : o ≡ o2 = cc in
      let g2 : c ≡ c2 = cc in
      let r0 =
      name_fixed m m2 _ _ (cc)
      (in_turn (n.name_parts m)
      (plain (v.association_mark o)
      ∷ (marked_if k.Constant c ++ (v.value_parts t ++ (v.applies_parts w ++ (plain k.Semicolon ∷ [])))))
      (n.name_parts m2) (plain (v.association_mark o2)
      ∷ (marked_if k.Constant c2
      ++ (v.value_parts t2 ++ (v.applies_parts w2 ++ (plain k.Semicolon ∷ []))))) xs ys h) in
      let h1 =
      sym (marked_none k.Constant c (v.value_parts t ++ (v.applies_parts w ++ (plain k.Semicolon ∷ []))) xs)
      ∙ r0.rest ∙ marked_none k.Constant c2
      (v.value_parts t2 ++ (v.applies_parts w2 ++ (plain k.Semicolon ∷ []))) ys in
      let r2 =
      value_fixed t t2 _ _ (cc)
      (in_turn (v.value_parts t) (v.applies_parts w ++ (plain k.Semicolon ∷ [])) (v.value_parts t2)
      (v.applies_parts w2 ++ (plain k.Semicolon ∷ [])) xs ys h1) in
      let r3 =
      applies_fixed w w2 _ _ (cc)
      (in_turn (v.applies_parts w) (plain k.Semicolon ∷ []) (v.applies_parts w2) (plain k.Semicolon ∷ []) xs
      ys r2.rest) in
      record {
        tree = ap (λ q. v.association q o c t w) r0.tree ∙ ap (λ q. v.association m2 q c t w) g1
            ∙ ap (λ q. v.association m2 o2 q t w) g2 ∙ ap (λ q. v.association m2 o2 c2 q w) r2.tree
            ∙ ap (λ q. v.association m2 o2 c2 t2 q) r3.tree;
        rest = r3.rest;
      }

  pub associations_fixed : Fixed (v.Associations ℕ) (v.Associations (Unit {0})) (associations_to no_place)
      v.associations_parts
  associations_fixed v.no_associations v.no_associations xs ys s h =
      record { tree = refl; rest = h }
  associations_fixed (v.associate t w) (v.associate t2 w2) xs ys s h =
      let r0 =
      association_fixed t t2 _ _ (cc)
      (in_turn (v.association_parts t) (v.associations_parts w) (v.association_parts t2)
      (v.associations_parts w2) xs ys h) in
      let r1 = associations_fixed w w2 xs ys (cc) r0.rest in
      record { tree = ap (λ q. v.associate q w) r0.tree ∙ ap (λ q. v.associate t2 q) r1.tree; rest = r1.rest }
  associations_fixed _ _ xs ys s h = absurd cc

pub properties_fixed : Fixed (v.Associations ℕ) (v.Associations (Unit {0})) (associations_to no_place)
    v.properties_parts
properties_fixed v.no_associations v.no_associations xs ys s h = record { tree = refl; rest = h }
properties_fixed (v.associate t w) (v.associate t2 w2) xs ys s h =
    associations_fixed (v.associate t w) (v.associate t2 w2) xs ys s
    (in_turn (v.associations_parts (v.associate t w)) (plain k.BraceClose ∷ [])
    (v.associations_parts (v.associate t2 w2)) (plain k.BraceClose ∷ []) xs ys h)
properties_fixed _ _ xs ys s h = absurd cc
