-- Names are determined by their shape, which is the tree without places, and by their places.
use Rattle.std.proofs.Common.{◌≡◌, ℕ, ap, ap₂, List, [], ◌∷◌, map, flat_map, refl}
use Rattle.aadl_tree.specs.declared.mark.Mark.{Mark}
use Rattle.aadl_tree.specs.declared.mark.Mark.TheVariants as k
use Rattle.aadl_tree.specs.SpellingParts.{SpellingPart, behind}
use Rattle.aadl_tree.specs.Names as n
use Rattle.aadl_grammar.proofs.HeadsAndTails.{heads, tails}
use Rattle.aadl_tree.specs.proof.PlaceMaps.{identifier_to, name_to, no_place}
use Rattle.aadl_grammar.proofs.UniquePlacedTrees.PlacesFromTokens.{placed, Both, in_turn}

abbrev pub Fixed : (T U : Type 0) → (T → U) → (T → List (SpellingPart ℕ)) → Type 0
Fixed T U to parts =
    (t u : T) (xs ys : List ℕ) → to t ≡ to u → placed (parts t) xs ≡ placed (parts u) ys → Both T t u xs ys

pub identifier_fixed : Fixed (n.Identifier ℕ) (n.Identifier (Unit {0})) (identifier_to no_place) n.identifier_parts
identifier_fixed t u xs ys s e = record {
  tree =
      ap₂ (λ (a : ℕ) (w : List ℕ). let r : n.Identifier ℕ = record { at = a; spelling = w } in r)
      (heads t.at u.at xs ys e) (ap (λ (x : n.Identifier (Unit {0})). x.spelling) s);
  rest = tails t.at u.at xs ys e;
}

-- parts of a list, with a symbol before each
pub chain_fixed : {T U : Type 0} (m : Mark) (to : T → U) (parts : T → List (SpellingPart ℕ)) → Fixed T U to parts
    → Fixed (List T) (List U) (map to) (flat_map (behind m parts))
chain_fixed m to parts f [] [] xs ys s e = record { tree = refl; rest = e }
chain_fixed m to parts f (t ∷ ts) (u ∷ us) xs ys s e =
    let a =
    f t u _ _ (heads (to t) (to u) (map to ts) (map to us) s)
    (in_turn (parts t) (flat_map (behind m parts) ts) (parts u) (flat_map (behind m parts) us) xs ys e) in
    let b = chain_fixed m to parts f ts us xs ys (tails (to t) (to u) (map to ts) (map to us) s) a.rest in
    record { tree = ap₂ (λ v w. v ∷ w) a.tree b.tree; rest = b.rest }
chain_fixed m to parts f [] (u ∷ us) xs ys s e = absurd cc
chain_fixed m to parts f (t ∷ ts) [] xs ys s e = absurd cc

pub name_fixed : Fixed (n.Name ℕ) (n.Name (Unit {0})) (name_to no_place) n.name_parts
name_fixed t u xs ys s e =
    let a = identifier_fixed t.first u.first _ _ (ap (λ (x : n.Name (Unit {0})). x.first) s) e in
    let b =
    chain_fixed k.Scope (identifier_to no_place) n.identifier_parts identifier_fixed t.rest u.rest xs ys
    (ap (λ (x : n.Name (Unit {0})). x.rest) s) a.rest in
    record {
      tree = ap₂ (λ (v : n.Identifier ℕ) (w : List (n.Identifier ℕ)). let r : n.Name ℕ =
          record { first = v; rest = w } in r) a.tree b.tree;
      rest = b.rest;
    }
