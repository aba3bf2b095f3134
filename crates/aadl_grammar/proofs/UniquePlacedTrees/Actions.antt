-- Actions are determined by their shape, which is the tree without places, and by their places.
use Rattle.std.proofs.Common.{◌≡◌, ℕ, ℤ, ◌∙◌, sym, ap, Bool, true, false, List, [], ◌∷◌, ◌++◌, refl}
use Rattle.aadl_tree.specs.declared.mark.Mark.TheVariants as k
use Rattle.aadl_tree.specs.declared.actions.Bound.{Bound}
use Rattle.aadl_tree.specs.SpellingParts.{SpellingPart, may, last_semicolon, plain}
use Rattle.aadl_tree.specs.Names as n
use Rattle.aadl_tree.specs.Expressions as e
use Rattle.aadl_tree.specs.Actions as a
use Rattle.aadl_grammar.proofs.HeadsAndTails.{heads, tails}
use Rattle.aadl_tree.specs.proof.PlaceMaps.{no_place, expression_to, action_to, actions_to, mores_to, elsifs_to}
use Rattle.aadl_tree.specs.proof.PlaceMaps.{otherwise_to, block_to}
use Rattle.aadl_grammar.proofs.UniquePlacedTrees.PlacesFromTokens.{placed, in_turn}
use Rattle.aadl_grammar.proofs.UniquePlacedTrees.Names.{Fixed, identifier_fixed}
use Rattle.aadl_grammar.proofs.UniquePlacedTrees.Expressions.{expression_fixed}
use Rattle.aadl_grammar.proofs.UniquePlacedTrees.Values.{reference_fixed}

bound_none : (b : Bound) (ps : List (SpellingPart ℕ)) (xs : List ℕ) → placed (a.bound_parts b ++ ps) xs ≡ placed ps xs
bound_none b ps xs = by_parts b.negative b.value ps xs where
  by_parts : (c : Bool) (z : ℤ) (qs : List (SpellingPart ℕ)) (ys : List ℕ)
      → placed (a.bound_parts (record { negative = c; value = z }) ++ qs) ys ≡ placed qs ys
  by_parts true z qs ys = refl
  by_parts false z qs ys = refl

pub test_fixed : Fixed (e.Expression ℕ) (e.Expression (Unit {0})) (expression_to no_place) a.test_parts
test_fixed t u xs ys s h =
    expression_fixed t u xs ys s
    (in_turn (e.expression_parts t) (plain k.ParenClose ∷ []) (e.expression_parts u) (plain k.ParenClose ∷ []) xs ys h)

mutual
  pub action_fixed : Fixed (a.Action ℕ) (a.Action (Unit {0})) (action_to no_place) a.action_parts
  action_fixed (a.assign t w) (a.assign t2 w2) xs ys s h =
      let r0 =
      identifier_fixed t t2 _ _ (cc)
      (in_turn (n.identifier_parts t) (plain k.Assign ∷ (e.expression_parts w)) (n.identifier_parts t2)
      (plain k.Assign ∷ (e.expression_parts w2)) xs ys h) in
      let r1 = expression_fixed w w2 xs ys (cc) r0.rest in
      record { tree = ap (λ q. a.assign q w) r0.tree ∙ ap (λ q. a.assign t2 q) r1.tree; rest = r1.rest }
  action_fixed (a.send t w) (a.send t2 w2) xs ys s h =
      let r0 =
      identifier_fixed t t2 _ _ (cc)
      (in_turn (n.identifier_parts t) (plain k.Bang ∷ (a.test_parts w)) (n.identifier_parts t2)
      (plain k.Bang ∷ (a.test_parts w2)) xs ys h) in
      let r1 = test_fixed w w2 xs ys (cc) r0.rest in
      record { tree = ap (λ q. a.send q w) r0.tree ∙ ap (λ q. a.send t2 q) r1.tree; rest = r1.rest }
  action_fixed (a.choose t w z o) (a.choose t2 w2 z2 o2) xs ys s h =
      let r0 =
      test_fixed t t2 _ _ (cc)
      (in_turn (a.test_parts t)
      (a.actions_parts w ++ (a.elsifs_parts z ++ (a.otherwise_parts o ++ (plain k.End ∷ (plain k.If ∷ [])))))
      (a.test_parts t2) (a.actions_parts w2
      ++ (a.elsifs_parts z2 ++ (a.otherwise_parts o2 ++ (plain k.End ∷ (plain k.If ∷ []))))) xs ys h) in
      let r1 =
      actions_fixed w w2 _ _ (cc)
      (in_turn (a.actions_parts w) (a.elsifs_parts z ++ (a.otherwise_parts o ++ (plain k.End ∷ (plain k.If ∷ []))))
      (a.actions_parts w2) (a.elsifs_parts z2 ++ (a.otherwise_parts o2 ++ (plain k.End ∷ (plain k.If ∷ [])))) xs
      ys r0.rest) in
      let r2 =
      elsifs_fixed z z2 _ _ (cc)
      (in_turn (a.elsifs_parts z) (a.otherwise_parts o ++ (plain k.End ∷ (plain k.If ∷ []))) (a.elsifs_parts z2)
      (a.otherwise_parts o2 ++ (plain k.End ∷ (plain k.If ∷ []))) xs ys r1.rest) in
      let r3 =
      otherwise_fixed o o2 _ _ (cc)
      (in_turn (a.otherwise_parts o) (plain k.End ∷ (plain k.If ∷ [])) (a.otherwise_parts o2)
      (plain k.End ∷ (plain k.If ∷ [])) xs ys r2.rest) in
      record {
        tree = ap (λ q. a.choose q w z o) r0.tree ∙ ap (λ q. a.choose t2 q z o) r1.tree
            ∙ ap (λ q. a.choose t2 w2 q o) r2.tree ∙ ap (λ q. a.choose t2 w2 z2 q) r3.tree;
        rest = r3.rest;
      }
  action_fixed (a.loop p t w l m z) (a.loop p2 t2 w2 l2 m2 z2) xs ys s h =
      let g3 : l ≡ l2 = cc in
      let g4 : m ≡ m2 = cc in
      let p0 = heads p p2 _ _ (h) in
      let h0 = tails p p2 _ _ (h) in
      let r1 =
      identifier_fixed t t2 _ _ (cc)
      (in_turn (n.identifier_parts t)
      (plain k.Colon ∷ (n.reference_parts w
      ++ (plain k.In ∷ (a.bound_parts l
      ++ (plain k.Range ∷ (a.bound_parts m ++ (plain k.ParenClose ∷ (a.block_parts z))))))))
      (n.identifier_parts t2) (plain k.Colon
      ∷ (n.reference_parts w2 ++ (plain k.In
      ∷ (a.bound_parts l2 ++ (plain k.Range
      ∷ (a.bound_parts m2 ++ (plain k.ParenClose ∷ (a.block_parts z2))))))))
      xs ys h0) in
      let r2 =
      reference_fixed w w2 _ _ (cc)
      (in_turn (n.reference_parts w)
      (plain k.In ∷ (a.bound_parts l
      ++ (plain k.Range ∷ (a.bound_parts m ++ (plain k.ParenClose ∷ (a.block_parts z))))))
      (n.reference_parts w2) (plain k.In
      ∷ (a.bound_parts l2 ++ (plain k.Range
      ∷ (a.bound_parts m2 ++ (plain k.ParenClose ∷ (a.block_parts z2)))))) xs ys r1.rest) in
      let h3 =
      sym (bound_none l (plain k.Range ∷ (a.bound_parts m ++ (plain k.ParenClose ∷ (a.block_parts z)))) xs)
      ∙ r2.rest ∙ bound_none l2
      (plain k.Range ∷ (a.bound_parts m2 ++ (plain k.ParenClose ∷ (a.block_parts z2)))) ys in
      let h4 =
      sym (bound_none m (plain k.ParenClose ∷ (a.block_parts z)) xs) ∙ h3
      ∙ bound_none m2 (plain k.ParenClose ∷ (a.block_parts z2)) ys in
      let r5 = block_fixed z z2 xs ys (cc) h4 in
      record {
        tree = ap (λ q. a.loop q t w l m z) p0 ∙ ap (λ q. a.loop p2 q w l m z) r1.tree
            ∙ ap (λ q. a.loop p2 t2 q l m z) r2.tree ∙ ap (λ q. a.loop p2 t2 w2 q m z) g3
            ∙ ap (λ q. a.loop p2 t2 w2 l2 q z) g4 ∙ ap (λ q. a.loop p2 t2 w2 l2 m2 q) r5.tree;
        rest = r5.rest;
      }
  action_fixed _ _ xs ys s h = absurd cc

  pub actions_fixed : Fixed (a.Actions ℕ) (a.Actions (Unit {0})) (actions_to no_place) a.actions_parts
  actions_fixed (a.actions t w) (a.actions t2 w2) xs ys s h =
      let r0 =
      action_fixed t t2 _ _ (cc)
      (in_turn (a.action_parts t) (a.mores_parts w ++ (may last_semicolon ∷ [])) (a.action_parts t2)
      (a.mores_parts w2 ++ (may last_semicolon ∷ [])) xs ys h) in
      let r1 =
      mores_fixed w w2 _ _ (cc)
      (in_turn (a.mores_parts w) (may last_semicolon ∷ []) (a.mores_parts w2) (may last_semicolon ∷ []) xs
      ys r0.rest) in
      record { tree = ap (λ q. a.actions q w) r0.tree ∙ ap (λ q. a.actions t2 q) r1.tree; rest = r1.rest }

  pub mores_fixed : Fixed (a.Mores ℕ) (a.Mores (Unit {0})) (mores_to no_place) a.mores_parts
  mores_fixed a.no_mores a.no_mores xs ys s h =
      record { tree = refl; rest = h }
  mores_fixed (a.more t w) (a.more t2 w2) xs ys s h =
      let r0 =
      action_fixed t t2 _ _ (cc)
      (in_turn (a.action_parts t) (a.mores_parts w) (a.action_parts t2) (a.mores_parts w2) xs ys h) in
      let r1 = mores_fixed w w2 xs ys (cc) r0.rest in
      record { tree = ap (λ q. a.more q w) r0.tree ∙ ap (λ q. a.more t2 q) r1.tree; rest = r1.rest }
  mores_fixed _ _ xs ys s h = absurd cc

  pub elsifs_fixed : Fixed (a.Elsifs ℕ) (a.Elsifs (Unit {0})) (elsifs_to no_place) a.elsifs_parts
  elsifs_fixed a.no_elsifs a.no_elsifs xs ys s h =
      record { tree = refl; rest = h }
  elsifs_fixed (a.elsif t w z) (a.elsif t2 w2 z2) xs ys s h =
      let r0 =
      test_fixed t t2 _ _ (cc)
      (in_turn (a.test_parts t) (a.actions_parts w ++ (a.elsifs_parts z)) (a.test_parts t2)
      (a.actions_parts w2 ++ (a.elsifs_parts z2)) xs ys h) in
      let r1 =
      actions_fixed w w2 _ _ (cc)
      (in_turn (a.actions_parts w) (a.elsifs_parts z) (a.actions_parts w2) (a.elsifs_parts z2) xs ys r0.rest) in
      let r2 = elsifs_fixed z z2 xs ys (cc) r1.rest in
      record {
        tree = ap (λ q. a.elsif q w z) r0.tree ∙ ap (λ q. a.elsif t2 q z) r1.tree
            ∙ ap (λ q. a.elsif t2 w2 q) r2.tree;
        rest = r2.rest;
      }
  elsifs_fixed _ _ xs ys s h = absurd cc

  pub otherwise_fixed : Fixed (a.Otherwise ℕ) (a.Otherwise (Unit {0})) (otherwise_to no_place) a.otherwise_parts
  otherwise_fixed a.no_otherwise a.no_otherwise xs ys s h =
      record { tree = refl; rest = h }
  otherwise_fixed (a.otherwise t) (a.otherwise t2) xs ys s h =
      let r0 = actions_fixed t t2 xs ys (cc) h in
      record { tree = ap (λ q. a.otherwise q) r0.tree; rest = r0.rest }
  otherwise_fixed _ _ xs ys s h = absurd cc

  pub block_fixed : Fixed (a.Block ℕ) (a.Block (Unit {0})) (block_to no_place) a.block_parts
  block_fixed a.no_block a.no_block xs ys s h =
      record { tree = refl; rest = h }
  block_fixed (a.block t) (a.block t2) xs ys s h =
      let r0 =
      actions_fixed t t2 _ _ (cc)
      (in_turn (a.actions_parts t) (plain k.BraceClose ∷ []) (a.actions_parts t2)
      (plain k.BraceClose ∷ []) xs ys h) in
      record { tree = ap (λ q. a.block q) r0.tree; rest = r0.rest }
  block_fixed _ _ xs ys s h = absurd cc
