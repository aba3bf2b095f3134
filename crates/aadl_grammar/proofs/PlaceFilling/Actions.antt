-- Actions that terminals spell can be given the places of these terminals. For the law that a text has a tree or a
-- fault.
use Rattle.std.proofs.Common.{ℕ, sym, [], ◌∷◌, ◌++◌}
use Rattle.aadl_tree.specs.declared.mark.Mark.TheVariants as k
use Rattle.aadl_tree.specs.Terminals.{whole, mark}
use Rattle.aadl_tree.specs.SpellingParts.{token, may, last_semicolon, marked_if}
use Rattle.aadl_grammar.proofs.PlaceFilling.FilledTrees.{U, Fills, split, cut, cut_at, cut_may, nil, joined, consed}
use Rattle.aadl_grammar.proofs.PlaceFilling.FilledTrees.{marked_fill}
use Rattle.aadl_tree.specs.declared.actions.Bound.{Bound}
use Rattle.aadl_tree.specs.Names as n
use Rattle.aadl_tree.specs.Expressions as e
use Rattle.aadl_tree.specs.Actions as a
use Rattle.aadl_grammar.proofs.PlaceFilling.Names.{identifier_fill, reference_fill}
use Rattle.aadl_grammar.proofs.PlaceFilling.Expressions.{expression_fill}

pub test_fill : Fills (e.Expression U) (e.Expression ℕ) a.test_parts a.test_parts
test_fill t b l =
    let s0 = cut (mark k.ParenOpen) (e.expression_parts t ++ (token (mark k.ParenClose) [] ∷ [])) (b) (l) in
    let s1 = split (e.expression_parts t) (token (mark k.ParenClose) [] ∷ []) (s0.back) (s0.rest) in
    let r1 = expression_fill t s1.front s1.first in
    let s2 = cut (mark k.ParenClose) [] (s1.back) (s1.second) in
    record {
      tree = r1.tree;
      is = consed (joined (r1.is) (consed (sym (nil (s2.back) (s2.rest))) (s2.is)) (s1.is)) (s0.is);
    }

bound_fill : Fills Bound Bound a.bound_parts a.bound_parts
bound_fill t b l =
    let s0 = split (marked_if k.Minus t.negative) (token (whole t.value) [] ∷ []) (b) (l) in
    let r1 = marked_fill k.Minus t.negative s0.front s0.first in
    let s1 = cut (whole t.value) [] (s0.back) (s0.second) in
    record {
      tree = record { negative = r1.tree; value = t.value };
      is = joined (r1.is) (consed (sym (nil (s1.back) (s1.rest))) (s1.is)) (s0.is);
    }

mutual
  pub action_fill : Fills (a.Action U) (a.Action ℕ) a.action_parts a.action_parts
  action_fill (a.assign x y) b l =
      let s0 = split (n.identifier_parts x) (token (mark k.Assign) [] ∷ (e.expression_parts y)) (b) (l) in
      let r1 = identifier_fill x s0.front s0.first in
      let s1 = cut (mark k.Assign) (e.expression_parts y) (s0.back) (s0.second) in
      let r2 = expression_fill y (s1.back) (s1.rest) in
      record { tree = a.assign r1.tree r2.tree; is = joined (r1.is) (consed (r2.is) (s1.is)) (s0.is) }
  action_fill (a.send x y) b l =
      let s0 = split (n.identifier_parts x) (token (mark k.Bang) [] ∷ (a.test_parts y)) (b) (l) in
      let r1 = identifier_fill x s0.front s0.first in
      let s1 = cut (mark k.Bang) (a.test_parts y) (s0.back) (s0.second) in
      let r2 = test_fill y (s1.back) (s1.rest) in
      record { tree = a.send r1.tree r2.tree; is = joined (r1.is) (consed (r2.is) (s1.is)) (s0.is) }
  action_fill (a.choose x y z w) b l =
      let s0 =
      cut (mark k.If) (a.test_parts x
      ++ (a.actions_parts y ++ (a.elsifs_parts z
      ++ (a.otherwise_parts w ++ (token (mark k.End) [] ∷ (token (mark k.If) [] ∷ [])))))) (b) (l) in
      let s1 =
      split (a.test_parts x) (a.actions_parts y
      ++ (a.elsifs_parts z ++ (a.otherwise_parts w ++ (token (mark k.End) [] ∷ (token (mark k.If) [] ∷ [])))))
      (s0.back) (s0.rest) in
      let r1 = test_fill x s1.front s1.first in
      let s2 =
      split (a.actions_parts y)
      (a.elsifs_parts z ++ (a.otherwise_parts w ++ (token (mark k.End) [] ∷ (token (mark k.If) [] ∷ [])))) (s1.back)
      (s1.second) in
      let r2 = actions_fill y s2.front s2.first in
      let s3 =
      split (a.elsifs_parts z) (a.otherwise_parts w ++ (token (mark k.End) [] ∷ (token (mark k.If) [] ∷ [])))
      (s2.back) (s2.second) in
      let r3 = elsifs_fill z s3.front s3.first in
      let s4 =
      split (a.otherwise_parts w) (token (mark k.End) [] ∷ (token (mark k.If) [] ∷ [])) (s3.back) (s3.second) in
      let r4 = otherwise_fill w s4.front s4.first in
      let s5 = cut (mark k.End) (token (mark k.If) [] ∷ []) (s4.back) (s4.second) in
      let s6 = cut (mark k.If) [] (s5.back) (s5.rest) in
      record {
        tree = a.choose r1.tree r2.tree r3.tree r4.tree;
        is = consed (joined (r1.is)
            (joined (r2.is) (joined (r3.is)
            (joined (r4.is) (consed (consed (sym (nil (s6.back) (s6.rest))) (s6.is)) (s5.is)) (s4.is)) (s3.is))
            (s2.is)) (s1.is)) (s0.is);
      }
  action_fill (a.loop p x y low high w) b l =
      let s0 =
      cut_at (mark k.For) (p) (token (mark k.ParenOpen) []
      ∷ (n.identifier_parts x ++ (token (mark k.Colon) []
      ∷ (n.reference_parts y ++ (token (mark k.In) []
      ∷ (a.bound_parts low ++ (token (mark k.Range) []
      ∷ (a.bound_parts high ++ (token (mark k.ParenClose) [] ∷ (a.block_parts w)))))))))) (b) (l) in
      let at = s0.at in
      let s1 =
      cut (mark k.ParenOpen) (n.identifier_parts x
      ++ (token (mark k.Colon) []
      ∷ (n.reference_parts y ++ (token (mark k.In) []
      ∷ (a.bound_parts low ++ (token (mark k.Range) []
      ∷ (a.bound_parts high ++ (token (mark k.ParenClose) [] ∷ (a.block_parts w))))))))) (s0.back)
      (s0.rest) in
      let s2 =
      split (n.identifier_parts x)
      (token (mark k.Colon) []
      ∷ (n.reference_parts y ++ (token (mark k.In) []
      ∷ (a.bound_parts low ++ (token (mark k.Range) []
      ∷ (a.bound_parts high ++ (token (mark k.ParenClose) [] ∷ (a.block_parts w)))))))) (s1.back)
      (s1.rest) in
      let r1 = identifier_fill x s2.front s2.first in
      let s3 =
      cut (mark k.Colon) (n.reference_parts y
      ++ (token (mark k.In) []
      ∷ (a.bound_parts low ++ (token (mark k.Range) []
      ∷ (a.bound_parts high ++ (token (mark k.ParenClose) [] ∷ (a.block_parts w))))))) (s2.back)
      (s2.second) in
      let s4 =
      split (n.reference_parts y)
      (token (mark k.In) [] ∷ (a.bound_parts low
      ++ (token (mark k.Range) []
      ∷ (a.bound_parts high ++ (token (mark k.ParenClose) [] ∷ (a.block_parts w)))))) (s3.back) (s3.rest) in
      let r2 = reference_fill y s4.front s4.first in
      let s5 =
      cut (mark k.In) (a.bound_parts low
      ++ (token (mark k.Range) [] ∷ (a.bound_parts high ++ (token (mark k.ParenClose) [] ∷ (a.block_parts w)))))
      (s4.back) (s4.second) in
      let s6 =
      split (a.bound_parts low)
      (token (mark k.Range) [] ∷ (a.bound_parts high ++ (token (mark k.ParenClose) [] ∷ (a.block_parts w))))
      (s5.back) (s5.rest) in
      let r3 = bound_fill low s6.front s6.first in
      let s7 =
      cut (mark k.Range) (a.bound_parts high ++ (token (mark k.ParenClose) [] ∷ (a.block_parts w))) (s6.back)
      (s6.second) in
      let s8 = split (a.bound_parts high) (token (mark k.ParenClose) [] ∷ (a.block_parts w)) (s7.back) (s7.rest) in
      let r4 = bound_fill high s8.front s8.first in
      let s9 = cut (mark k.ParenClose) (a.block_parts w) (s8.back) (s8.second) in
      let r5 = block_fill w (s9.back) (s9.rest) in
      record {
        tree = a.loop at r1.tree r2.tree r3.tree r4.tree r5.tree;
        is = consed (consed (joined (r1.is)
            (consed (joined (r2.is) (consed
            (joined (r3.is) (consed (joined (r4.is) (consed (r5.is) (s9.is)) (s8.is)) (s7.is)) (s6.is)) (s5.is))
            (s4.is)) (s3.is)) (s2.is)) (s1.is)) (s0.is);
      }

  pub actions_fill : Fills (a.Actions U) (a.Actions ℕ) a.actions_parts a.actions_parts
  actions_fill (a.actions x y) b l =
      let s0 = split (a.action_parts x) (a.mores_parts y ++ (may last_semicolon ∷ [])) (b) (l) in
      let r1 = action_fill x s0.front s0.first in
      let s1 = split (a.mores_parts y) (may last_semicolon ∷ []) (s0.back) (s0.second) in
      let r2 = mores_fill y s1.front s1.first in
      let s2 = cut_may (last_semicolon) [] (s1.back) (s1.second) in
      record {
        tree = a.actions r1.tree r2.tree;
        is = joined (r1.is) (joined (r2.is) (consed (sym (nil (s2.back) (s2.rest))) (s2.is)) (s1.is)) (s0.is);
      }

  pub mores_fill : Fills (a.Mores U) (a.Mores ℕ) a.mores_parts a.mores_parts
  mores_fill a.no_mores b l =
      record { tree = a.no_mores; is = sym (nil (b) (l)) }
  mores_fill (a.more x y) b l =
      let s0 = cut (mark k.Semicolon) (a.action_parts x ++ (a.mores_parts y)) (b) (l) in
      let s1 = split (a.action_parts x) (a.mores_parts y) (s0.back) (s0.rest) in
      let r1 = action_fill x s1.front s1.first in
      let r2 = mores_fill y (s1.back) (s1.second) in
      record { tree = a.more r1.tree r2.tree; is = consed (joined (r1.is) (r2.is) (s1.is)) (s0.is) }

  pub elsifs_fill : Fills (a.Elsifs U) (a.Elsifs ℕ) a.elsifs_parts a.elsifs_parts
  elsifs_fill a.no_elsifs b l =
      record { tree = a.no_elsifs; is = sym (nil (b) (l)) }
  elsifs_fill (a.elsif x y z) b l =
      let s0 = cut (mark k.Elsif) (a.test_parts x ++ (a.actions_parts y ++ (a.elsifs_parts z))) (b) (l) in
      let s1 = split (a.test_parts x) (a.actions_parts y ++ (a.elsifs_parts z)) (s0.back) (s0.rest) in
      let r1 = test_fill x s1.front s1.first in
      let s2 = split (a.actions_parts y) (a.elsifs_parts z) (s1.back) (s1.second) in
      let r2 = actions_fill y s2.front s2.first in
      let r3 = elsifs_fill z (s2.back) (s2.second) in
      record {
        tree = a.elsif r1.tree r2.tree r3.tree;
        is = consed (joined (r1.is) (joined (r2.is) (r3.is) (s2.is)) (s1.is)) (s0.is);
      }

  pub otherwise_fill : Fills (a.Otherwise U) (a.Otherwise ℕ) a.otherwise_parts a.otherwise_parts
  otherwise_fill a.no_otherwise b l =
      record { tree = a.no_otherwise; is = sym (nil (b) (l)) }
  otherwise_fill (a.otherwise x) b l =
      let s0 = cut (mark k.Else) (a.actions_parts x) (b) (l) in
      let r1 = actions_fill x (s0.back) (s0.rest) in
      record { tree = a.otherwise r1.tree; is = consed (r1.is) (s0.is) }

  pub block_fill : Fills (a.Block U) (a.Block ℕ) a.block_parts a.block_parts
  block_fill a.no_block b l =
      let s0 = cut (mark k.BraceOpen) (token (mark k.BraceClose) [] ∷ []) (b) (l) in
      let s1 = cut (mark k.BraceClose) [] (s0.back) (s0.rest) in
      record { tree = a.no_block; is = consed (consed (sym (nil (s1.back) (s1.rest))) (s1.is)) (s0.is) }
  block_fill (a.block x) b l =
      let s0 = cut (mark k.BraceOpen) (a.actions_parts x ++ (token (mark k.BraceClose) [] ∷ [])) (b) (l) in
      let s1 = split (a.actions_parts x) (token (mark k.BraceClose) [] ∷ []) (s0.back) (s0.rest) in
      let r1 = actions_fill x s1.front s1.first in
      let s2 = cut (mark k.BraceClose) [] (s1.back) (s1.second) in
      record {
        tree = a.block r1.tree;
        is = consed (joined (r1.is) (consed (sym (nil (s2.back) (s2.rest))) (s2.is)) (s1.is)) (s0.is);
      }
