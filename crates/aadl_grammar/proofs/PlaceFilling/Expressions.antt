-- Expressions that terminals spell can be given the places of these terminals. For the law that a text has a tree or
-- a fault.
use Rattle.std.proofs.Common.{ℕ, sym, Bool, true, false, [], ◌∷◌, ◌++◌}
use Rattle.aadl_tree.specs.declared.mark.Mark.TheVariants as k
use Rattle.aadl_tree.specs.Terminals.{whole, mark}
use Rattle.aadl_tree.specs.SpellingParts.{token, parts_if}
use Rattle.aadl_grammar.proofs.PlaceFilling.FilledTrees.{U, Fills, split, cut, cut_at, nil, joined, consed, option_fill}
use Rattle.aadl_tree.specs.declared.expressions.LogicOperator.{LogicOperator}
use Rattle.aadl_tree.specs.declared.expressions.LogicOperator.TheVariants as logic
use Rattle.aadl_tree.specs.Names as n
use Rattle.aadl_tree.specs.Values as v
use Rattle.aadl_tree.specs.Expressions as e
use Rattle.aadl_grammar.proofs.PlaceFilling.Names.{identifier_fill}

pub leading_fill : Fills (e.LeadingSign U) (e.LeadingSign ℕ) e.leading_parts e.leading_parts
leading_fill t b l =
    let s0 = cut_at (mark (v.sign_mark t.sign)) (t.at) [] (b) (l) in
    let at = s0.at in
    record { tree = record { at = at; sign = t.sign }; is = consed (sym (nil (s0.back) (s0.rest))) (s0.is) }

fresh_fill : Fills Bool Bool e.fresh_parts e.fresh_parts
fresh_fill true b l =
    let s0 = cut (mark k.Tick) (token (mark k.Fresh) [] ∷ []) (b) (l) in
    let s1 = cut (mark k.Fresh) [] (s0.back) (s0.rest) in
    record { tree = true; is = consed (consed (sym (nil (s1.back) (s1.rest))) (s1.is)) (s0.is) }
fresh_fill false b l =
    record { tree = false; is = sym (nil (b) (l)) }

logic_fill : Fills LogicOperator LogicOperator e.logic_parts e.logic_parts
logic_fill logic.And b l =
    let s0 = cut (mark k.And) [] (b) (l) in
    record { tree = logic.And; is = consed (sym (nil (s0.back) (s0.rest))) (s0.is) }
logic_fill logic.Or b l =
    let s0 = cut (mark k.Or) [] (b) (l) in
    record { tree = logic.Or; is = consed (sym (nil (s0.back) (s0.rest))) (s0.is) }
logic_fill logic.Xor b l =
    let s0 = cut (mark k.Xor) [] (b) (l) in
    record { tree = logic.Xor; is = consed (sym (nil (s0.back) (s0.rest))) (s0.is) }
logic_fill logic.AndThen b l =
    let s0 = cut (mark k.And) (token (mark k.Then) [] ∷ []) (b) (l) in
    let s1 = cut (mark k.Then) [] (s0.back) (s0.rest) in
    record { tree = logic.AndThen; is = consed (consed (sym (nil (s1.back) (s1.rest))) (s1.is)) (s0.is) }
logic_fill logic.OrElse b l =
    let s0 = cut (mark k.Or) (token (mark k.Else) [] ∷ []) (b) (l) in
    let s1 = cut (mark k.Else) [] (s0.back) (s0.rest) in
    record { tree = logic.OrElse; is = consed (consed (sym (nil (s1.back) (s1.rest))) (s1.is)) (s0.is) }

mutual
  pub primary_fill : Fills (e.Primary U) (e.Primary ℕ) e.primary_parts e.primary_parts
  primary_fill (e.number a z) b l =
      let s0 = cut_at (whole z) (a) [] (b) (l) in
      let at = s0.at in
      record { tree = e.number at z; is = consed (sym (nil (s0.back) (s0.rest))) (s0.is) }
  primary_fill (e.truth a z) b l =
      let s0 = cut_at (mark (e.truth_mark z)) (a) [] (b) (l) in
      let at = s0.at in
      record { tree = e.truth at z; is = consed (sym (nil (s0.back) (s0.rest))) (s0.is) }
  primary_fill (e.named x z) b l =
      let s0 = split (n.identifier_parts x) (e.fresh_parts z) (b) (l) in
      let r1 = identifier_fill x s0.front s0.first in
      let r2 = fresh_fill z (s0.back) (s0.second) in
      record { tree = e.named r1.tree r2.tree; is = joined (r1.is) (r2.is) (s0.is) }
  primary_fill (e.group a x) b l =
      let s0 = cut_at (mark k.ParenOpen) (a) (e.expression_parts x ++ (token (mark k.ParenClose) [] ∷ [])) (b) (l) in
      let at = s0.at in
      let s1 = split (e.expression_parts x) (token (mark k.ParenClose) [] ∷ []) (s0.back) (s0.rest) in
      let r1 = expression_fill x s1.front s1.first in
      let s2 = cut (mark k.ParenClose) [] (s1.back) (s1.second) in
      record {
        tree = e.group at r1.tree;
        is = consed (joined (r1.is) (consed (sym (nil (s2.back) (s2.rest))) (s2.is)) (s1.is)) (s0.is);
      }

  pub factor_fill : Fills (e.Factor U) (e.Factor ℕ) e.factor_parts e.factor_parts
  factor_fill (e.absolute a x) b l =
      let s0 = cut_at (mark k.Abs) (a) (e.primary_parts x) (b) (l) in
      let at = s0.at in
      let r1 = primary_fill x (s0.back) (s0.rest) in
      record { tree = e.absolute at r1.tree; is = consed (r1.is) (s0.is) }
  factor_fill (e.negated a x) b l =
      let s0 = cut_at (mark k.Not) (a) (e.primary_parts x) (b) (l) in
      let at = s0.at in
      let r1 = primary_fill x (s0.back) (s0.rest) in
      record { tree = e.negated at r1.tree; is = consed (r1.is) (s0.is) }
  factor_fill (e.bare x) b l =
      let r1 = primary_fill x (b) (l) in
      record { tree = e.bare r1.tree; is = r1.is }

  pub term_fill : Fills (e.Term U) (e.Term ℕ) e.term_parts e.term_parts
  term_fill (e.term x y) b l =
      let s0 = split (e.factor_parts x) (e.factors_parts y) (b) (l) in
      let r1 = factor_fill x s0.front s0.first in
      let r2 = factors_fill y (s0.back) (s0.second) in
      record { tree = e.term r1.tree r2.tree; is = joined (r1.is) (r2.is) (s0.is) }

  pub factors_fill : Fills (e.Factors U) (e.Factors ℕ) e.factors_parts e.factors_parts
  factors_fill e.no_factors b l =
      record { tree = e.no_factors; is = sym (nil (b) (l)) }
  factors_fill (e.factor o x y) b l =
      let s0 = cut (mark (e.multiply_mark o)) (e.factor_parts x ++ (e.factors_parts y)) (b) (l) in
      let s1 = split (e.factor_parts x) (e.factors_parts y) (s0.back) (s0.rest) in
      let r1 = factor_fill x s1.front s1.first in
      let r2 = factors_fill y (s1.back) (s1.second) in
      record { tree = e.factor o r1.tree r2.tree; is = consed (joined (r1.is) (r2.is) (s1.is)) (s0.is) }

  pub sum_fill : Fills (e.Sum U) (e.Sum ℕ) e.sum_parts e.sum_parts
  sum_fill (e.total o x y) b l =
      let s0 = split (parts_if (e.leading_parts) o) (e.term_parts x ++ (e.terms_parts y)) (b) (l) in
      let r0 = option_fill (e.leading_parts) (e.leading_parts) (leading_fill) o s0.front s0.first in
      let s1 = split (e.term_parts x) (e.terms_parts y) (s0.back) (s0.second) in
      let r1 = term_fill x s1.front s1.first in
      let r2 = terms_fill y (s1.back) (s1.second) in
      record { tree = e.total r0.tree r1.tree r2.tree; is = joined (r0.is) (joined (r1.is) (r2.is) (s1.is)) (s0.is) }

  pub terms_fill : Fills (e.Terms U) (e.Terms ℕ) e.terms_parts e.terms_parts
  terms_fill e.no_terms b l =
      record { tree = e.no_terms; is = sym (nil (b) (l)) }
  terms_fill (e.add o x y) b l =
      let s0 = cut (mark (v.sign_mark o)) (e.term_parts x ++ (e.terms_parts y)) (b) (l) in
      let s1 = split (e.term_parts x) (e.terms_parts y) (s0.back) (s0.rest) in
      let r1 = term_fill x s1.front s1.first in
      let r2 = terms_fill y (s1.back) (s1.second) in
      record { tree = e.add o r1.tree r2.tree; is = consed (joined (r1.is) (r2.is) (s1.is)) (s0.is) }

  pub relation_fill : Fills (e.Relation U) (e.Relation ℕ) e.relation_parts e.relation_parts
  relation_fill (e.single x) b l =
      let r1 = sum_fill x (b) (l) in
      record { tree = e.single r1.tree; is = r1.is }
  relation_fill (e.compared x o y) b l =
      let s0 = split (e.sum_parts x) (token (mark (e.relation_mark o)) [] ∷ (e.sum_parts y)) (b) (l) in
      let r1 = sum_fill x s0.front s0.first in
      let s1 = cut (mark (e.relation_mark o)) (e.sum_parts y) (s0.back) (s0.second) in
      let r2 = sum_fill y (s1.back) (s1.rest) in
      record { tree = e.compared r1.tree o r2.tree; is = joined (r1.is) (consed (r2.is) (s1.is)) (s0.is) }

  pub expression_fill : Fills (e.Expression U) (e.Expression ℕ) e.expression_parts e.expression_parts
  expression_fill (e.expression x y) b l =
      let s0 = split (e.relation_parts x) (e.relations_parts y) (b) (l) in
      let r1 = relation_fill x s0.front s0.first in
      let r2 = relations_fill y (s0.back) (s0.second) in
      record { tree = e.expression r1.tree r2.tree; is = joined (r1.is) (r2.is) (s0.is) }

  pub relations_fill : Fills (e.Relations U) (e.Relations ℕ) e.relations_parts e.relations_parts
  relations_fill e.no_relations b l =
      record { tree = e.no_relations; is = sym (nil (b) (l)) }
  relations_fill (e.join o x y) b l =
      let s0 = split (e.logic_parts o) (e.relation_parts x ++ (e.relations_parts y)) (b) (l) in
      let r0 = logic_fill o s0.front s0.first in
      let s1 = split (e.relation_parts x) (e.relations_parts y) (s0.back) (s0.second) in
      let r1 = relation_fill x s1.front s1.first in
      let r2 = relations_fill y (s1.back) (s1.second) in
      record { tree = e.join r0.tree r1.tree r2.tree; is = joined (r0.is) (joined (r1.is) (r2.is) (s1.is)) (s0.is) }
