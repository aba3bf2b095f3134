-- Expressions are determined by their shape, which is the tree without places, and by their places.
use Rattle.std.proofs.Common.{◌≡◌, ℕ, ◌∙◌, sym, ap, ap₂, Bool, true, false, List, [], ◌∷◌, ◌++◌, Option, Some, None}
use Rattle.std.proofs.Common.{option_map, refl}
use Rattle.aadl_tree.specs.declared.expressions.Sign.{Sign}
use Rattle.aadl_tree.specs.declared.expressions.Sign.TheVariants as signs
use Rattle.aadl_tree.specs.declared.expressions.LogicOperator.{LogicOperator}
use Rattle.aadl_tree.specs.declared.expressions.LogicOperator.TheVariants as logic
use Rattle.aadl_tree.specs.declared.mark.Mark.TheVariants as k
use Rattle.aadl_tree.specs.SpellingParts.{SpellingPart, plain, parts_if}
use Rattle.aadl_tree.specs.Names as n
use Rattle.aadl_tree.specs.Expressions as e
use Rattle.aadl_tree.specs.proof.PlaceMaps.{no_place, leading_to, primary_to, factor_to, term_to, factors_to, sum_to}
use Rattle.aadl_tree.specs.proof.PlaceMaps.{terms_to, relation_to, expression_to, relations_to}
use Rattle.aadl_grammar.proofs.UniquePlacedTrees.PlacesFromTokens.{placed, in_turn}
use Rattle.aadl_grammar.proofs.UniquePlacedTrees.Names.{Fixed, identifier_fixed}

abbrev U : Type 0
U = Unit {0}

-- none of these parts keeps a place
fresh_none : (b : Bool) (xs : List ℕ) → placed (e.fresh_parts b) xs ≡ xs
fresh_none true xs = refl
fresh_none false xs = refl

logic_none : (o : LogicOperator) (ps : List (SpellingPart ℕ)) (xs : List ℕ)
    → placed (e.logic_parts o ++ ps) xs ≡ placed ps xs
logic_none logic.And ps xs = refl
logic_none logic.Or ps xs = refl
logic_none logic.Xor ps xs = refl
logic_none logic.AndThen ps xs = refl
logic_none logic.OrElse ps xs = refl

leading_one : (l : e.LeadingSign ℕ) (xs : List ℕ) → placed (e.leading_parts l) xs ≡ l.at ∷ xs
leading_one l xs = by_sign l.sign l.at xs where
  by_sign : (s : Sign) (at : ℕ) (ys : List ℕ) → placed (e.leading_parts (record { at = at; sign = s })) ys ≡ at ∷ ys
  by_sign signs.Plus at ys = refl
  by_sign signs.Minus at ys = refl

leading_fixed : Fixed (Option (e.LeadingSign ℕ)) (Option (e.LeadingSign U)) (option_map (leading_to no_place))
    (parts_if e.leading_parts)
leading_fixed None None xs ys s h = record { tree = refl; rest = h }
leading_fixed (Some l) (Some m) xs ys s h =
    let g : l.at ∷ xs ≡ m.at ∷ ys = sym (leading_one l xs) ∙ h ∙ leading_one m ys in
    let i : leading_to no_place l ≡ leading_to no_place m = cc in
    let j : l.sign ≡ m.sign = ap (λ (x : e.LeadingSign U). x.sign) i in
    let a : l.at ≡ m.at = cc in
    record {
      tree = ap₂ (λ (v : ℕ) (w : Sign). let r : Option (e.LeadingSign ℕ) = Some (record { at = v; sign = w }) in
          r) a j;
      rest = cc;
    }
leading_fixed None (Some m) xs ys s h = absurd cc
leading_fixed (Some l) None xs ys s h = absurd cc

mutual
  pub primary_fixed : Fixed (e.Primary ℕ) (e.Primary U) (primary_to no_place) e.primary_parts
  primary_fixed (e.number at n) (e.number bt m) xs ys s h = record { tree = cc; rest = cc }
  primary_fixed (e.truth at true) (e.truth bt true) xs ys s h = record { tree = cc; rest = cc }
  primary_fixed (e.truth at false) (e.truth bt false) xs ys s h = record { tree = cc; rest = cc }
  primary_fixed (e.named x b) (e.named y c) xs ys s h =
      let a =
      identifier_fixed x y _ _ (cc)
      (in_turn (n.identifier_parts x) (e.fresh_parts b) (n.identifier_parts y) (e.fresh_parts c) xs ys h) in
      let g : b ≡ c = cc in
      record { tree = ap₂ e.named a.tree g; rest = sym (fresh_none b xs) ∙ a.rest ∙ fresh_none c ys }
  primary_fixed (e.group at x) (e.group bt y) xs ys s h =
      let g : at ≡ bt = cc in
      let i : placed (e.expression_parts x ++ plain k.ParenClose ∷ []) xs
      ≡ placed (e.expression_parts y ++ plain k.ParenClose ∷ []) ys = cc in
      let a =
      expression_fixed x y _ _ (cc)
      (in_turn (e.expression_parts x) (plain k.ParenClose ∷ []) (e.expression_parts y)
      (plain k.ParenClose ∷ []) xs ys i) in
      record { tree = ap₂ e.group g a.tree; rest = a.rest }
  primary_fixed _ _ xs ys s h = absurd cc

  pub factor_fixed : Fixed (e.Factor ℕ) (e.Factor U) (factor_to no_place) e.factor_parts
  factor_fixed (e.absolute at x) (e.absolute bt y) xs ys s h =
      let g : at ≡ bt = cc in let a = primary_fixed x y xs ys (cc) (cc) in
      record { tree = ap₂ e.absolute g a.tree; rest = a.rest }
  factor_fixed (e.negated at x) (e.negated bt y) xs ys s h =
      let g : at ≡ bt = cc in let a = primary_fixed x y xs ys (cc) (cc) in
      record { tree = ap₂ e.negated g a.tree; rest = a.rest }
  factor_fixed (e.bare x) (e.bare y) xs ys s h = let a = primary_fixed x y xs ys (cc) h in
      record { tree = ap e.bare a.tree; rest = a.rest }
  factor_fixed _ _ xs ys s h = absurd cc

  pub term_fixed : Fixed (e.Term ℕ) (e.Term U) (term_to no_place) e.term_parts
  term_fixed (e.term x v) (e.term y w) xs ys s h =
      let a =
      factor_fixed x y _ _ (cc)
      (in_turn (e.factor_parts x) (e.factors_parts v) (e.factor_parts y) (e.factors_parts w) xs ys h) in
      let b = factors_fixed v w xs ys (cc) a.rest in
      record { tree = ap₂ e.term a.tree b.tree; rest = b.rest }

  pub factors_fixed : Fixed (e.Factors ℕ) (e.Factors U) (factors_to no_place) e.factors_parts
  factors_fixed e.no_factors e.no_factors xs ys s h = record { tree = refl; rest = h }
  factors_fixed (e.factor o x v) (e.factor p y w) xs ys s h =
      let g : o ≡ p = cc in
      let a =
      factor_fixed x y _ _ (cc)
      (in_turn (e.factor_parts x) (e.factors_parts v) (e.factor_parts y) (e.factors_parts w) xs ys h) in
      let b = factors_fixed v w xs ys (cc) a.rest in
      record { tree = ap (λ q. e.factor q x v) g ∙ ap₂ (e.factor p) a.tree b.tree; rest = b.rest }
  factors_fixed _ _ xs ys s h = absurd cc

  pub sum_fixed : Fixed (e.Sum ℕ) (e.Sum U) (sum_to no_place) e.sum_parts
  sum_fixed (e.total l x v) (e.total m y w) xs ys s h =
      let z =
      leading_fixed l m _ _ (cc)
      (in_turn (parts_if e.leading_parts l) (e.term_parts x ++ e.terms_parts v) (parts_if e.leading_parts m)
      (e.term_parts y ++ e.terms_parts w) xs ys h) in
      let a =
      term_fixed x y _ _ (cc) (in_turn (e.term_parts x) (e.terms_parts v) (e.term_parts y) (e.terms_parts w) xs
      ys z.rest) in
      let b = terms_fixed v w xs ys (cc) a.rest in
      record { tree = ap (λ q. e.total q x v) z.tree ∙ ap₂ (e.total m) a.tree b.tree; rest = b.rest }

  pub terms_fixed : Fixed (e.Terms ℕ) (e.Terms U) (terms_to no_place) e.terms_parts
  terms_fixed e.no_terms e.no_terms xs ys s h = record { tree = refl; rest = h }
  terms_fixed (e.add o x v) (e.add p y w) xs ys s h =
      let g : o ≡ p = cc in
      let a =
      term_fixed x y _ _ (cc) (in_turn (e.term_parts x) (e.terms_parts v) (e.term_parts y)
      (e.terms_parts w) xs ys h) in
      let b = terms_fixed v w xs ys (cc) a.rest in
      record { tree = ap (λ q. e.add q x v) g ∙ ap₂ (e.add p) a.tree b.tree; rest = b.rest }
  terms_fixed _ _ xs ys s h = absurd cc

  pub relation_fixed : Fixed (e.Relation ℕ) (e.Relation U) (relation_to no_place) e.relation_parts
  relation_fixed (e.single x) (e.single y) xs ys s h = let a = sum_fixed x y xs ys (cc) h in
      record { tree = ap e.single a.tree; rest = a.rest }
  relation_fixed (e.compared x o v) (e.compared y p w) xs ys s h =
      let g : o ≡ p = cc in
      let a =
      sum_fixed x y _ _ (cc) (in_turn (e.sum_parts x) (plain (e.relation_mark o) ∷ e.sum_parts v) (e.sum_parts y)
      (plain (e.relation_mark p) ∷ e.sum_parts w) xs ys h) in
      let b = sum_fixed v w xs ys (cc) a.rest in
      record { tree = ap (λ q. e.compared x q v) g ∙ ap₂ (λ q z. e.compared q p z) a.tree b.tree; rest = b.rest }
  relation_fixed _ _ xs ys s h = absurd cc

  pub expression_fixed : Fixed (e.Expression ℕ) (e.Expression U) (expression_to no_place) e.expression_parts
  expression_fixed (e.expression x v) (e.expression y w) xs ys s h =
      let a =
      relation_fixed x y _ _ (cc)
      (in_turn (e.relation_parts x) (e.relations_parts v) (e.relation_parts y) (e.relations_parts w) xs ys h) in
      let b = relations_fixed v w xs ys (cc) a.rest in
      record { tree = ap₂ e.expression a.tree b.tree; rest = b.rest }

  pub relations_fixed : Fixed (e.Relations ℕ) (e.Relations U) (relations_to no_place) e.relations_parts
  relations_fixed e.no_relations e.no_relations xs ys s h = record { tree = refl; rest = h }
  relations_fixed (e.join o x v) (e.join p y w) xs ys s h =
      let g : o ≡ p = cc in
      let i =
      sym (logic_none o (e.relation_parts x ++ e.relations_parts v) xs) ∙ h
      ∙ logic_none p (e.relation_parts y ++ e.relations_parts w) ys in
      let a =
      relation_fixed x y _ _ (cc)
      (in_turn (e.relation_parts x) (e.relations_parts v) (e.relation_parts y) (e.relations_parts w) xs ys i) in
      let b = relations_fixed v w xs ys (cc) a.rest in
      record { tree = ap (λ q. e.join q x v) g ∙ ap₂ (e.join p) a.tree b.tree; rest = b.rest }
  relations_fixed _ _ xs ys s h = absurd cc
