-- Symbols of expressions: the row's terminal and the parts of the following trees spell the tree that the row builds.
-- For the proof that a text has one tree.
use Rattle.std.proofs.Common.{◌≡◌, Bool, true, false, refl, List, [], ◌∷◌, ◌++◌, Option, Some, None}
use Rattle.std.proofs.lemmas.List.{append-nil}
use Rattle.aadl_tree.specs.declared.mark.Mark.TheVariants as k
use Rattle.aadl_tree.specs.declared.expressions.RelationOperator.{RelationOperator}
use Rattle.aadl_tree.specs.Terminals.{PlainTerminal, mark}
use Rattle.aadl_tree.specs.SpellingParts.{Spells}
use Rattle.aadl_tree.specs.Expressions as e
use Rattle.aadl_grammar.specs.proof.GrammarSymbols as s
use Rattle.aadl_grammar.specs.proof.ParseTable.{rows}
use Rattle.aadl_grammar.specs.proof.SymbolTrees.{NoPlace, compared_parts, relation_of, after_parts, and_join}
use Rattle.aadl_grammar.specs.proof.SymbolTrees.{or_join}
use Rattle.aadl_grammar.proofs.DerivationTrees.TreeBuilders.{AllGive, behind_give}
use Rattle.aadl_grammar.proofs.ProductionTrees.Expressions.{primary_builders, fresh_builders, factor_builders}
use Rattle.aadl_grammar.proofs.ProductionTrees.Expressions.{factor_joins, term_builders, term_joins, factors_builders}
use Rattle.aadl_grammar.proofs.ProductionTrees.Expressions.{sum_builders, sum_joins, terms_builders, compared_builders}
use Rattle.aadl_grammar.proofs.ProductionTrees.Expressions.{relation_builders, relation_joins, relations_builders}
use Rattle.aadl_grammar.proofs.ProductionTrees.Expressions.{after_and_builders, after_and_joins, after_or_builders}
use Rattle.aadl_grammar.proofs.ProductionTrees.Expressions.{after_or_joins, expression_builders, expression_joins}

relation_same : (u : e.Sum NoPlace) (c : Option (RelationOperator × e.Sum NoPlace))
    → e.sum_parts u ++ compared_parts c ≡ e.relation_parts (relation_of u c)
relation_same u None = append-nil _
relation_same u (Some c) = refl

and_gives : (y : Bool × e.Relation NoPlace) (z : e.Relations NoPlace) (ks rest : List PlainTerminal)
    → Spells (after_parts k.Then y ++ e.relations_parts z) ks rest
    → Spells (e.relations_parts (and_join y z)) (mark k.And ∷ ks) rest
and_gives (true, y) z ks rest sp = (ks, refl, sp)
and_gives (false, y) z ks rest sp = (ks, refl, sp)

or_gives : (y : Bool × e.Relation NoPlace) (z : e.Relations NoPlace) (ks rest : List PlainTerminal)
    → Spells (after_parts k.Else y ++ e.relations_parts z) ks rest
    → Spells (e.relations_parts (or_join y z)) (mark k.Or ∷ ks) rest
or_gives (true, y) z ks rest sp = (ks, refl, sp)
or_gives (false, y) z ks rest sp = (ks, refl, sp)

pub primary_give : AllGive s.primary (rows s.primary) primary_builders
primary_give = (
  (λ w ts ks rest sp. (ks, refl, sp)),
  (
    (λ w ts ks rest sp. (ks, refl, sp)),
    (
      (λ w ts ks rest sp. (ks, refl, sp)),
      ((λ w ts ks rest sp. (ks, refl, sp)), ((λ w ts ks rest sp. (ks, refl, sp)), tt)),
    ),
  ),
)

pub fresh_give : AllGive s.fresh (rows s.fresh) fresh_builders
fresh_give = ((λ w ts ks rest sp. (ks, refl, sp)), tt)

pub factor_give : AllGive s.factor (rows s.factor) factor_builders
factor_give = (
  (λ w ts ks rest sp. (ks, refl, sp)),
  (
    (λ w ts ks rest sp. (ks, refl, sp)),
    behind_give s.factor s.primary [] (rows s.primary) factor_joins primary_builders (λ u ts. append-nil _)
        primary_give,
  ),
)

pub term_give : AllGive s.term (rows s.term) term_builders
term_give =
    behind_give s.term s.factor (s.factors ∷ []) (rows s.factor) term_joins factor_builders (λ u ts. refl) factor_give

pub factors_give : AllGive s.factors (rows s.factors) factors_builders
factors_give = (
  (λ w ts ks rest sp. (ks, refl, sp)),
  (
    (λ w ts ks rest sp. (ks, refl, sp)),
    ((λ w ts ks rest sp. (ks, refl, sp)), ((λ w ts ks rest sp. (ks, refl, sp)), tt)),
  ),
)

pub sum_give : AllGive s.sum (rows s.sum) sum_builders
sum_give = (
  (λ w ts ks rest sp. (ks, refl, sp)),
  (
    (λ w ts ks rest sp. (ks, refl, sp)),
    behind_give s.sum s.term (s.terms ∷ []) (rows s.term) sum_joins term_builders (λ u ts. refl) term_give,
  ),
)

pub terms_give : AllGive s.terms (rows s.terms) terms_builders
terms_give = ((λ w ts ks rest sp. (ks, refl, sp)), ((λ w ts ks rest sp. (ks, refl, sp)), tt))

pub compared_give : AllGive s.compared (rows s.compared) compared_builders
compared_give = (
  (λ w ts ks rest sp. (ks, refl, sp)),
  (
    (λ w ts ks rest sp. (ks, refl, sp)),
    (
      (λ w ts ks rest sp. (ks, refl, sp)),
      (
        (λ w ts ks rest sp. (ks, refl, sp)),
        ((λ w ts ks rest sp. (ks, refl, sp)), ((λ w ts ks rest sp. (ks, refl, sp)), tt)),
      ),
    ),
  ),
)

pub relation_give : AllGive s.relation (rows s.relation) relation_builders
relation_give =
    behind_give s.relation s.sum (s.compared ∷ []) (rows s.sum) relation_joins sum_builders
    (λ u ts. relation_same u ts.0) sum_give

pub relations_give : AllGive s.relations (rows s.relations) relations_builders
relations_give = (
  (λ w ts ks rest sp. and_gives ts.0 ts.1.0 ks rest sp),
  ((λ w ts ks rest sp. or_gives ts.0 ts.1.0 ks rest sp), ((λ w ts ks rest sp. (ks, refl, sp)), tt)),
)

pub after_and_give : AllGive s.after_and (rows s.after_and) after_and_builders
after_and_give = (
  (λ w ts ks rest sp. (ks, refl, sp)),
  behind_give s.after_and s.relation [] (rows s.relation) after_and_joins relation_builders (λ u ts. append-nil _)
      relation_give,
)

pub after_or_give : AllGive s.after_or (rows s.after_or) after_or_builders
after_or_give = (
  (λ w ts ks rest sp. (ks, refl, sp)),
  behind_give s.after_or s.relation [] (rows s.relation) after_or_joins relation_builders (λ u ts. append-nil _)
      relation_give,
)

pub expression_give : AllGive s.expression (rows s.expression) expression_builders
expression_give =
    behind_give s.expression s.relation (s.relations ∷ []) (rows s.relation) expression_joins relation_builders
    (λ u ts. refl) relation_give
