-- For each symbol of expressions: the tree that each of its rows in the table builds. For the proof that a text has
-- one tree.
use Rattle.std.proofs.Common.{true, false, [], ◌∷◌, Some, None}
use Rattle.aadl_tree.specs.declared.expressions.Sign.TheVariants as signs
use Rattle.aadl_tree.specs.declared.expressions.LogicOperator.TheVariants as logic
use Rattle.aadl_tree.specs.declared.expressions.RelationOperator.TheVariants as compare
use Rattle.aadl_tree.specs.declared.expressions.MultiplyOperator.TheVariants as multiply
use Rattle.aadl_tree.specs.Expressions as e
use Rattle.aadl_grammar.specs.proof.GrammarSymbols as s
use Rattle.aadl_grammar.specs.proof.ParseTable.{rows}
use Rattle.aadl_grammar.specs.proof.SymbolTrees.{identifier_of, relation_of, and_join, or_join}
use Rattle.aadl_grammar.proofs.DerivationTrees.TreeBuilders.{Builders, Joins, behind_builders}

abbrev pub primary_builders : Builders s.primary (rows s.primary)
primary_builders = (
  (λ w ts. e.number tt w),
  (
    (λ w ts. e.truth tt true),
    ((λ w ts. e.truth tt false), ((λ w ts. e.named (identifier_of w) ts.0), ((λ w ts. e.group tt ts.0), tt))),
  ),
)

abbrev pub fresh_builders : Builders s.fresh (rows s.fresh)
fresh_builders = ((λ w ts. true), tt)

abbrev pub factor_joins : Joins s.factor s.primary []
factor_joins u ts = e.bare u

abbrev pub factor_builders : Builders s.factor (rows s.factor)
factor_builders = (
  (λ w ts. e.absolute tt ts.0),
  (
    (λ w ts. e.negated tt ts.0),
    behind_builders s.factor s.primary [] (rows s.primary) factor_joins primary_builders,
  ),
)

abbrev pub term_joins : Joins s.term s.factor (s.factors ∷ [])
term_joins u ts = e.term u ts.0

abbrev pub term_builders : Builders s.term (rows s.term)
term_builders = behind_builders s.term s.factor (s.factors ∷ []) (rows s.factor) term_joins factor_builders

abbrev pub factors_builders : Builders s.factors (rows s.factors)
factors_builders = (
  (λ w ts. e.factor multiply.Times ts.0 ts.1.0),
  (
    (λ w ts. e.factor multiply.Divide ts.0 ts.1.0),
    ((λ w ts. e.factor multiply.Mod ts.0 ts.1.0), ((λ w ts. e.factor multiply.Rem ts.0 ts.1.0), tt)),
  ),
)

abbrev pub sum_joins : Joins s.sum s.term (s.terms ∷ [])
sum_joins u ts = e.total None u ts.0

abbrev pub sum_builders : Builders s.sum (rows s.sum)
sum_builders = (
  (λ w ts. e.total (Some (record { at = tt; sign = signs.Plus })) ts.0 ts.1.0),
  (
    (λ w ts. e.total (Some (record { at = tt; sign = signs.Minus })) ts.0 ts.1.0),
    behind_builders s.sum s.term (s.terms ∷ []) (rows s.term) sum_joins term_builders,
  ),
)

abbrev pub terms_builders : Builders s.terms (rows s.terms)
terms_builders = ((λ w ts. e.add signs.Plus ts.0 ts.1.0), ((λ w ts. e.add signs.Minus ts.0 ts.1.0), tt))

abbrev pub compared_builders : Builders s.compared (rows s.compared)
compared_builders = (
  (λ w ts. Some (compare.Equal, ts.0)),
  (
    (λ w ts. Some (compare.NotEqual, ts.0)),
    (
      (λ w ts. Some (compare.Less, ts.0)),
      (
        (λ w ts. Some (compare.LessOrEqual, ts.0)),
        ((λ w ts. Some (compare.Greater, ts.0)), ((λ w ts. Some (compare.GreaterOrEqual, ts.0)), tt)),
      ),
    ),
  ),
)

abbrev pub relation_joins : Joins s.relation s.sum (s.compared ∷ [])
relation_joins u ts = relation_of u ts.0

abbrev pub relation_builders : Builders s.relation (rows s.relation)
relation_builders = behind_builders s.relation s.sum (s.compared ∷ []) (rows s.sum) relation_joins sum_builders

abbrev pub relations_builders : Builders s.relations (rows s.relations)
relations_builders =
    ((λ w ts. and_join ts.0 ts.1.0), ((λ w ts. or_join ts.0 ts.1.0), ((λ w ts. e.join logic.Xor ts.0 ts.1.0), tt)))

abbrev pub after_and_joins : Joins s.after_and s.relation []
after_and_joins u ts = (false, u)

abbrev pub after_and_builders : Builders s.after_and (rows s.after_and)
after_and_builders = (
  (λ w ts. (true, ts.0)),
  behind_builders s.after_and s.relation [] (rows s.relation) after_and_joins relation_builders,
)

abbrev pub after_or_joins : Joins s.after_or s.relation []
after_or_joins u ts = (false, u)

abbrev pub after_or_builders : Builders s.after_or (rows s.after_or)
after_or_builders = (
  (λ w ts. (true, ts.0)),
  behind_builders s.after_or s.relation [] (rows s.relation) after_or_joins relation_builders,
)

abbrev pub expression_joins : Joins s.expression s.relation (s.relations ∷ [])
expression_joins u ts = e.expression u ts.0

abbrev pub expression_builders : Builders s.expression (rows s.expression)
expression_builders =
    behind_builders s.expression s.relation (s.relations ∷ []) (rows s.relation) expression_joins relation_builders
