-- Symbols of expressions: a row of its symbol builds each tree that terminals spell, unless the symbol is omitted.
-- For the proof that a text has one tree.
use Rattle.std.proofs.Common.{true, false, sym, refl, List, [], ◌∷◌, Some, None, inl, inr}
use Rattle.std.proofs.lemmas.List.{append-nil}
use Rattle.aadl_tree.specs.declared.expressions.Sign.{Sign}
use Rattle.aadl_tree.specs.declared.expressions.Sign.TheVariants as signs
use Rattle.aadl_tree.specs.declared.expressions.LogicOperator.TheVariants as logic
use Rattle.aadl_tree.specs.declared.expressions.RelationOperator.{RelationOperator}
use Rattle.aadl_tree.specs.declared.expressions.RelationOperator.TheVariants as compare
use Rattle.aadl_tree.specs.declared.expressions.MultiplyOperator.TheVariants as multiply
use Rattle.aadl_tree.specs.Terminals.{PlainTerminal}
use Rattle.aadl_tree.specs.SpellingParts.{Spells}
use Rattle.aadl_tree.specs.Expressions as e
use Rattle.aadl_grammar.specs.proof.GrammarSymbols as s
use Rattle.aadl_grammar.specs.proof.ParseTable.{rows}
use Rattle.aadl_grammar.specs.proof.SymbolTrees.{NoPlace, parts}
use Rattle.aadl_grammar.proofs.DerivationTrees.TreeBuilders.{respell, InRows, behind_opens, uses, Opens, OpensOr}
use Rattle.aadl_grammar.proofs.ProductionTrees.Expressions.{primary_builders, fresh_builders, factor_builders}
use Rattle.aadl_grammar.proofs.ProductionTrees.Expressions.{factor_joins, term_builders, term_joins, factors_builders}
use Rattle.aadl_grammar.proofs.ProductionTrees.Expressions.{sum_builders, sum_joins, terms_builders, compared_builders}
use Rattle.aadl_grammar.proofs.ProductionTrees.Expressions.{relation_builders, relation_joins, relations_builders}
use Rattle.aadl_grammar.proofs.ProductionTrees.Expressions.{after_and_builders, after_and_joins, after_or_builders}
use Rattle.aadl_grammar.proofs.ProductionTrees.Expressions.{after_or_joins, expression_builders, expression_joins}

pub primary_opens : Opens s.primary primary_builders
primary_opens (e.number at x) ks rest (more, e, sp) = inl (uses x tt more e sp)
primary_opens (e.truth at true) ks rest (more, e, sp) = inr (inl (uses tt tt more e sp))
primary_opens (e.truth at false) ks rest (more, e, sp) = inr (inr (inl (uses tt tt more e sp)))
primary_opens (e.named x f) ks rest (more, e, sp) = inr (inr (inr (inl (uses x.spelling (f, tt) more e sp))))
primary_opens (e.group at x) ks rest (more, e, sp) = inr (inr (inr (inr (inl (uses tt (x, (tt, tt)) more e sp)))))

pub fresh_opens : OpensOr s.fresh fresh_builders false
fresh_opens false ks rest e = inr (refl, e)
fresh_opens true ks rest (more, e, sp) = inl (inl (uses tt (tt, tt) more e sp))

pub factor_opens : Opens s.factor factor_builders
factor_opens (e.absolute at x) ks rest (more, e, sp) = inl (uses tt (x, tt) more e sp)
factor_opens (e.negated at x) ks rest (more, e, sp) = inr (inl (uses tt (x, tt) more e sp))
factor_opens (e.bare x) ks rest sp =
    inr (inr (behind_opens s.factor s.primary [] (rows s.primary) factor_joins primary_builders x tt ks rest
    (primary_opens x ks) (respell _ _ ks rest (sym (append-nil (parts s.primary x))) sp)))

pub term_opens : Opens s.term term_builders
term_opens (e.term x y) ks rest sp =
    behind_opens s.term s.factor (s.factors ∷ []) (rows s.factor) term_joins factor_builders x (y, tt) ks rest
    (factor_opens x ks) sp

pub factors_opens : OpensOr s.factors factors_builders e.no_factors
factors_opens e.no_factors ks rest e = inr (refl, e)
factors_opens (e.factor multiply.Times x y) ks rest (more, e, sp) = inl (inl (uses tt (x, (y, tt)) more e sp))
factors_opens (e.factor multiply.Divide x y) ks rest (more, e, sp) = inl (inr (inl (uses tt (x, (y, tt)) more e sp)))
factors_opens (e.factor multiply.Mod x y) ks rest (more, e, sp) = inl (inr (inr (inl (uses tt (x, (y, tt)) more e sp))))
factors_opens (e.factor multiply.Rem x y) ks rest (more, e, sp) =
    inl (inr (inr (inr (inl (uses tt (x, (y, tt)) more e sp)))))

sum_signed : (sign : Sign) (x : e.Term NoPlace) (y : e.Terms NoPlace) (ks rest : List PlainTerminal)
    → Spells (parts s.sum (e.total (Some (record { at = tt; sign = sign })) x y)) ks rest
    → InRows s.sum (rows s.sum) sum_builders (e.total (Some (record { at = tt; sign = sign })) x y) ks rest
sum_signed signs.Plus x y ks rest (more, e, sp) = inl (uses tt (x, (y, tt)) more e sp)
sum_signed signs.Minus x y ks rest (more, e, sp) = inr (inl (uses tt (x, (y, tt)) more e sp))

pub sum_opens : Opens s.sum sum_builders
sum_opens (e.total (Some l) x y) ks rest sp = sum_signed l.sign x y ks rest sp
sum_opens (e.total None x y) ks rest sp =
    inr (inr (behind_opens s.sum s.term (s.terms ∷ []) (rows s.term) sum_joins term_builders x (y, tt) ks rest
    (term_opens x ks) sp))

pub terms_opens : OpensOr s.terms terms_builders e.no_terms
terms_opens e.no_terms ks rest e = inr (refl, e)
terms_opens (e.add signs.Plus x y) ks rest (more, e, sp) = inl (inl (uses tt (x, (y, tt)) more e sp))
terms_opens (e.add signs.Minus x y) ks rest (more, e, sp) = inl (inr (inl (uses tt (x, (y, tt)) more e sp)))

compared_by : (o : RelationOperator) (x : e.Sum NoPlace) (ks rest : List PlainTerminal)
    → Spells (parts s.compared (Some (o, x))) ks rest
    → InRows s.compared (rows s.compared) compared_builders (Some (o, x)) ks rest
compared_by compare.Equal x ks rest (more, e, sp) = inl (uses tt (x, tt) more e sp)
compared_by compare.NotEqual x ks rest (more, e, sp) = inr (inl (uses tt (x, tt) more e sp))
compared_by compare.Less x ks rest (more, e, sp) = inr (inr (inl (uses tt (x, tt) more e sp)))
compared_by compare.LessOrEqual x ks rest (more, e, sp) = inr (inr (inr (inl (uses tt (x, tt) more e sp))))
compared_by compare.Greater x ks rest (more, e, sp) = inr (inr (inr (inr (inl (uses tt (x, tt) more e sp)))))
compared_by compare.GreaterOrEqual x ks rest (more, e, sp) =
    inr (inr (inr (inr (inr (inl (uses tt (x, tt) more e sp))))))

pub compared_opens : OpensOr s.compared compared_builders None
compared_opens None ks rest e = inr (refl, e)
compared_opens (Some c) ks rest sp = inl (compared_by c.0 c.1 ks rest sp)

pub relation_opens : Opens s.relation relation_builders
relation_opens (e.single x) ks rest sp =
    behind_opens s.relation s.sum (s.compared ∷ []) (rows s.sum) relation_joins sum_builders x (None, tt) ks rest
    (sum_opens x ks) (respell _ _ ks rest (sym (append-nil (parts s.sum x))) sp)
relation_opens (e.compared x o y) ks rest sp =
    behind_opens s.relation s.sum (s.compared ∷ []) (rows s.sum) relation_joins sum_builders x (Some (o, y), tt) ks rest
    (sum_opens x ks) sp

pub relations_opens : OpensOr s.relations relations_builders e.no_relations
relations_opens e.no_relations ks rest e = inr (refl, e)
relations_opens (e.join logic.And x y) ks rest (more, e, sp) = inl (inl (uses tt ((false, x), (y, tt)) more e sp))
relations_opens (e.join logic.AndThen x y) ks rest (more, e, sp) = inl (inl (uses tt ((true, x), (y, tt)) more e sp))
relations_opens (e.join logic.Or x y) ks rest (more, e, sp) = inl (inr (inl (uses tt ((false, x), (y, tt)) more e sp)))
relations_opens (e.join logic.OrElse x y) ks rest (more, e, sp) =
    inl (inr (inl (uses tt ((true, x), (y, tt)) more e sp)))
relations_opens (e.join logic.Xor x y) ks rest (more, e, sp) = inl (inr (inr (inl (uses tt (x, (y, tt)) more e sp))))

pub after_and_opens : Opens s.after_and after_and_builders
after_and_opens (true, x) ks rest (more, e, sp) = inl (uses tt (x, tt) more e sp)
after_and_opens (false, x) ks rest sp =
    inr (behind_opens s.after_and s.relation [] (rows s.relation) after_and_joins relation_builders x tt ks rest
    (relation_opens x ks) (respell _ _ ks rest (sym (append-nil (parts s.relation x))) sp))

pub after_or_opens : Opens s.after_or after_or_builders
after_or_opens (true, x) ks rest (more, e, sp) = inl (uses tt (x, tt) more e sp)
after_or_opens (false, x) ks rest sp =
    inr (behind_opens s.after_or s.relation [] (rows s.relation) after_or_joins relation_builders x tt ks rest
    (relation_opens x ks) (respell _ _ ks rest (sym (append-nil (parts s.relation x))) sp))

pub expression_opens : Opens s.expression expression_builders
expression_opens (e.expression x y) ks rest sp =
    behind_opens s.expression s.relation (s.relations ∷ []) (rows s.relation) expression_joins relation_builders x
    (y, tt) ks rest (relation_opens x ks) sp
