-- Symbols of names, values and properties: a row of its symbol builds each tree that terminals spell, unless the
-- symbol is omitted. For the proof that a text has one tree.
use Rattle.std.proofs.Common.{true, false, ap, refl, List, [], ◌∷◌, Option, Some, None, append_assoc, inl, inr}
use Rattle.aadl_tree.specs.declared.mark.Mark.TheVariants as k
use Rattle.aadl_tree.specs.declared.expressions.Sign.{Sign}
use Rattle.aadl_tree.specs.declared.expressions.Sign.TheVariants as signs
use Rattle.aadl_tree.specs.declared.values.AssociationOperator.TheVariants as operators
use Rattle.aadl_tree.specs.Terminals.{PlainTerminal}
use Rattle.aadl_tree.specs.SpellingParts.{Spells, plain}
use Rattle.aadl_tree.specs.Names as n
use Rattle.aadl_tree.specs.Values as v
use Rattle.aadl_grammar.specs.proof.GrammarSymbols as s
use Rattle.aadl_grammar.specs.proof.ParseTable.{rows}
use Rattle.aadl_grammar.specs.proof.SymbolTrees.{NoPlace, parts}
use Rattle.aadl_grammar.proofs.DerivationTrees.ReferencesByFirstWord.{chain_of}
use Rattle.aadl_grammar.proofs.DerivationTrees.TreeBuilders.{respell, InRows, behind_opens, uses, Opens, OpensOr}
use Rattle.aadl_grammar.proofs.ProductionTrees.NamesAndValues.{identifier_builders, name_builders, names_builders}
use Rattle.aadl_grammar.proofs.ProductionTrees.NamesAndValues.{path_builders, paths_builders, more_identifiers_builders}
use Rattle.aadl_grammar.proofs.ProductionTrees.NamesAndValues.{reference_builders, dot_identifier_builders}
use Rattle.aadl_grammar.proofs.ProductionTrees.NamesAndValues.{figure_builders, unit_builders, quantity_builders}
use Rattle.aadl_grammar.proofs.ProductionTrees.NamesAndValues.{upper_builders, value_builders, value_joins}
use Rattle.aadl_grammar.proofs.ProductionTrees.NamesAndValues.{path_group_builders, reference_group_builders}
use Rattle.aadl_grammar.proofs.ProductionTrees.NamesAndValues.{values_builders, values_joins, more_values_builders}
use Rattle.aadl_grammar.proofs.ProductionTrees.NamesAndValues.{operator_builders, constant_builders, applies_builders}
use Rattle.aadl_grammar.proofs.ProductionTrees.NamesAndValues.{more_paths_builders, association_builders}
use Rattle.aadl_grammar.proofs.ProductionTrees.NamesAndValues.{associations_builders, associations_joins}
use Rattle.aadl_grammar.proofs.ProductionTrees.NamesAndValues.{properties_builders}

pub identifier_opens : Opens s.identifier identifier_builders
identifier_opens t ks rest (more, e, sp) = inl (uses t.spelling tt more e sp)

pub name_opens : Opens s.name name_builders
name_opens t ks rest (more, e, sp) = inl (uses t.first.spelling (t.rest, tt) more e sp)

pub names_opens : OpensOr s.names names_builders []
names_opens [] ks rest e = inr (refl, e)
names_opens (x ∷ xs) ks rest (more, e, sp) = inl (inl (uses tt (record { first = x; rest = xs }, tt) more e sp))

pub path_opens : Opens s.path path_builders
path_opens t ks rest (more, e, sp) = inl (uses t.first.spelling (t.rest, tt) more e sp)

pub paths_opens : OpensOr s.paths paths_builders []
paths_opens [] ks rest e = inr (refl, e)
paths_opens (x ∷ xs) ks rest (more, e, sp) = inl (inl (uses tt (record { first = x; rest = xs }, tt) more e sp))

pub more_identifiers_opens : OpensOr s.more_identifiers more_identifiers_builders []
more_identifiers_opens [] ks rest e = inr (refl, e)
more_identifiers_opens (x ∷ xs) ks rest (more, e, sp) = inl (inl (uses tt (x, (xs, tt)) more e sp))

pub reference_opens : Opens s.reference reference_builders
reference_opens t ks rest sp =
    let c = chain_of t ks rest sp in
    inl (record {
      content = c.first;
      trees = (c.others, (t.implementation, tt));
      more = c.more;
      made = c.made;
      whole = c.whole;
      spelled = c.spelled;
    })

pub dot_identifier_opens : OpensOr s.dot_identifier dot_identifier_builders None
dot_identifier_opens None ks rest e = inr (refl, e)
dot_identifier_opens (Some x) ks rest (more, e, sp) = inl (inl (uses tt (x, tt) more e sp))

pub figure_opens : Opens s.figure figure_builders
figure_opens (v.whole_figure n) ks rest (more, e, sp) = inl (uses n tt more e sp)
figure_opens (v.real_figure n) ks rest (more, e, sp) = inr (inl (uses n tt more e sp))

pub unit_opens : OpensOr s.unit unit_builders None
unit_opens None ks rest e = inr (refl, e)
unit_opens (Some x) ks rest (more, e, sp) = inl (inl (uses x.spelling tt more e sp))

quantity_by : (sign : Option Sign) (g : v.UnsignedNumber) (u : Option (n.Identifier NoPlace))
    (ks rest : List PlainTerminal)
    → Spells (parts s.quantity (record { number = record { sign = sign; figure = g }; unit = u })) ks rest
    → InRows s.quantity (rows s.quantity) quantity_builders
    (record { number = record { sign = sign; figure = g }; unit = u }) ks rest
quantity_by None (v.whole_figure w) u ks rest (more, e, sp) = inr (inr (inl (uses w (u, tt) more e sp)))
quantity_by None (v.real_figure w) u ks rest (more, e, sp) = inr (inr (inr (inl (uses w (u, tt) more e sp))))
quantity_by (Some signs.Plus) g u ks rest (more, e, sp) = inl (uses tt (g, (u, tt)) more e sp)
quantity_by (Some signs.Minus) g u ks rest (more, e, sp) = inr (inl (uses tt (g, (u, tt)) more e sp))

pub quantity_opens : Opens s.quantity quantity_builders
quantity_opens t ks rest sp = quantity_by t.number.sign t.number.figure t.unit ks rest sp

pub upper_opens : OpensOr s.upper upper_builders None
upper_opens None ks rest e = inr (refl, e)
upper_opens (Some x) ks rest (more, e, sp) = inl (inl (uses tt (x, tt) more e sp))

pub value_opens : Opens s.value value_builders
value_opens (v.text x) ks rest (more, e, sp) = inl (uses x tt more e sp)
value_opens (v.named x) ks rest sp =
    let c = chain_of x ks rest sp in
    inr (inl (record {
      content = c.first;
      trees = (c.others, (x.implementation, tt));
      more = c.more;
      made = ap v.named c.made;
      whole = c.whole;
      spelled = c.spelled;
    }))
value_opens (v.list x) ks rest (more, e, sp) = inr (inr (inl (uses tt (x, (tt, tt)) more e sp)))
value_opens (v.fields x) ks rest (more, e, sp) = inr (inr (inr (inl (uses tt (x, (tt, tt)) more e sp))))
value_opens (v.reference x) ks rest (more, e, sp) = inr (inr (inr (inr (inl (uses tt (x, tt) more e sp)))))
value_opens (v.classifier x) ks rest (more, e, sp) = inr (inr (inr (inr (inr (inl (uses tt (x, tt) more e sp))))))
value_opens (v.number x y) ks rest sp =
    inr (inr (inr (inr (inr (inr
    (behind_opens s.value s.quantity (s.upper ∷ []) (rows s.quantity) value_joins quantity_builders x (y, tt) ks
    rest (quantity_opens x ks) sp))))))

pub path_group_opens : Opens s.path_group path_group_builders
path_group_opens t ks rest (more, e, sp) = inl (uses tt (t, (tt, tt)) more e sp)

pub reference_group_opens : Opens s.reference_group reference_group_builders
reference_group_opens t ks rest (more, e, sp) = inl (uses tt (t, (tt, tt)) more e sp)

pub values_opens : OpensOr s.values values_builders v.no_values
values_opens v.no_values ks rest e = inr (refl, e)
values_opens (v.value x y) ks rest sp =
    inl (behind_opens s.values s.value (s.more_values ∷ []) (rows s.value) values_joins value_builders x (y, tt) ks rest
    (value_opens x ks) sp)

pub more_values_opens : OpensOr s.more_values more_values_builders v.no_values
more_values_opens v.no_values ks rest e = inr (refl, e)
more_values_opens (v.value x y) ks rest (more, e, sp) = inl (inl (uses tt (x, (y, tt)) more e sp))

pub operator_opens : Opens s.operator operator_builders
operator_opens operators.Becomes ks rest (more, e, sp) = inl (uses tt tt more e sp)
operator_opens operators.Appends ks rest (more, e, sp) = inr (inl (uses tt tt more e sp))

pub constant_opens : OpensOr s.constant constant_builders false
constant_opens false ks rest e = inr (refl, e)
constant_opens true ks rest (more, e, sp) = inl (inl (uses tt tt more e sp))

pub applies_opens : OpensOr s.applies applies_builders []
applies_opens [] ks rest e = inr (refl, e)
applies_opens (x ∷ xs) ks rest (more, e, sp) = inl (inl (uses tt (tt, (x, (xs, tt))) more e sp))

pub more_paths_opens : OpensOr s.more_paths more_paths_builders []
more_paths_opens [] ks rest e = inr (refl, e)
more_paths_opens (x ∷ xs) ks rest (more, e, sp) = inl (inl (uses tt (x, (xs, tt)) more e sp))

pub association_opens : Opens s.association association_builders
association_opens (v.association name operator constant x paths) ks rest (more, e, sp) =
    inl (uses name.first.spelling (name.rest, (operator, (constant, (x, (paths, (tt, tt)))))) more e sp)

pub associations_opens : OpensOr s.associations associations_builders v.no_associations
associations_opens v.no_associations ks rest e = inr (refl, e)
associations_opens (v.associate x y) ks rest sp =
    inl (behind_opens s.associations s.association (s.associations ∷ []) (rows s.association) associations_joins
    association_builders x (y, tt) ks rest (association_opens x ks) sp)

pub properties_opens : OpensOr s.properties properties_builders v.no_associations
properties_opens v.no_associations ks rest e = inr (refl, e)
properties_opens (v.associate x y) ks rest (more, e, sp) =
    inl (inl (uses tt (x, (y, (tt, tt))) more e
    (respell _ _ more rest (append_assoc (v.association_parts x) (v.associations_parts y)
    (plain k.BraceClose ∷ [])) sp)))
