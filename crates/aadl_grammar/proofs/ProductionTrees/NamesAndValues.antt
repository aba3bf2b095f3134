-- For each symbol of names, values and properties: the tree that each of its rows in the table builds. For the proof
-- that a text has one tree.
use Rattle.std.proofs.Common.{true, [], ◌∷◌, Some, None}
use Rattle.aadl_tree.specs.declared.mark.Mark.{Mark}
use Rattle.aadl_tree.specs.declared.expressions.Sign.TheVariants as signs
use Rattle.aadl_tree.specs.declared.values.AssociationOperator.TheVariants as operators
use Rattle.aadl_tree.specs.Values as v
use Rattle.aadl_grammar.specs.proof.GrammarSymbols as s
use Rattle.aadl_grammar.specs.proof.ParseTable.{rows}
use Rattle.aadl_grammar.specs.proof.SymbolTrees.{identifier_of}
use Rattle.aadl_grammar.proofs.DerivationTrees.ReferencesByFirstWord.{reference_of}
use Rattle.aadl_grammar.proofs.DerivationTrees.TreeBuilders.{Builders, Joins, behind_builders}

abbrev pub only_builders : (m : Mark) → Builders (s.only m) (rows (s.only m))
only_builders m = ((λ w ts. tt), tt)

abbrev pub identifier_builders : Builders s.identifier (rows s.identifier)
identifier_builders = ((λ w ts. identifier_of w), tt)

abbrev pub name_builders : Builders s.name (rows s.name)
name_builders = ((λ w ts. record { first = identifier_of w; rest = ts.0 }), tt)

abbrev pub names_builders : Builders s.names (rows s.names)
names_builders = ((λ w ts. ts.0.first ∷ ts.0.rest), tt)

abbrev pub path_builders : Builders s.path (rows s.path)
path_builders = ((λ w ts. record { first = identifier_of w; rest = ts.0 }), tt)

abbrev pub paths_builders : Builders s.paths (rows s.paths)
paths_builders = ((λ w ts. ts.0.first ∷ ts.0.rest), tt)

abbrev pub more_identifiers_builders : Builders s.more_identifiers (rows s.more_identifiers)
more_identifiers_builders = ((λ w ts. ts.0 ∷ ts.1.0), tt)

abbrev pub reference_builders : Builders s.reference (rows s.reference)
reference_builders = ((λ w ts. reference_of (identifier_of w) ts.0 ts.1.0), tt)

abbrev pub dot_identifier_builders : Builders s.dot_identifier (rows s.dot_identifier)
dot_identifier_builders = ((λ w ts. Some ts.0), tt)

abbrev pub figure_builders : Builders s.figure (rows s.figure)
figure_builders = ((λ w ts. v.whole_figure w), ((λ w ts. v.real_figure w), tt))

abbrev pub unit_builders : Builders s.unit (rows s.unit)
unit_builders = ((λ w ts. Some (identifier_of w)), tt)

abbrev pub quantity_builders : Builders s.quantity (rows s.quantity)
quantity_builders = (
  (λ w ts. record { number = record { sign = Some signs.Plus; figure = ts.0 }; unit = ts.1.0 }),
  (
    (λ w ts. record { number = record { sign = Some signs.Minus; figure = ts.0 }; unit = ts.1.0 }),
    (
      (λ w ts. record { number = record { sign = None; figure = v.whole_figure w }; unit = ts.0 }),
      ((λ w ts. record { number = record { sign = None; figure = v.real_figure w }; unit = ts.0 }), tt),
    ),
  ),
)

abbrev pub upper_builders : Builders s.upper (rows s.upper)
upper_builders = ((λ w ts. Some ts.0), tt)

abbrev pub value_joins : Joins s.value s.quantity (s.upper ∷ [])
value_joins u ts = v.number u ts.0

abbrev pub value_builders : Builders s.value (rows s.value)
value_builders = (
  (λ w ts. v.text w),
  (
    (λ w ts. v.named (reference_of (identifier_of w) ts.0 ts.1.0)),
    (
      (λ w ts. v.list ts.0),
      (
        (λ w ts. v.fields ts.0),
        (
          (λ w ts. v.reference ts.0),
          (
            (λ w ts. v.classifier ts.0),
            behind_builders s.value s.quantity (s.upper ∷ []) (rows s.quantity) value_joins
                quantity_builders,
          ),
        ),
      ),
    ),
  ),
)

abbrev pub path_group_builders : Builders s.path_group (rows s.path_group)
path_group_builders = ((λ w ts. ts.0), tt)

abbrev pub reference_group_builders : Builders s.reference_group (rows s.reference_group)
reference_group_builders = ((λ w ts. ts.0), tt)

abbrev pub values_joins : Joins s.values s.value (s.more_values ∷ [])
values_joins u ts = v.value u ts.0

abbrev pub values_builders : Builders s.values (rows s.values)
values_builders = behind_builders s.values s.value (s.more_values ∷ []) (rows s.value) values_joins value_builders

abbrev pub more_values_builders : Builders s.more_values (rows s.more_values)
more_values_builders = ((λ w ts. v.value ts.0 ts.1.0), tt)

abbrev pub operator_builders : Builders s.operator (rows s.operator)
operator_builders = ((λ w ts. operators.Becomes), ((λ w ts. operators.Appends), tt))

abbrev pub constant_builders : Builders s.constant (rows s.constant)
constant_builders = ((λ w ts. true), tt)

abbrev pub applies_builders : Builders s.applies (rows s.applies)
applies_builders = ((λ w ts. ts.1.0 ∷ ts.1.1.0), tt)

abbrev pub more_paths_builders : Builders s.more_paths (rows s.more_paths)
more_paths_builders = ((λ w ts. ts.0 ∷ ts.1.0), tt)

abbrev pub association_builders : Builders s.association (rows s.association)
association_builders = (
  (λ w ts. v.association (record { first = identifier_of w; rest = ts.0 }) ts.1.0 ts.1.1.0 ts.1.1.1.0 ts.1.1.1.1.0),
  tt,
)

abbrev pub associations_joins : Joins s.associations s.association (s.associations ∷ [])
associations_joins u ts = v.associate u ts.0

abbrev pub associations_builders : Builders s.associations (rows s.associations)
associations_builders =
    behind_builders s.associations s.association (s.associations ∷ []) (rows s.association) associations_joins
    association_builders

abbrev pub properties_builders : Builders s.properties (rows s.properties)
properties_builders = ((λ w ts. v.associate ts.0 ts.1.0), tt)
