-- For each symbol of declarations and packages: the tree that each of its rows in the table builds. For the proof
-- that a text has one tree.
use Rattle.std.proofs.Common.{[], ◌∷◌, Some}
use Rattle.aadl_tree.specs.declared.declarations.Category.TheVariants as categories
use Rattle.aadl_tree.specs.declared.declarations.Direction.TheVariants as directions
use Rattle.aadl_tree.specs.Values as v
use Rattle.aadl_grammar.specs.proof.GrammarSymbols as s
use Rattle.aadl_grammar.specs.proof.ParseTable.{rows}
use Rattle.aadl_grammar.specs.proof.SymbolTrees.{identifier_of, type_rest, implementation_rest, declaration_of}
use Rattle.aadl_grammar.proofs.DerivationTrees.TreeBuilders.{Builders, Joins, behind_builders}
use Rattle.aadl_grammar.proofs.ProductionTrees.NamesAndValues.{reference_builders, association_builders}

abbrev pub direction_builders : Builders s.direction (rows s.direction)
direction_builders = ((λ w ts. directions.In), ((λ w ts. directions.Out), tt))

abbrev pub category_builders : Builders s.category (rows s.category)
category_builders = ((λ w ts. categories.System), ((λ w ts. categories.Process), ((λ w ts. categories.Thread), tt)))

abbrev pub data_type_joins : Joins s.data_type s.reference []
data_type_joins u ts = Some u

abbrev pub data_type_builders : Builders s.data_type (rows s.data_type)
data_type_builders = behind_builders s.data_type s.reference [] (rows s.reference) data_type_joins reference_builders

abbrev pub feature_builders : Builders s.feature (rows s.feature)
feature_builders = (
  (λ w ts. record {
    name = identifier_of w;
    direction = ts.1.0;
    data_type = ts.1.1.1.1.0;
    properties = ts.1.1.1.1.1.0;
  }),
  tt,
)

abbrev pub subcomponent_builders : Builders s.subcomponent (rows s.subcomponent)
subcomponent_builders =
    ((λ w ts. record { name = identifier_of w; category = ts.1.0; classifier = ts.1.1.0; properties = ts.1.1.1.0 }), tt)

abbrev pub connection_end_builders : Builders s.connection_end (rows s.connection_end)
connection_end_builders = ((λ w ts. record { first = identifier_of w; second = ts.0 }), tt)

abbrev pub connection_builders : Builders s.connection (rows s.connection)
connection_builders = (
  (λ w ts. record {
    name = identifier_of w;
    source = ts.1.1.0;
    target = ts.1.1.1.1.0;
    properties = ts.1.1.1.1.1.0;
  }),
  tt,
)

abbrev pub feature_list_joins : Joins s.feature_list s.feature (s.feature_list ∷ [])
feature_list_joins u ts = u ∷ ts.0

abbrev pub feature_list_builders : Builders s.feature_list (rows s.feature_list)
feature_list_builders =
    behind_builders s.feature_list s.feature (s.feature_list ∷ []) (rows s.feature) feature_list_joins feature_builders

abbrev pub feature_section_joins : Joins s.feature_section s.feature (s.feature_list ∷ [])
feature_section_joins u ts = u ∷ ts.0

abbrev pub feature_section_builders : Builders s.feature_section (rows s.feature_section)
feature_section_builders = (
  (λ w ts. []),
  behind_builders s.feature_section s.feature (s.feature_list ∷ []) (rows s.feature)
      feature_section_joins feature_builders,
)

abbrev pub features_builders : Builders s.features (rows s.features)
features_builders = ((λ w ts. ts.0), tt)

abbrev pub subcomponent_list_joins : Joins s.subcomponent_list s.subcomponent (s.subcomponent_list ∷ [])
subcomponent_list_joins u ts = u ∷ ts.0

abbrev pub subcomponent_list_builders : Builders s.subcomponent_list (rows s.subcomponent_list)
subcomponent_list_builders =
    behind_builders s.subcomponent_list s.subcomponent (s.subcomponent_list ∷ []) (rows s.subcomponent)
    subcomponent_list_joins subcomponent_builders

abbrev pub subcomponent_section_joins : Joins s.subcomponent_section s.subcomponent (s.subcomponent_list ∷ [])
subcomponent_section_joins u ts = u ∷ ts.0

abbrev pub subcomponent_section_builders : Builders s.subcomponent_section (rows s.subcomponent_section)
subcomponent_section_builders = (
  (λ w ts. []),
  behind_builders s.subcomponent_section s.subcomponent (s.subcomponent_list ∷ [])
      (rows s.subcomponent) subcomponent_section_joins subcomponent_builders,
)

abbrev pub subcomponents_builders : Builders s.subcomponents (rows s.subcomponents)
subcomponents_builders = ((λ w ts. ts.0), tt)

abbrev pub connection_list_joins : Joins s.connection_list s.connection (s.connection_list ∷ [])
connection_list_joins u ts = u ∷ ts.0

abbrev pub connection_list_builders : Builders s.connection_list (rows s.connection_list)
connection_list_builders =
    behind_builders s.connection_list s.connection (s.connection_list ∷ []) (rows s.connection) connection_list_joins
    connection_builders

abbrev pub connection_section_joins : Joins s.connection_section s.connection (s.connection_list ∷ [])
connection_section_joins u ts = u ∷ ts.0

abbrev pub connection_section_builders : Builders s.connection_section (rows s.connection_section)
connection_section_builders = (
  (λ w ts. []),
  behind_builders s.connection_section s.connection (s.connection_list ∷ []) (rows s.connection)
      connection_section_joins connection_builders,
)

abbrev pub connections_builders : Builders s.connections (rows s.connections)
connections_builders = ((λ w ts. ts.0), tt)

abbrev pub property_section_joins : Joins s.property_section s.association (s.associations ∷ [])
property_section_joins u ts = v.associate u ts.0

abbrev pub property_section_builders : Builders s.property_section (rows s.property_section)
property_section_builders = (
  (λ w ts. v.no_associations),
  behind_builders s.property_section s.association (s.associations ∷ []) (rows s.association)
      property_section_joins association_builders,
)

abbrev pub own_properties_builders : Builders s.own_properties (rows s.own_properties)
own_properties_builders = ((λ w ts. ts.0), tt)

abbrev pub implementation_name_builders : Builders s.implementation_name (rows s.implementation_name)
implementation_name_builders = ((λ w ts. record { component_type = identifier_of w; implementation = ts.1.0 }), tt)

abbrev pub type_end_builders : Builders s.type_end (rows s.type_end)
type_end_builders = ((λ w ts. ts.0), tt)

abbrev pub implementation_end_builders : Builders s.implementation_end (rows s.implementation_end)
implementation_end_builders = ((λ w ts. ts.0), tt)

abbrev pub package_end_builders : Builders s.package_end (rows s.package_end)
package_end_builders = ((λ w ts. ts.0), tt)

abbrev pub after_category_builders : Builders s.after_category (rows s.after_category)
after_category_builders = (
  (λ w ts. type_rest (identifier_of w) ts.0 ts.1.0 ts.1.1.0 ts.1.1.1.0),
  ((λ w ts. implementation_rest ts.0 ts.1.0 ts.1.1.0 ts.1.1.1.0 ts.1.1.1.1.0 ts.1.1.1.1.1.0), tt),
)

abbrev pub declarations_builders : Builders s.declarations (rows s.declarations)
declarations_builders = (
  (λ w ts. declaration_of categories.System ts.0 ∷ ts.1.0),
  (
    (λ w ts. declaration_of categories.Process ts.0 ∷ ts.1.0),
    ((λ w ts. declaration_of categories.Thread ts.0 ∷ ts.1.0), tt),
  ),
)

abbrev pub more_names_builders : Builders s.more_names (rows s.more_names)
more_names_builders = ((λ w ts. ts.0 ∷ ts.1.0), tt)

abbrev pub withs_builders : Builders s.withs (rows s.withs)
withs_builders = ((λ w ts. record { first = ts.0; rest = ts.1.0 } ∷ ts.1.1.1.0), tt)

abbrev pub a_package_builders : Builders s.a_package (rows s.a_package)
a_package_builders =
    ((λ w ts. record { name = ts.0; withs = ts.1.1.0; declarations = ts.1.1.1.0; end_name = ts.1.1.1.1.0 }), tt)
