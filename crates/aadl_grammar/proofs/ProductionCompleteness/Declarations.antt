-- Symbols of declarations and packages: a row of its symbol builds each tree that terminals spell, unless the symbol
-- is omitted. For the proof that a text has one tree.
use Rattle.std.proofs.Common.{sym, refl, List, [], ◌∷◌, ◌++◌, Some, None, flat_map, inl, inr}
use Rattle.std.proofs.lemmas.List.{append-nil}
use Rattle.aadl_tree.specs.declared.mark.Mark.TheVariants as k
use Rattle.aadl_tree.specs.declared.declarations.Category.{Category}
use Rattle.aadl_tree.specs.declared.declarations.Category.TheVariants as categories
use Rattle.aadl_tree.specs.declared.declarations.Direction.TheVariants as directions
use Rattle.aadl_tree.specs.Terminals.{PlainTerminal, mark}
use Rattle.aadl_tree.specs.SpellingParts.{token, Spells}
use Rattle.aadl_tree.specs.SpellingParts as p
use Rattle.aadl_tree.specs.Names as n
use Rattle.aadl_tree.specs.Values as v
use Rattle.aadl_tree.specs.Declarations as d
use Rattle.aadl_grammar.specs.proof.GrammarSymbols as s
use Rattle.aadl_grammar.specs.proof.ParseTable.{rows}
use Rattle.aadl_grammar.specs.proof.SymbolTrees.{NoPlace, DeclarationRest, type_rest, implementation_rest}
use Rattle.aadl_grammar.specs.proof.SymbolTrees.{declaration_of}
use Rattle.aadl_grammar.specs.proof.SymbolTrees.{rest_parts, parts}
use Rattle.aadl_grammar.proofs.DerivationTrees.TreeBuilders.{respell, InRows, behind_opens, uses, Opens, OpensOr}
use Rattle.aadl_grammar.proofs.ProductionTrees.NamesAndValues.{reference_builders, association_builders}
use Rattle.aadl_grammar.proofs.ProductionTrees.Declarations.{direction_builders, category_builders, data_type_builders}
use Rattle.aadl_grammar.proofs.ProductionTrees.Declarations.{data_type_joins, feature_builders, subcomponent_builders}
use Rattle.aadl_grammar.proofs.ProductionTrees.Declarations.{connection_end_builders, connection_builders}
use Rattle.aadl_grammar.proofs.ProductionTrees.Declarations.{feature_list_builders, feature_list_joins}
use Rattle.aadl_grammar.proofs.ProductionTrees.Declarations.{feature_section_builders, feature_section_joins}
use Rattle.aadl_grammar.proofs.ProductionTrees.Declarations.{features_builders, subcomponent_list_builders}
use Rattle.aadl_grammar.proofs.ProductionTrees.Declarations.{subcomponent_list_joins, subcomponent_section_builders}
use Rattle.aadl_grammar.proofs.ProductionTrees.Declarations.{subcomponent_section_joins, subcomponents_builders}
use Rattle.aadl_grammar.proofs.ProductionTrees.Declarations.{connection_list_builders, connection_list_joins}
use Rattle.aadl_grammar.proofs.ProductionTrees.Declarations.{connection_section_builders, connection_section_joins}
use Rattle.aadl_grammar.proofs.ProductionTrees.Declarations.{connections_builders, property_section_builders}
use Rattle.aadl_grammar.proofs.ProductionTrees.Declarations.{property_section_joins, own_properties_builders}
use Rattle.aadl_grammar.proofs.ProductionTrees.Declarations.{implementation_name_builders, type_end_builders}
use Rattle.aadl_grammar.proofs.ProductionTrees.Declarations.{implementation_end_builders, package_end_builders}
use Rattle.aadl_grammar.proofs.ProductionTrees.Declarations.{after_category_builders, declarations_builders}
use Rattle.aadl_grammar.proofs.ProductionTrees.Declarations.{more_names_builders, withs_builders, a_package_builders}
use Rattle.aadl_grammar.proofs.ProductionCompleteness.NamesAndValues.{reference_opens, association_opens}
use Rattle.aadl_grammar.proofs.ProductionSoundness.Declarations.{with_same}

pub direction_opens : Opens s.direction direction_builders
direction_opens directions.In ks rest (more, e, sp) = inl (uses tt tt more e sp)
direction_opens directions.Out ks rest (more, e, sp) = inr (inl (uses tt tt more e sp))

pub category_opens : Opens s.category category_builders
category_opens categories.System ks rest (more, e, sp) = inl (uses tt tt more e sp)
category_opens categories.Process ks rest (more, e, sp) = inr (inl (uses tt tt more e sp))
category_opens categories.Thread ks rest (more, e, sp) = inr (inr (inl (uses tt tt more e sp)))

pub data_type_opens : OpensOr s.data_type data_type_builders None
data_type_opens None ks rest e = inr (refl, e)
data_type_opens (Some x) ks rest sp =
    inl (behind_opens s.data_type s.reference [] (rows s.reference) data_type_joins reference_builders x tt ks rest
    (reference_opens x ks) (respell _ _ ks rest (sym (append-nil (parts s.reference x))) sp))

pub feature_opens : Opens s.feature feature_builders
feature_opens t ks rest (more, e, sp) =
    inl (uses t.name.spelling (tt, (t.direction, (tt, (tt, (t.data_type, (t.properties, (tt, tt))))))) more e sp)

pub subcomponent_opens : Opens s.subcomponent subcomponent_builders
subcomponent_opens t ks rest (more, e, sp) =
    inl (uses t.name.spelling (tt, (t.category, (t.classifier, (t.properties, (tt, tt))))) more e sp)

pub connection_end_opens : Opens s.connection_end connection_end_builders
connection_end_opens t ks rest (more, e, sp) = inl (uses t.first.spelling (t.second, tt) more e sp)

pub connection_opens : Opens s.connection connection_builders
connection_opens t ks rest (more, e, sp) =
    inl (uses t.name.spelling (tt, (tt, (t.source, (tt, (t.target, (t.properties, (tt, tt))))))) more e sp)

pub feature_list_opens : OpensOr s.feature_list feature_list_builders []
feature_list_opens [] ks rest e = inr (refl, e)
feature_list_opens (x ∷ xs) ks rest sp =
    inl (behind_opens s.feature_list s.feature (s.feature_list ∷ []) (rows s.feature) feature_list_joins
    feature_builders x (xs, tt) ks rest (feature_opens x ks) sp)

pub feature_section_opens : Opens s.feature_section feature_section_builders
feature_section_opens [] ks rest (more, e, sp) = inl (uses tt (tt, tt) more e sp)
feature_section_opens (x ∷ xs) ks rest sp =
    inr (behind_opens s.feature_section s.feature (s.feature_list ∷ []) (rows s.feature) feature_section_joins
    feature_builders x (xs, tt) ks rest (feature_opens x ks) sp)

pub features_opens : OpensOr s.features features_builders []
features_opens [] ks rest (inl e) = inr (refl, e)
features_opens [] ks rest (inr (more, e, sp)) =
    inl (inl (record {
      content = tt;
      trees = ([], tt);
      more = mark k.Nothing ∷ (mark k.Semicolon ∷ more);
      made = refl;
      whole = e;
      spelled = (mark k.Semicolon ∷ more, refl, (more, refl, sp));
    }))
features_opens (x ∷ xs) ks rest (more, e, sp) = inl (inl (uses tt ((x ∷ xs), tt) more e sp))

pub subcomponent_list_opens : OpensOr s.subcomponent_list subcomponent_list_builders []
subcomponent_list_opens [] ks rest e = inr (refl, e)
subcomponent_list_opens (x ∷ xs) ks rest sp =
    inl (behind_opens s.subcomponent_list s.subcomponent (s.subcomponent_list ∷ []) (rows s.subcomponent)
    subcomponent_list_joins subcomponent_builders x (xs, tt) ks rest (subcomponent_opens x ks) sp)

pub subcomponent_section_opens : Opens s.subcomponent_section subcomponent_section_builders
subcomponent_section_opens [] ks rest (more, e, sp) = inl (uses tt (tt, tt) more e sp)
subcomponent_section_opens (x ∷ xs) ks rest sp =
    inr (behind_opens s.subcomponent_section s.subcomponent (s.subcomponent_list ∷ []) (rows s.subcomponent)
    subcomponent_section_joins subcomponent_builders x (xs, tt) ks rest (subcomponent_opens x ks) sp)

pub subcomponents_opens : OpensOr s.subcomponents subcomponents_builders []
subcomponents_opens [] ks rest (inl e) = inr (refl, e)
subcomponents_opens [] ks rest (inr (more, e, sp)) =
    inl (inl (record {
      content = tt;
      trees = ([], tt);
      more = mark k.Nothing ∷ (mark k.Semicolon ∷ more);
      made = refl;
      whole = e;
      spelled = (mark k.Semicolon ∷ more, refl, (more, refl, sp));
    }))
subcomponents_opens (x ∷ xs) ks rest (more, e, sp) = inl (inl (uses tt ((x ∷ xs), tt) more e sp))

pub connection_list_opens : OpensOr s.connection_list connection_list_builders []
connection_list_opens [] ks rest e = inr (refl, e)
connection_list_opens (x ∷ xs) ks rest sp =
    inl (behind_opens s.connection_list s.connection (s.connection_list ∷ []) (rows s.connection) connection_list_joins
    connection_builders x (xs, tt) ks rest (connection_opens x ks) sp)

pub connection_section_opens : Opens s.connection_section connection_section_builders
connection_section_opens [] ks rest (more, e, sp) = inl (uses tt (tt, tt) more e sp)
connection_section_opens (x ∷ xs) ks rest sp =
    inr (behind_opens s.connection_section s.connection (s.connection_list ∷ []) (rows s.connection)
    connection_section_joins connection_builders x (xs, tt) ks rest (connection_opens x ks) sp)

pub connections_opens : OpensOr s.connections connections_builders []
connections_opens [] ks rest (inl e) = inr (refl, e)
connections_opens [] ks rest (inr (more, e, sp)) =
    inl (inl (record {
      content = tt;
      trees = ([], tt);
      more = mark k.Nothing ∷ (mark k.Semicolon ∷ more);
      made = refl;
      whole = e;
      spelled = (mark k.Semicolon ∷ more, refl, (more, refl, sp));
    }))
connections_opens (x ∷ xs) ks rest (more, e, sp) = inl (inl (uses tt ((x ∷ xs), tt) more e sp))

pub property_section_opens : Opens s.property_section property_section_builders
property_section_opens v.no_associations ks rest (more, e, sp) = inl (uses tt (tt, tt) more e sp)
property_section_opens (v.associate (v.association name operator constant y paths) xs) ks rest sp =
    inr (behind_opens s.property_section s.association (s.associations ∷ []) (rows s.association) property_section_joins
    association_builders (v.association name operator constant y paths) (xs, tt) ks rest
    (association_opens (v.association name operator constant y paths) ks) sp)

pub own_properties_opens : OpensOr s.own_properties own_properties_builders v.no_associations
own_properties_opens v.no_associations ks rest (inl e) = inr (refl, e)
own_properties_opens v.no_associations ks rest (inr (more, e, sp)) =
    inl (inl (record {
      content = tt;
      trees = (v.no_associations, tt);
      more = mark k.Nothing ∷ (mark k.Semicolon ∷ more);
      made = refl;
      whole = e;
      spelled = (mark k.Semicolon ∷ more, refl, (more, refl, sp));
    }))
own_properties_opens (v.associate (v.association name operator constant y paths) xs) ks rest (more, e, sp) =
    inl (inl (uses tt ((v.associate (v.association name operator constant y paths) xs), tt) more e sp))

pub implementation_name_opens : Opens s.implementation_name implementation_name_builders
implementation_name_opens t ks rest (more, e, sp) =
    inl (uses t.component_type.spelling (tt, (t.implementation, tt)) more e sp)

pub type_end_opens : Opens s.type_end type_end_builders
type_end_opens t ks rest (more, e, sp) = inl (uses tt (t, (tt, tt)) more e sp)

pub implementation_end_opens : Opens s.implementation_end implementation_end_builders
implementation_end_opens t ks rest (more, e, sp) = inl (uses tt (t, (tt, tt)) more e sp)

pub package_end_opens : Opens s.package_end package_end_builders
package_end_opens t ks rest (more, e, sp) = inl (uses tt (t, (tt, tt)) more e sp)

pub after_category_opens : Opens s.after_category after_category_builders
after_category_opens (type_rest x f q y z) ks rest (more, e, sp) =
    inl (uses x.spelling (f, (q, (y, (z, tt)))) more e sp)
after_category_opens (implementation_rest x f c q y z) ks rest (more, e, sp) =
    inr (inl (uses tt (x, (f, (c, (q, (y, (z, tt)))))) more e sp))

declaration_by : (c : Category) (y : DeclarationRest) (z : List (d.Declaration NoPlace)) (ks rest : List PlainTerminal)
    → Spells (token (mark (d.category_mark c)) [] ∷ (rest_parts y ++ flat_map d.declaration_parts z)) ks rest
    → InRows s.declarations (rows s.declarations) declarations_builders (declaration_of c y ∷ z) ks rest
declaration_by categories.System y z ks rest (more, e, sp) = inl (uses tt (y, (z, tt)) more e sp)
declaration_by categories.Process y z ks rest (more, e, sp) = inr (inl (uses tt (y, (z, tt)) more e sp))
declaration_by categories.Thread y z ks rest (more, e, sp) = inr (inr (inl (uses tt (y, (z, tt)) more e sp)))

pub declarations_opens : OpensOr s.declarations declarations_builders []
declarations_opens [] ks rest e = inr (refl, e)
declarations_opens (d.type y ∷ z) ks rest sp =
    inl (declaration_by y.category (type_rest y.name y.features y.properties y.annexes y.end_name) z ks rest sp)
declarations_opens (d.implementation y ∷ z) ks rest sp =
    inl (declaration_by y.category
    (implementation_rest y.name y.subcomponents y.connections y.properties y.annexes y.end_name) z ks rest sp)

pub more_names_opens : OpensOr s.more_names more_names_builders []
more_names_opens [] ks rest e = inr (refl, e)
more_names_opens (x ∷ xs) ks rest (more, e, sp) = inl (inl (uses tt (x, (xs, tt)) more e sp))

pub withs_opens : OpensOr s.withs withs_builders []
withs_opens [] ks rest e = inr (refl, e)
withs_opens (x ∷ xs) ks rest (more, e, sp) =
    inl (inl (uses tt (x.first, (x.rest, (tt, (xs, tt)))) more e
    (respell _ _ more rest (sym
    (with_same (n.name_parts x.first) (flat_map (p.behind k.Comma n.name_parts) x.rest)
    (flat_map d.with_parts xs))) sp)))

pub a_package_opens : Opens s.a_package a_package_builders
a_package_opens t ks rest (more, e, sp) =
    inl (uses tt (t.name, (tt, (t.withs, (t.declarations, (t.end_name, tt))))) more e sp)
