-- Symbols of declarations and packages: the row's terminal and the parts of the following trees spell the tree that
-- the row builds. For the proof that a text has one tree.
use Rattle.std.proofs.Common.{◌≡◌, ◌∙◌, sym, ap, refl, List, [], ◌∷◌, ◌++◌, flat_map, append_assoc, inr}
use Rattle.std.proofs.lemmas.List.{append-nil}
use Rattle.aadl_tree.specs.declared.mark.Mark.TheVariants as k
use Rattle.aadl_tree.specs.declared.declarations.Category.{Category}
use Rattle.aadl_tree.specs.declared.declarations.Category.TheVariants as categories
use Rattle.aadl_tree.specs.Terminals.{PlainTerminal, mark}
use Rattle.aadl_tree.specs.SpellingParts.{SpellingPart, Section, feature_section, subcomponent_section}
use Rattle.aadl_tree.specs.SpellingParts.{connection_section}
use Rattle.aadl_tree.specs.SpellingParts.{property_section, section_mark, Spells, plain}
use Rattle.aadl_tree.specs.SpellingParts as p
use Rattle.aadl_tree.specs.Names as n
use Rattle.aadl_tree.specs.Values as v
use Rattle.aadl_tree.specs.Declarations as d
use Rattle.aadl_grammar.specs.proof.GrammarSymbols as s
use Rattle.aadl_grammar.specs.proof.ParseTable.{rows}
use Rattle.aadl_grammar.specs.proof.SymbolTrees.{NoPlace, DeclarationRest, type_rest, implementation_rest}
use Rattle.aadl_grammar.specs.proof.SymbolTrees.{declaration_of}
use Rattle.aadl_grammar.specs.proof.SymbolTrees.{rest_parts, section_rest}
use Rattle.aadl_grammar.proofs.DerivationTrees.TreeBuilders.{respell, AllGive, behind_give}
use Rattle.aadl_grammar.proofs.ProductionTrees.NamesAndValues.{reference_builders, association_builders}
use Rattle.aadl_grammar.proofs.ProductionTrees.Declarations.{direction_builders, category_builders, data_type_builders}
use Rattle.aadl_grammar.proofs.ProductionTrees.Declarations.{data_type_joins, feature_builders, subcomponent_builders}
use Rattle.aadl_grammar.proofs.ProductionTrees.Declarations.{connection_end_builders, connection_builders}
use Rattle.aadl_grammar.proofs.ProductionTrees.Declarations.{feature_list_builders, feature_list_joins}
use Rattle.aadl_grammar.proofs.ProductionTrees.Declarations.{feature_section_builders, feature_section_joins}
use Rattle.aadl_grammar.proofs.ProductionTrees.Declarations.{features_builders, subcomponent_list_builders}
use Rattle.aadl_grammar.proofs.ProductionTrees.Declarations.{subcomponent_list_joins, subcomponent_section_builders}
use Rattle.aadl_grammar.proofs.ProductionTrees.Declarations.{subcomponent_section_joins, subcomponents_builders}
use Rattle.aadl_grammar.proofs.ProductionTrees.Declarations.{connection_list_builders, connection_list_joins}
use Rattle.aadl_grammar.proofs.ProductionTrees.Declarations.{connection_section_builders, connection_section_joins}
use Rattle.aadl_grammar.proofs.ProductionTrees.Declarations.{connections_builders, property_section_builders}
use Rattle.aadl_grammar.proofs.ProductionTrees.Declarations.{property_section_joins, own_properties_builders}
use Rattle.aadl_grammar.proofs.ProductionTrees.Declarations.{implementation_name_builders, type_end_builders}
use Rattle.aadl_grammar.proofs.ProductionTrees.Declarations.{implementation_end_builders, package_end_builders}
use Rattle.aadl_grammar.proofs.ProductionTrees.Declarations.{after_category_builders, declarations_builders}
use Rattle.aadl_grammar.proofs.ProductionTrees.Declarations.{more_names_builders, withs_builders, a_package_builders}
use Rattle.aadl_grammar.proofs.ProductionSoundness.NamesAndValues.{reference_give, association_give}

section_gives : (section : Section) (ps : List (SpellingPart NoPlace)) (ks rest : List PlainTerminal)
    → Spells (section_rest ps) ks rest
    → Spells (d.section_parts section ps) (mark (section_mark section) ∷ ks) rest
section_gives section [] ks rest (q, h, (r, i, sp)) =
    inr (r, ap (λ l. mark (section_mark section) ∷ l) (h ∙ ap (λ l. mark k.Nothing ∷ l) i), sp)
section_gives section (y ∷ ps) ks rest sp = (ks, refl, sp)

property_same : (u : v.Association NoPlace) (z : v.Associations NoPlace)
    → v.association_parts u ++ v.associations_parts z ≡ section_rest (v.associations_parts (v.associate u z))
property_same (v.association name operator constant y paths) z = refl

declaration_gives : (c : Category) (y : DeclarationRest) (z : List (d.Declaration NoPlace))
    (ks rest : List PlainTerminal)
    → Spells (rest_parts y ++ flat_map d.declaration_parts z) ks rest
    → Spells (flat_map d.declaration_parts (declaration_of c y ∷ z)) (mark (d.category_mark c) ∷ ks) rest
declaration_gives c (type_rest name features own annexes end_name) z ks rest sp = (ks, refl, sp)
declaration_gives c (implementation_rest name subs links own annexes end_name) z ks rest sp = (ks, refl, sp)

pub with_same : (q r l : List (SpellingPart NoPlace))
    → q ++ (r ++ (plain k.Semicolon ∷ l)) ≡ ((q ++ r) ++ plain k.Semicolon ∷ []) ++ l
with_same q r l = sym (simp append_assoc)

pub direction_give : AllGive s.direction (rows s.direction) direction_builders
direction_give = ((λ w ts ks rest sp. (ks, refl, sp)), ((λ w ts ks rest sp. (ks, refl, sp)), tt))

pub category_give : AllGive s.category (rows s.category) category_builders
category_give = (
  (λ w ts ks rest sp. (ks, refl, sp)),
  ((λ w ts ks rest sp. (ks, refl, sp)), ((λ w ts ks rest sp. (ks, refl, sp)), tt)),
)

pub data_type_give : AllGive s.data_type (rows s.data_type) data_type_builders
data_type_give =
    behind_give s.data_type s.reference [] (rows s.reference) data_type_joins reference_builders (λ u ts. append-nil _)
    reference_give

pub feature_give : AllGive s.feature (rows s.feature) feature_builders
feature_give = ((λ w ts ks rest sp. (ks, refl, sp)), tt)

pub subcomponent_give : AllGive s.subcomponent (rows s.subcomponent) subcomponent_builders
subcomponent_give = ((λ w ts ks rest sp. (ks, refl, sp)), tt)

pub connection_end_give : AllGive s.connection_end (rows s.connection_end) connection_end_builders
connection_end_give = ((λ w ts ks rest sp. (ks, refl, sp)), tt)

pub connection_give : AllGive s.connection (rows s.connection) connection_builders
connection_give = ((λ w ts ks rest sp. (ks, refl, sp)), tt)

pub feature_list_give : AllGive s.feature_list (rows s.feature_list) feature_list_builders
feature_list_give =
    behind_give s.feature_list s.feature (s.feature_list ∷ []) (rows s.feature) feature_list_joins feature_builders
    (λ u ts. refl) feature_give

pub feature_section_give : AllGive s.feature_section (rows s.feature_section) feature_section_builders
feature_section_give = (
  (λ w ts ks rest sp. (ks, refl, sp)),
  behind_give s.feature_section s.feature (s.feature_list ∷ []) (rows s.feature) feature_section_joins
      feature_builders (λ u ts. refl) feature_give,
)

pub features_give : AllGive s.features (rows s.features) features_builders
features_give = ((λ w ts ks rest sp. section_gives feature_section (flat_map d.feature_parts ts.0) ks rest sp), tt)

pub subcomponent_list_give : AllGive s.subcomponent_list (rows s.subcomponent_list) subcomponent_list_builders
subcomponent_list_give =
    behind_give s.subcomponent_list s.subcomponent (s.subcomponent_list ∷ []) (rows s.subcomponent)
    subcomponent_list_joins subcomponent_builders (λ u ts. refl) subcomponent_give

pub subcomponent_section_give : AllGive s.subcomponent_section (rows s.subcomponent_section)
    subcomponent_section_builders
subcomponent_section_give = (
  (λ w ts ks rest sp. (ks, refl, sp)),
  behind_give s.subcomponent_section s.subcomponent (s.subcomponent_list ∷ []) (rows s.subcomponent)
      subcomponent_section_joins subcomponent_builders (λ u ts. refl) subcomponent_give,
)

pub subcomponents_give : AllGive s.subcomponents (rows s.subcomponents) subcomponents_builders
subcomponents_give =
    ((λ w ts ks rest sp. section_gives subcomponent_section (flat_map d.subcomponent_parts ts.0) ks rest sp), tt)

pub connection_list_give : AllGive s.connection_list (rows s.connection_list) connection_list_builders
connection_list_give =
    behind_give s.connection_list s.connection (s.connection_list ∷ []) (rows s.connection) connection_list_joins
    connection_builders (λ u ts. refl) connection_give

pub connection_section_give : AllGive s.connection_section (rows s.connection_section) connection_section_builders
connection_section_give = (
  (λ w ts ks rest sp. (ks, refl, sp)),
  behind_give s.connection_section s.connection (s.connection_list ∷ []) (rows s.connection)
      connection_section_joins connection_builders (λ u ts. refl) connection_give,
)

pub connections_give : AllGive s.connections (rows s.connections) connections_builders
connections_give =
    ((λ w ts ks rest sp. section_gives connection_section (flat_map d.connection_parts ts.0) ks rest sp), tt)

pub property_section_give : AllGive s.property_section (rows s.property_section) property_section_builders
property_section_give = (
  (λ w ts ks rest sp. (ks, refl, sp)),
  behind_give s.property_section s.association (s.associations ∷ []) (rows s.association) property_section_joins
      association_builders (λ u ts. property_same u ts.0) association_give,
)

pub own_properties_give : AllGive s.own_properties (rows s.own_properties) own_properties_builders
own_properties_give = ((λ w ts ks rest sp. section_gives property_section (v.associations_parts ts.0) ks rest sp), tt)

pub implementation_name_give : AllGive s.implementation_name (rows s.implementation_name) implementation_name_builders
implementation_name_give = ((λ w ts ks rest sp. (ks, refl, sp)), tt)

pub type_end_give : AllGive s.type_end (rows s.type_end) type_end_builders
type_end_give = ((λ w ts ks rest sp. (ks, refl, sp)), tt)

pub implementation_end_give : AllGive s.implementation_end (rows s.implementation_end) implementation_end_builders
implementation_end_give = ((λ w ts ks rest sp. (ks, refl, sp)), tt)

pub package_end_give : AllGive s.package_end (rows s.package_end) package_end_builders
package_end_give = ((λ w ts ks rest sp. (ks, refl, sp)), tt)

pub after_category_give : AllGive s.after_category (rows s.after_category) after_category_builders
after_category_give = ((λ w ts ks rest sp. (ks, refl, sp)), ((λ w ts ks rest sp. (ks, refl, sp)), tt))

pub declarations_give : AllGive s.declarations (rows s.declarations) declarations_builders
declarations_give = (
  (λ w ts ks rest sp. declaration_gives categories.System ts.0 ts.1.0 ks rest sp),
  (
    (λ w ts ks rest sp. declaration_gives categories.Process ts.0 ts.1.0 ks rest sp),
    ((λ w ts ks rest sp. declaration_gives categories.Thread ts.0 ts.1.0 ks rest sp), tt),
  ),
)

pub more_names_give : AllGive s.more_names (rows s.more_names) more_names_builders
more_names_give = ((λ w ts ks rest sp. (ks, refl, sp)), tt)

pub withs_give : AllGive s.withs (rows s.withs) withs_builders
withs_give = (
  (λ w ts ks rest sp. (
    ks,
    refl,
    respell _ _ ks rest (with_same (n.name_parts ts.0) (flat_map (p.behind k.Comma n.name_parts) ts.1.0)
        (flat_map d.with_parts ts.1.1.1.0)) sp,
  )),
  tt,
)

pub a_package_give : AllGive s.a_package (rows s.a_package) a_package_builders
a_package_give = ((λ w ts ks rest sp. (ks, refl, sp)), tt)
