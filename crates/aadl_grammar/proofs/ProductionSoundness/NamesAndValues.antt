-- Symbols of names, values and properties: the row's terminal and the parts of the following trees spell the tree
-- that the row builds. For the proof that a text has one tree.
use Rattle.std.proofs.Common.{◌≡◌, sym, refl, List, [], ◌∷◌, ◌++◌, append_assoc}
use Rattle.aadl_tree.specs.declared.mark.Mark.{Mark}
use Rattle.aadl_tree.specs.declared.mark.Mark.TheVariants as k
use Rattle.aadl_tree.specs.SpellingParts.{SpellingPart, plain}
use Rattle.aadl_tree.specs.Values as v
use Rattle.aadl_grammar.specs.proof.GrammarSymbols as s
use Rattle.aadl_grammar.specs.proof.ParseTable.{rows}
use Rattle.aadl_grammar.specs.proof.SymbolTrees.{NoPlace}
use Rattle.aadl_grammar.proofs.DerivationTrees.ReferencesByFirstWord.{reference_spells}
use Rattle.aadl_grammar.proofs.DerivationTrees.TreeBuilders.{respell, AllGive, behind_give}
use Rattle.aadl_grammar.proofs.ProductionTrees.NamesAndValues.{only_builders, identifier_builders, name_builders}
use Rattle.aadl_grammar.proofs.ProductionTrees.NamesAndValues.{names_builders, path_builders, paths_builders}
use Rattle.aadl_grammar.proofs.ProductionTrees.NamesAndValues.{more_identifiers_builders, reference_builders}
use Rattle.aadl_grammar.proofs.ProductionTrees.NamesAndValues.{dot_identifier_builders, figure_builders, unit_builders}
use Rattle.aadl_grammar.proofs.ProductionTrees.NamesAndValues.{quantity_builders, upper_builders, value_builders}
use Rattle.aadl_grammar.proofs.ProductionTrees.NamesAndValues.{value_joins, path_group_builders}
use Rattle.aadl_grammar.proofs.ProductionTrees.NamesAndValues.{reference_group_builders, values_builders, values_joins}
use Rattle.aadl_grammar.proofs.ProductionTrees.NamesAndValues.{more_values_builders, operator_builders}
use Rattle.aadl_grammar.proofs.ProductionTrees.NamesAndValues.{constant_builders, applies_builders, more_paths_builders}
use Rattle.aadl_grammar.proofs.ProductionTrees.NamesAndValues.{association_builders, associations_builders}
use Rattle.aadl_grammar.proofs.ProductionTrees.NamesAndValues.{associations_joins, properties_builders}

regroup : (ps qs rs : List (SpellingPart NoPlace)) → ps ++ (qs ++ rs) ≡ (ps ++ qs) ++ rs
regroup ps qs rs = sym (append_assoc ps qs rs)

pub only_give : (m : Mark) → AllGive (s.only m) (rows (s.only m)) (only_builders m)
only_give m = ((λ w ts ks rest sp. (ks, refl, sp)), tt)

pub identifier_give : AllGive s.identifier (rows s.identifier) identifier_builders
identifier_give = ((λ w ts ks rest sp. (ks, refl, sp)), tt)

pub name_give : AllGive s.name (rows s.name) name_builders
name_give = ((λ w ts ks rest sp. (ks, refl, sp)), tt)

pub names_give : AllGive s.names (rows s.names) names_builders
names_give = ((λ w ts ks rest sp. (ks, refl, sp)), tt)

pub path_give : AllGive s.path (rows s.path) path_builders
path_give = ((λ w ts ks rest sp. (ks, refl, sp)), tt)

pub paths_give : AllGive s.paths (rows s.paths) paths_builders
paths_give = ((λ w ts ks rest sp. (ks, refl, sp)), tt)

pub more_identifiers_give : AllGive s.more_identifiers (rows s.more_identifiers) more_identifiers_builders
more_identifiers_give = ((λ w ts ks rest sp. (ks, refl, sp)), tt)

pub reference_give : AllGive s.reference (rows s.reference) reference_builders
reference_give = ((λ w ts ks rest sp. reference_spells w ts.0 ts.1.0 ks rest sp), tt)

pub dot_identifier_give : AllGive s.dot_identifier (rows s.dot_identifier) dot_identifier_builders
dot_identifier_give = ((λ w ts ks rest sp. (ks, refl, sp)), tt)

pub figure_give : AllGive s.figure (rows s.figure) figure_builders
figure_give = ((λ w ts ks rest sp. (ks, refl, sp)), ((λ w ts ks rest sp. (ks, refl, sp)), tt))

pub unit_give : AllGive s.unit (rows s.unit) unit_builders
unit_give = ((λ w ts ks rest sp. (ks, refl, sp)), tt)

pub quantity_give : AllGive s.quantity (rows s.quantity) quantity_builders
quantity_give = (
  (λ w ts ks rest sp. (ks, refl, sp)),
  (
    (λ w ts ks rest sp. (ks, refl, sp)),
    ((λ w ts ks rest sp. (ks, refl, sp)), ((λ w ts ks rest sp. (ks, refl, sp)), tt)),
  ),
)

pub upper_give : AllGive s.upper (rows s.upper) upper_builders
upper_give = ((λ w ts ks rest sp. (ks, refl, sp)), tt)

pub value_give : AllGive s.value (rows s.value) value_builders
value_give = (
  (λ w ts ks rest sp. (ks, refl, sp)),
  (
    (λ w ts ks rest sp. reference_spells w ts.0 ts.1.0 ks rest sp),
    (
      (λ w ts ks rest sp. (ks, refl, sp)),
      (
        (λ w ts ks rest sp. (ks, refl, sp)),
        (
          (λ w ts ks rest sp. (ks, refl, sp)),
          (
            (λ w ts ks rest sp. (ks, refl, sp)),
            behind_give s.value s.quantity (s.upper ∷ []) (rows s.quantity) value_joins
                quantity_builders (λ u ts. refl) quantity_give,
          ),
        ),
      ),
    ),
  ),
)

pub path_group_give : AllGive s.path_group (rows s.path_group) path_group_builders
path_group_give = ((λ w ts ks rest sp. (ks, refl, sp)), tt)

pub reference_group_give : AllGive s.reference_group (rows s.reference_group) reference_group_builders
reference_group_give = ((λ w ts ks rest sp. (ks, refl, sp)), tt)

pub values_give : AllGive s.values (rows s.values) values_builders
values_give =
    behind_give s.values s.value (s.more_values ∷ []) (rows s.value) values_joins value_builders
    (λ u ts. refl) value_give

pub more_values_give : AllGive s.more_values (rows s.more_values) more_values_builders
more_values_give = ((λ w ts ks rest sp. (ks, refl, sp)), tt)

pub operator_give : AllGive s.operator (rows s.operator) operator_builders
operator_give = ((λ w ts ks rest sp. (ks, refl, sp)), ((λ w ts ks rest sp. (ks, refl, sp)), tt))

pub constant_give : AllGive s.constant (rows s.constant) constant_builders
constant_give = ((λ w ts ks rest sp. (ks, refl, sp)), tt)

pub applies_give : AllGive s.applies (rows s.applies) applies_builders
applies_give = ((λ w ts ks rest sp. (ks, refl, sp)), tt)

pub more_paths_give : AllGive s.more_paths (rows s.more_paths) more_paths_builders
more_paths_give = ((λ w ts ks rest sp. (ks, refl, sp)), tt)

pub association_give : AllGive s.association (rows s.association) association_builders
association_give = ((λ w ts ks rest sp. (ks, refl, sp)), tt)

pub associations_give : AllGive s.associations (rows s.associations) associations_builders
associations_give =
    behind_give s.associations s.association (s.associations ∷ []) (rows s.association) associations_joins
    association_builders (λ u ts. refl) association_give

pub properties_give : AllGive s.properties (rows s.properties) properties_builders
properties_give = (
  (λ w ts ks rest sp. (
    ks,
    refl,
    respell _ _ ks rest (regroup (v.association_parts ts.0) (v.associations_parts ts.1.0)
        (plain k.BraceClose ∷ [])) sp,
  )),
  tt,
)
