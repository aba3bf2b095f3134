-- Trees with other places: a map replaces each place.
use Rattle.std.specs.Prelude.{ℕ, map, option_map}
use Rattle.aadl_tree.specs.Names as n
use Rattle.aadl_tree.specs.Values as v
use Rattle.aadl_tree.specs.Expressions as e
use Rattle.aadl_tree.specs.Actions as a
use Rattle.aadl_tree.specs.Annexes as x
use Rattle.aadl_tree.specs.Declarations as d

abbrev pub identifier_to : {P Q : Type 0} → (P → Q) → n.Identifier P → n.Identifier Q
identifier_to f t = record { at = f t.at; spelling = t.spelling }

abbrev pub name_to : {P Q : Type 0} → (P → Q) → n.Name P → n.Name Q
name_to f t = record { first = identifier_to f t.first; rest = map (identifier_to f) t.rest }

abbrev pub path_to : {P Q : Type 0} → (P → Q) → n.Path P → n.Path Q
path_to f t = record { first = identifier_to f t.first; rest = map (identifier_to f) t.rest }

abbrev pub identifiers_to : {P Q : Type 0} → (P → Q) → n.Identifiers P → n.Identifiers Q
identifiers_to f t = record { first = identifier_to f t.first; rest = map (identifier_to f) t.rest }

abbrev pub reference_to : {P Q : Type 0} → (P → Q) → n.Reference P → n.Reference Q
reference_to f t =
    record {
      qualifiers = map (identifier_to f) t.qualifiers;
      type_name = identifier_to f t.type_name;
      implementation = option_map (identifier_to f) t.implementation;
    }

abbrev pub quantity_to : {P Q : Type 0} → (P → Q) → v.Quantity P → v.Quantity Q
quantity_to f t = record { number = t.number; unit = option_map (identifier_to f) t.unit }

abbrev mutual
  pub value_to : {P Q : Type 0} → (P → Q) → v.Value P → v.Value Q
  value_to f (v.list t) = v.list (values_to f t)
  value_to f (v.fields t) = v.fields (associations_to f t)
  value_to f (v.text t) = v.text t
  value_to f (v.reference t) = v.reference (path_to f t)
  value_to f (v.classifier t) = v.classifier (reference_to f t)
  value_to f (v.named t) = v.named (reference_to f t)
  value_to f (v.number t u) = v.number (quantity_to f t) (option_map (quantity_to f) u)

  pub values_to : {P Q : Type 0} → (P → Q) → v.Values P → v.Values Q
  values_to f v.no_values = v.no_values
  values_to f (v.value t u) = v.value (value_to f t) (values_to f u)

  pub association_to : {P Q : Type 0} → (P → Q) → v.Association P → v.Association Q
  association_to f (v.association name operator constant t paths) =
      v.association (name_to f name) operator constant (value_to f t) (map (path_to f) paths)

  pub associations_to : {P Q : Type 0} → (P → Q) → v.Associations P → v.Associations Q
  associations_to f v.no_associations = v.no_associations
  associations_to f (v.associate t u) = v.associate (association_to f t) (associations_to f u)

abbrev pub leading_to : {P Q : Type 0} → (P → Q) → e.LeadingSign P → e.LeadingSign Q
leading_to f t = record { at = f t.at; sign = t.sign }

abbrev mutual
  pub primary_to : {P Q : Type 0} → (P → Q) → e.Primary P → e.Primary Q
  primary_to f (e.number at t) = e.number (f at) t
  primary_to f (e.truth at t) = e.truth (f at) t
  primary_to f (e.named t u) = e.named (identifier_to f t) u
  primary_to f (e.group at t) = e.group (f at) (expression_to f t)

  pub factor_to : {P Q : Type 0} → (P → Q) → e.Factor P → e.Factor Q
  factor_to f (e.absolute at t) = e.absolute (f at) (primary_to f t)
  factor_to f (e.negated at t) = e.negated (f at) (primary_to f t)
  factor_to f (e.bare t) = e.bare (primary_to f t)

  pub term_to : {P Q : Type 0} → (P → Q) → e.Term P → e.Term Q
  term_to f (e.term t u) = e.term (factor_to f t) (factors_to f u)

  pub factors_to : {P Q : Type 0} → (P → Q) → e.Factors P → e.Factors Q
  factors_to f e.no_factors = e.no_factors
  factors_to f (e.factor o t u) = e.factor o (factor_to f t) (factors_to f u)

  pub sum_to : {P Q : Type 0} → (P → Q) → e.Sum P → e.Sum Q
  sum_to f (e.total o t u) = e.total (option_map (leading_to f) o) (term_to f t) (terms_to f u)

  pub terms_to : {P Q : Type 0} → (P → Q) → e.Terms P → e.Terms Q
  terms_to f e.no_terms = e.no_terms
  terms_to f (e.add o t u) = e.add o (term_to f t) (terms_to f u)

  pub relation_to : {P Q : Type 0} → (P → Q) → e.Relation P → e.Relation Q
  relation_to f (e.single t) = e.single (sum_to f t)
  relation_to f (e.compared t o u) = e.compared (sum_to f t) o (sum_to f u)

  pub expression_to : {P Q : Type 0} → (P → Q) → e.Expression P → e.Expression Q
  expression_to f (e.expression t u) = e.expression (relation_to f t) (relations_to f u)

  pub relations_to : {P Q : Type 0} → (P → Q) → e.Relations P → e.Relations Q
  relations_to f e.no_relations = e.no_relations
  relations_to f (e.join o t u) = e.join o (relation_to f t) (relations_to f u)

abbrev mutual
  pub action_to : {P Q : Type 0} → (P → Q) → a.Action P → a.Action Q
  action_to f (a.assign t u) = a.assign (identifier_to f t) (expression_to f u)
  action_to f (a.send t u) = a.send (identifier_to f t) (expression_to f u)
  action_to f (a.choose t u w o) = a.choose (expression_to f t) (actions_to f u) (elsifs_to f w) (otherwise_to f o)
  action_to f (a.loop at t u low high w) = a.loop (f at) (identifier_to f t) (reference_to f u) low high (block_to f w)

  pub actions_to : {P Q : Type 0} → (P → Q) → a.Actions P → a.Actions Q
  actions_to f (a.actions t u) = a.actions (action_to f t) (mores_to f u)

  pub mores_to : {P Q : Type 0} → (P → Q) → a.Mores P → a.Mores Q
  mores_to f a.no_mores = a.no_mores
  mores_to f (a.more t u) = a.more (action_to f t) (mores_to f u)

  pub elsifs_to : {P Q : Type 0} → (P → Q) → a.Elsifs P → a.Elsifs Q
  elsifs_to f a.no_elsifs = a.no_elsifs
  elsifs_to f (a.elsif t u w) = a.elsif (expression_to f t) (actions_to f u) (elsifs_to f w)

  pub otherwise_to : {P Q : Type 0} → (P → Q) → a.Otherwise P → a.Otherwise Q
  otherwise_to f a.no_otherwise = a.no_otherwise
  otherwise_to f (a.otherwise t) = a.otherwise (actions_to f t)

  pub block_to : {P Q : Type 0} → (P → Q) → a.Block P → a.Block Q
  block_to f a.no_block = a.no_block
  block_to f (a.block t) = a.block (actions_to f t)

abbrev pub variable_to : {P Q : Type 0} → (P → Q) → x.VariableDeclaration P → x.VariableDeclaration Q
variable_to f t =
    record {
      names = identifiers_to f t.names;
      data_type = reference_to f t.data_type;
      properties = associations_to f t.properties;
    }

abbrev pub state_to : {P Q : Type 0} → (P → Q) → x.StateDeclaration P → x.StateDeclaration Q
state_to f t = record { names = identifiers_to f t.names; initial = t.initial; complete = t.complete }

abbrev pub guard_to : {P Q : Type 0} → (P → Q) → x.Guard P → x.Guard Q
guard_to f x.dispatch = x.dispatch
guard_to f x.otherwise = x.otherwise
guard_to f (x.when t) = x.when (expression_to f t)

abbrev pub transition_to : {P Q : Type 0} → (P → Q) → x.Transition P → x.Transition Q
transition_to f t =
    record {
      label = option_map (identifier_to f) t.label;
      source = identifier_to f t.source;
      guard = option_map (guard_to f) t.guard;
      target = identifier_to f t.target;
      effect = option_map (block_to f) t.effect;
    }

abbrev pub annex_tree_to : {P Q : Type 0} → (P → Q) → x.AnnexTree P → x.AnnexTree Q
annex_tree_to f t =
    record {
      variables = option_map (map (variable_to f)) t.variables;
      states = option_map (map (state_to f)) t.states;
      transitions = option_map (map (transition_to f)) t.transitions;
    }

abbrev pub content_to : {P Q : Type 0} → (P → Q) → x.AnnexContent P → x.AnnexContent Q
content_to f (x.foreign t) = x.foreign t
content_to f (x.behaviour t) = x.behaviour (annex_tree_to f t)

abbrev pub annex_to : {P Q : Type 0} → (P → Q) → x.Annex P → x.Annex Q
annex_to f t = record { at = f t.at; language = identifier_to f t.language; content = content_to f t.content }

abbrev pub feature_to : {P Q : Type 0} → (P → Q) → d.Feature P → d.Feature Q
feature_to f t =
    record {
      name = identifier_to f t.name;
      direction = t.direction;
      data_type = option_map (reference_to f) t.data_type;
      properties = associations_to f t.properties;
    }

abbrev pub subcomponent_to : {P Q : Type 0} → (P → Q) → d.Subcomponent P → d.Subcomponent Q
subcomponent_to f t =
    record {
      name = identifier_to f t.name;
      category = t.category;
      classifier = reference_to f t.classifier;
      properties = associations_to f t.properties;
    }

abbrev pub end_to : {P Q : Type 0} → (P → Q) → d.ConnectionEnd P → d.ConnectionEnd Q
end_to f t = record { first = identifier_to f t.first; second = option_map (identifier_to f) t.second }

abbrev pub connection_to : {P Q : Type 0} → (P → Q) → d.Connection P → d.Connection Q
connection_to f t =
    record {
      name = identifier_to f t.name;
      source = end_to f t.source;
      target = end_to f t.target;
      properties = associations_to f t.properties;
    }

abbrev pub implementation_name_to : {P Q : Type 0} → (P → Q) → d.ImplementationName P → d.ImplementationName Q
implementation_name_to f t =
    record { component_type = identifier_to f t.component_type; implementation = identifier_to f t.implementation }

abbrev pub type_to : {P Q : Type 0} → (P → Q) → d.TypeDeclaration P → d.TypeDeclaration Q
type_to f t =
    record {
      at = f t.at;
      category = t.category;
      name = identifier_to f t.name;
      features = map (feature_to f) t.features;
      properties = associations_to f t.properties;
      annexes = map (annex_to f) t.annexes;
      end_name = identifier_to f t.end_name;
    }

abbrev pub implementation_to : {P Q : Type 0} → (P → Q) → d.Implementation P → d.Implementation Q
implementation_to f t =
    record {
      at = f t.at;
      category = t.category;
      name = implementation_name_to f t.name;
      subcomponents = map (subcomponent_to f) t.subcomponents;
      connections = map (connection_to f) t.connections;
      properties = associations_to f t.properties;
      annexes = map (annex_to f) t.annexes;
      end_name = implementation_name_to f t.end_name;
    }

abbrev pub declaration_to : {P Q : Type 0} → (P → Q) → d.Declaration P → d.Declaration Q
declaration_to f (d.type t) = d.type (type_to f t)
declaration_to f (d.implementation t) = d.implementation (implementation_to f t)

abbrev pub with_to : {P Q : Type 0} → (P → Q) → d.With P → d.With Q
with_to f t = record { first = name_to f t.first; rest = map (name_to f) t.rest }

abbrev pub package_to : {P Q : Type 0} → (P → Q) → d.PackageTree P → d.PackageTree Q
package_to f t =
    record {
      name = name_to f t.name;
      withs = map (with_to f) t.withs;
      declarations = map (declaration_to f) t.declarations;
      end_name = name_to f t.end_name;
    }

-- the two maps of places: the identity, and the map that drops places
abbrev pub kept_place : ℕ → ℕ
kept_place at = at

abbrev pub no_place : ℕ → Unit {0}
no_place at = tt
