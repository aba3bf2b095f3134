-- The plain trees of declarations: types, implementations, and their members.
use Rattle.std.specs.Prelude.{ℕ, map, option_map}
use Rattle.aadl_tree.specs.Declarations.{With, Feature, Subcomponent, ConnectionEnd, Connection, TypeDeclaration}
use Rattle.aadl_tree.specs.Declarations.{ImplementationName, Implementation, Declaration, type, implementation}
use Rattle.aadl_tree.specs.proof.NameViews.{identifier_view, name_view, reference_view}
use Rattle.aadl_tree.specs.proof.ValueViews.{associations_view}
use Rattle.aadl_tree.specs.declared.declarations.With as source_with
use Rattle.aadl_tree.specs.declared.declarations.Feature as source_feature
use Rattle.aadl_tree.specs.declared.declarations.Subcomponent as source_subcomponent
use Rattle.aadl_tree.specs.declared.declarations.ConnectionEnd as source_end
use Rattle.aadl_tree.specs.declared.declarations.Connection as source_connection
use Rattle.aadl_tree.specs.declared.declarations.TypeDeclaration as source_type
use Rattle.aadl_tree.specs.declared.declarations.ImplementationName as source_name
use Rattle.aadl_tree.specs.declared.declarations.Implementation as source_implementation
use Rattle.aadl_tree.specs.declared.declarations.Declaration as source_declaration
use Rattle.aadl_tree.specs.declared.declarations.Declaration.TheVariants as declarations
use Rattle.aadl_tree.specs.proof.AnnexViews.{annex_view}

abbrev pub with_view : {P : Type 0} → (ℕ → P) → source_with.With → With P
with_view place x = record { first = name_view place x.first; rest = map (name_view place) x.rest.items }

abbrev pub feature_view : {P : Type 0} → (ℕ → P) → source_feature.Feature → Feature P
feature_view place x =
    record {
      name = identifier_view place x.name;
      direction = x.direction;
      data_type = option_map (reference_view place) x.data_type;
      properties = associations_view place x.properties.items;
    }

abbrev pub subcomponent_view : {P : Type 0} → (ℕ → P) → source_subcomponent.Subcomponent → Subcomponent P
subcomponent_view place x =
    record {
      name = identifier_view place x.name;
      category = x.category;
      classifier = reference_view place x.classifier;
      properties = associations_view place x.properties.items;
    }

abbrev pub end_view : {P : Type 0} → (ℕ → P) → source_end.ConnectionEnd → ConnectionEnd P
end_view place x =
    record { first = identifier_view place x.first; second = option_map (identifier_view place) x.second }

abbrev pub connection_view : {P : Type 0} → (ℕ → P) → source_connection.Connection → Connection P
connection_view place x =
    record {
      name = identifier_view place x.name;
      source = end_view place x.source;
      target = end_view place x.target;
      properties = associations_view place x.properties.items;
    }

abbrev pub type_view : {P : Type 0} → (ℕ → P) → source_type.TypeDeclaration → TypeDeclaration P
type_view place x =
    record {
      at = place x.at;
      category = x.category;
      name = identifier_view place x.name;
      features = map (feature_view place) x.features.items;
      properties = associations_view place x.properties.items;
      annexes = map (annex_view place) x.annexes.items;
      end_name = identifier_view place x.end_name;
    }

abbrev pub implementation_name_view : {P : Type 0} → (ℕ → P) → source_name.ImplementationName → ImplementationName P
implementation_name_view place x =
    record {
      component_type = identifier_view place x.component_type;
      implementation = identifier_view place x.implementation;
    }

abbrev pub implementation_view : {P : Type 0} → (ℕ → P) → source_implementation.Implementation → Implementation P
implementation_view place x =
    record {
      at = place x.at;
      category = x.category;
      name = implementation_name_view place x.name;
      subcomponents = map (subcomponent_view place) x.subcomponents.items;
      connections = map (connection_view place) x.connections.items;
      properties = associations_view place x.properties.items;
      annexes = map (annex_view place) x.annexes.items;
      end_name = implementation_name_view place x.end_name;
    }

abbrev pub declaration_view : {P : Type 0} → (ℕ → P) → source_declaration.Declaration → Declaration P
declaration_view place (declarations.Type x) = type (type_view place x)
declaration_view place (declarations.Implementation x) = implementation (implementation_view place x)
