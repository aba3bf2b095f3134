-- Declarations and packages: mapping the places of the plain tree gives the plain tree with mapped places. For the
-- law that places can be dropped.
use Rattle.std.proofs.Common.{◌≡◌, ℕ, ◌∙◌, ap, List, map, Option, option_map}
use Rattle.aadl_tree.specs.declared.declarations.With as source_with
use Rattle.aadl_tree.specs.declared.declarations.Feature as source_feature
use Rattle.aadl_tree.specs.declared.declarations.Subcomponent as source_subcomponent
use Rattle.aadl_tree.specs.declared.declarations.ConnectionEnd as source_end
use Rattle.aadl_tree.specs.declared.declarations.Connection as source_connection
use Rattle.aadl_tree.specs.declared.declarations.TypeDeclaration as source_type
use Rattle.aadl_tree.specs.declared.declarations.Implementation as source_implementation
use Rattle.aadl_tree.specs.declared.declarations.Declaration as source_declaration
use Rattle.aadl_tree.specs.declared.declarations.Declaration.TheVariants as declarations
use Rattle.aadl_tree.specs.declared.package.PackageTree as source
use Rattle.aadl_tree.specs.Names as n
use Rattle.aadl_tree.specs.Values as v
use Rattle.aadl_tree.specs.Annexes as x
use Rattle.aadl_tree.specs.Declarations as d
use Rattle.aadl_tree.specs.proof.PlaceMaps.{name_to, reference_to, associations_to, annex_to, feature_to}
use Rattle.aadl_tree.specs.proof.PlaceMaps.{subcomponent_to, end_to, connection_to, type_to, implementation_to}
use Rattle.aadl_tree.specs.proof.PlaceMaps.{declaration_to, with_to, package_to}
use Rattle.aadl_tree.specs.proof.NameViews.{identifier_view, name_view, reference_view}
use Rattle.aadl_tree.specs.proof.ValueViews.{associations_view}
use Rattle.aadl_tree.specs.proof.DeclarationViews.{with_view, feature_view, subcomponent_view, end_view}
use Rattle.aadl_tree.specs.proof.DeclarationViews.{connection_view, type_view, implementation_name_view}
use Rattle.aadl_tree.specs.proof.DeclarationViews.{implementation_view, declaration_view}
use Rattle.aadl_tree.specs.proof.AnnexViews.{annex_view}
use Rattle.aadl_tree.specs.proof.PackageViews.{package_view}
use Rattle.aadl_tree.proofs.PlaceMaps.Names.{each_tied, perhaps_tied, identifier_perhaps, name_tied, reference_tied}
use Rattle.aadl_tree.proofs.PlaceMaps.Values.{associations_tied}
use Rattle.aadl_tree.proofs.PlaceMaps.Annexes.{annex_tied}

with_tied : {P Q : Type 0} (f : P → Q) (g : ℕ → P) (t : source_with.With)
    → with_to f (with_view g t) ≡ with_view (λ n. f (g n)) t
with_tied {Q = Q} f g t =
    ap (λ (q : n.Name Q). let y : d.With Q =
    record { first = q; rest = map (name_to f) (map (name_view g) t.rest.items) } in y) (name_tied f g t.first)
    ∙ ap (λ (q : List (n.Name Q)). let y : d.With Q = record { first = name_view (λ n. f (g n)) t.first; rest = q } in
    y) (each_tied (name_to f) (name_view g) (name_view (λ n. f (g n))) (name_tied f g) t.rest.items)

feature_tied : {P Q : Type 0} (f : P → Q) (g : ℕ → P) (t : source_feature.Feature)
    → feature_to f (feature_view g t) ≡ feature_view (λ n. f (g n)) t
feature_tied {Q = Q} f g t =
    ap (λ (q : Option (n.Reference Q)). let y : d.Feature Q =
    record {
      name = identifier_view (λ n. f (g n)) t.name;
      direction = t.direction;
      data_type = q;
      properties = associations_to f (associations_view g t.properties.items);
    } in y)
    (perhaps_tied (reference_to f) (reference_view g) (reference_view (λ n. f (g n))) (reference_tied f g)
    t.data_type)
    ∙ ap (λ (q : v.Associations Q). let y : d.Feature Q =
    record {
      name = identifier_view (λ n. f (g n)) t.name;
      direction = t.direction;
      data_type = option_map (reference_view (λ n. f (g n))) t.data_type;
      properties = q;
    } in y)
    (associations_tied f g t.properties.items)

subcomponent_tied : {P Q : Type 0} (f : P → Q) (g : ℕ → P) (t : source_subcomponent.Subcomponent)
    → subcomponent_to f (subcomponent_view g t) ≡ subcomponent_view (λ n. f (g n)) t
subcomponent_tied {Q = Q} f g t =
    ap (λ (q : n.Reference Q). let y : d.Subcomponent Q =
    record {
      name = identifier_view (λ n. f (g n)) t.name;
      category = t.category;
      classifier = q;
      properties = associations_to f (associations_view g t.properties.items);
    } in y)
    (reference_tied f g t.classifier)
    ∙ ap (λ (q : v.Associations Q). let y : d.Subcomponent Q =
    record {
      name = identifier_view (λ n. f (g n)) t.name;
      category = t.category;
      classifier = reference_view (λ n. f (g n)) t.classifier;
      properties = q;
    } in y)
    (associations_tied f g t.properties.items)

end_tied : {P Q : Type 0} (f : P → Q) (g : ℕ → P) (t : source_end.ConnectionEnd)
    → end_to f (end_view g t) ≡ end_view (λ n. f (g n)) t
end_tied {Q = Q} f g t =
    ap (λ (q : Option (n.Identifier Q)). let y : d.ConnectionEnd Q =
    record { first = identifier_view (λ n. f (g n)) t.first; second = q } in y) (identifier_perhaps f g t.second)

connection_tied : {P Q : Type 0} (f : P → Q) (g : ℕ → P) (t : source_connection.Connection)
    → connection_to f (connection_view g t) ≡ connection_view (λ n. f (g n)) t
connection_tied {Q = Q} f g t =
    ap (λ (q : d.ConnectionEnd Q). let y : d.Connection Q =
    record {
      name = identifier_view (λ n. f (g n)) t.name;
      source = q;
      target = end_to f (end_view g t.target);
      properties = associations_to f (associations_view g t.properties.items);
    } in y) (end_tied f g t.source)
    ∙ ap (λ (q : d.ConnectionEnd Q). let y : d.Connection Q =
    record {
      name = identifier_view (λ n. f (g n)) t.name;
      source = end_view (λ n. f (g n)) t.source;
      target = q;
      properties = associations_to f (associations_view g t.properties.items);
    } in y) (end_tied f g t.target)
    ∙ ap (λ (q : v.Associations Q). let y : d.Connection Q =
    record {
      name = identifier_view (λ n. f (g n)) t.name;
      source = end_view (λ n. f (g n)) t.source;
      target = end_view (λ n. f (g n)) t.target;
      properties = q;
    } in y) (associations_tied f g t.properties.items)

type_tied : {P Q : Type 0} (f : P → Q) (g : ℕ → P) (t : source_type.TypeDeclaration)
    → type_to f (type_view g t) ≡ type_view (λ n. f (g n)) t
type_tied {Q = Q} f g t =
    ap (λ (q : List (d.Feature Q)). let y : d.TypeDeclaration Q =
    record {
      at = f (g t.at);
      category = t.category;
      name = identifier_view (λ n. f (g n)) t.name;
      features = q;
      properties = associations_to f (associations_view g t.properties.items);
      annexes = map (annex_to f) (map (annex_view g) t.annexes.items);
      end_name = identifier_view (λ n. f (g n)) t.end_name;
    } in y)
    (each_tied (feature_to f) (feature_view g) (feature_view (λ n. f (g n))) (feature_tied f g)
    t.features.items)
    ∙ ap (λ (q : v.Associations Q). let y : d.TypeDeclaration Q =
    record {
      at = f (g t.at);
      category = t.category;
      name = identifier_view (λ n. f (g n)) t.name;
      features = map (feature_view (λ n. f (g n))) t.features.items;
      properties = q;
      annexes = map (annex_to f) (map (annex_view g) t.annexes.items);
      end_name = identifier_view (λ n. f (g n)) t.end_name;
    } in y) (associations_tied f g t.properties.items)
    ∙ ap (λ (q : List (x.Annex Q)). let y : d.TypeDeclaration Q =
    record {
      at = f (g t.at);
      category = t.category;
      name = identifier_view (λ n. f (g n)) t.name;
      features = map (feature_view (λ n. f (g n))) t.features.items;
      properties = associations_view (λ n. f (g n)) t.properties.items;
      annexes = q;
      end_name = identifier_view (λ n. f (g n)) t.end_name;
    } in y)
    (each_tied (annex_to f) (annex_view g) (annex_view (λ n. f (g n))) (annex_tied f g) t.annexes.items)

implementation_tied : {P Q : Type 0} (f : P → Q) (g : ℕ → P) (t : source_implementation.Implementation)
    → implementation_to f (implementation_view g t) ≡ implementation_view (λ n. f (g n)) t
implementation_tied {Q = Q} f g t =
    ap (λ (q : List (d.Subcomponent Q)). let y : d.Implementation Q =
    record {
      at = f (g t.at);
      category = t.category;
      name = implementation_name_view (λ n. f (g n)) t.name;
      subcomponents = q;
      connections = map (connection_to f) (map (connection_view g) t.connections.items);
      properties = associations_to f (associations_view g t.properties.items);
      annexes = map (annex_to f) (map (annex_view g) t.annexes.items);
      end_name = implementation_name_view (λ n. f (g n)) t.end_name;
    } in y)
    (each_tied (subcomponent_to f) (subcomponent_view g) (subcomponent_view (λ n. f (g n)))
    (subcomponent_tied f g) t.subcomponents.items)
    ∙ ap (λ (q : List (d.Connection Q)). let y : d.Implementation Q =
    record {
      at = f (g t.at);
      category = t.category;
      name = implementation_name_view (λ n. f (g n)) t.name;
      subcomponents = map (subcomponent_view (λ n. f (g n))) t.subcomponents.items;
      connections = q;
      properties = associations_to f (associations_view g t.properties.items);
      annexes = map (annex_to f) (map (annex_view g) t.annexes.items);
      end_name = implementation_name_view (λ n. f (g n)) t.end_name;
    } in y)
    (each_tied (connection_to f) (connection_view g) (connection_view (λ n. f (g n))) (connection_tied f g)
    t.connections.items)
    ∙ ap (λ (q : v.Associations Q). let y : d.Implementation Q =
    record {
      at = f (g t.at);
      category = t.category;
      name = implementation_name_view (λ n. f (g n)) t.name;
      subcomponents = map (subcomponent_view (λ n. f (g n))) t.subcomponents.items;
      connections = map (connection_view (λ n. f (g n))) t.connections.items;
      properties = q;
      annexes = map (annex_to f) (map (annex_view g) t.annexes.items);
      end_name = implementation_name_view (λ n. f (g n)) t.end_name;
    } in y)
    (associations_tied f g t.properties.items)
    ∙ ap (λ (q : List (x.Annex Q)). let y : d.Implementation Q =
    record {
      at = f (g t.at);
      category = t.category;
      name = implementation_name_view (λ n. f (g n)) t.name;
      subcomponents = map (subcomponent_view (λ n. f (g n))) t.subcomponents.items;
      connections = map (connection_view (λ n. f (g n))) t.connections.items;
      properties = associations_view (λ n. f (g n)) t.properties.items;
      annexes = q;
      end_name = implementation_name_view (λ n. f (g n)) t.end_name;
    } in y)
    (each_tied (annex_to f) (annex_view g) (annex_view (λ n. f (g n))) (annex_tied f g) t.annexes.items)

declaration_tied : {P Q : Type 0} (f : P → Q) (g : ℕ → P) (t : source_declaration.Declaration)
    → declaration_to f (declaration_view g t) ≡ declaration_view (λ n. f (g n)) t
declaration_tied f g (declarations.Type t) = ap d.type (type_tied f g t)
declaration_tied f g (declarations.Implementation t) = ap d.implementation (implementation_tied f g t)

pub package_tied : {P Q : Type 0} (f : P → Q) (g : ℕ → P) (t : source.PackageTree)
    → package_to f (package_view g t) ≡ package_view (λ n. f (g n)) t
package_tied {Q = Q} f g t =
    ap (λ (q : n.Name Q). let y : d.PackageTree Q =
    record {
      name = q;
      withs = map (with_to f) (map (with_view g) t.withs.items);
      declarations = map (declaration_to f) (map (declaration_view g) t.declarations.items);
      end_name = name_to f (name_view g t.end_name);
    } in y) (name_tied f g t.name)
    ∙ ap (λ (q : List (d.With Q)). let y : d.PackageTree Q =
    record {
      name = name_view (λ n. f (g n)) t.name;
      withs = q;
      declarations = map (declaration_to f) (map (declaration_view g) t.declarations.items);
      end_name = name_to f (name_view g t.end_name);
    } in y)
    (each_tied (with_to f) (with_view g) (with_view (λ n. f (g n))) (with_tied f g) t.withs.items)
    ∙ ap (λ (q : List (d.Declaration Q)). let y : d.PackageTree Q =
    record {
      name = name_view (λ n. f (g n)) t.name;
      withs = map (with_view (λ n. f (g n))) t.withs.items;
      declarations = q;
      end_name = name_to f (name_view g t.end_name);
    } in y)
    (each_tied (declaration_to f) (declaration_view g) (declaration_view (λ n. f (g n)))
    (declaration_tied f g) t.declarations.items)
    ∙ ap (λ (q : n.Name Q). let y : d.PackageTree Q =
    record {
      name = name_view (λ n. f (g n)) t.name;
      withs = map (with_view (λ n. f (g n))) t.withs.items;
      declarations = map (declaration_view (λ n. f (g n))) t.declarations.items;
      end_name = q;
    } in y)
    (name_tied f g t.end_name)
