-- Declarations without their category, and the parts of a package.
use Rattle.std.specs.Prelude.{ℕ, List, ◌∷◌, ◌++◌, flat_map, map}
use Rattle.aadl_tree.specs.SpellingParts.{SpellingPart, plain, feature_section, subcomponent_section}
use Rattle.aadl_tree.specs.SpellingParts.{connection_section}
use Rattle.aadl_tree.specs.SpellingParts.{property_section}
use Rattle.aadl_tree.specs.Names.{identifier_parts}
use Rattle.aadl_tree.specs.Values.{associations_parts}
use Rattle.aadl_tree.specs.Annexes.{annex_parts}
use Rattle.aadl_tree.specs.Declarations.{PackageTree, section_parts, feature_parts, subcomponent_parts}
use Rattle.aadl_tree.specs.Declarations.{connection_parts, implementation_name_parts, ending_parts}
use Rattle.aadl_tree.specs.proof.NameViews.{identifier_view, name_view}
use Rattle.aadl_tree.specs.proof.ValueViews.{associations_view}
use Rattle.aadl_tree.specs.proof.DeclarationViews.{feature_view, subcomponent_view, connection_view}
use Rattle.aadl_tree.specs.proof.DeclarationViews.{implementation_name_view, with_view, declaration_view}
use Rattle.aadl_tree.specs.proof.AnnexViews.{annex_view}
use Rattle.aadl_tree.specs.proof.PlaceMaps.{kept_place}
use Rattle.aadl_parse.specs.declared.declarations.TypeRest.{TypeRest}
use Rattle.aadl_parse.specs.declared.declarations.ImplementationRest.{ImplementationRest}
use Rattle.aadl_parse.specs.declared.whole_package.PackageParts.{PackageParts}
use Rattle.aadl_parse.specs.declared.declarations.DeclarationRest.{DeclarationRest}
use Rattle.aadl_tree.specs.declared.mark.Mark.TheVariants as k
use Rattle.aadl_parse.specs.declared.declarations.DeclarationRest.TheVariants as rests

abbrev pub type_rest_parts : TypeRest → List (SpellingPart ℕ)
type_rest_parts x =
    identifier_parts (identifier_view kept_place x.name)
    ++ (section_parts feature_section (flat_map feature_parts (map (feature_view kept_place) x.features.items))
    ++ (section_parts property_section (associations_parts (associations_view kept_place x.properties.items))
    ++ (flat_map annex_parts (map (annex_view kept_place) x.annexes.items)
    ++ ending_parts (identifier_parts (identifier_view kept_place x.end_name)))))

abbrev pub implementation_rest_parts : ImplementationRest → List (SpellingPart ℕ)
implementation_rest_parts x =
    plain k.Implementation ∷ (implementation_name_parts (implementation_name_view kept_place x.name)
    ++ (section_parts subcomponent_section
    (flat_map subcomponent_parts (map (subcomponent_view kept_place) x.subcomponents.items))
    ++ (section_parts connection_section
    (flat_map connection_parts (map (connection_view kept_place) x.connections.items))
    ++ (section_parts property_section (associations_parts (associations_view kept_place x.properties.items))
    ++ (flat_map annex_parts (map (annex_view kept_place) x.annexes.items)
    ++ ending_parts (implementation_name_parts (implementation_name_view kept_place x.end_name)))))))

abbrev pub rest_parts : DeclarationRest → List (SpellingPart ℕ)
rest_parts (rests.Type x) = type_rest_parts x
rest_parts (rests.Implementation x) = implementation_rest_parts x

-- the tree of the parts of a package
abbrev pub package_of : PackageParts → PackageTree ℕ
package_of x =
    record {
      name = name_view kept_place x.name;
      withs = map (with_view kept_place) x.withs.items;
      declarations = map (declaration_view kept_place) x.declarations.items;
      end_name = name_view kept_place x.end_name;
    }
