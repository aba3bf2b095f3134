-- The plain trees of whole packages, with their places and without them.
use Rattle.std.specs.Prelude.{ℕ, map}
use Rattle.aadl_tree.specs.Declarations.{PackageTree}
use Rattle.aadl_tree.specs.proof.NameViews.{name_view}
use Rattle.aadl_tree.specs.proof.DeclarationViews.{with_view, declaration_view}
use Rattle.aadl_tree.specs.proof.PlaceMaps.{kept_place, no_place}
use Rattle.aadl_tree.specs.declared.package.PackageTree as source

abbrev pub package_view : {P : Type 0} → (ℕ → P) → source.PackageTree → PackageTree P
package_view place x =
    record {
      name = name_view place x.name;
      withs = map (with_view place) x.withs.items;
      declarations = map (declaration_view place) x.declarations.items;
      end_name = name_view place x.end_name;
    }

abbrev pub placed : source.PackageTree → PackageTree ℕ
placed tree = package_view kept_place tree

abbrev pub meaning : source.PackageTree → PackageTree (Unit {0})
meaning tree = package_view no_place tree
