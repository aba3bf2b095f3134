use Rattle.std.proofs.Common.{◌≡◌, ◌++◌, map, take}
use Rattle.std.specs.Prelude.{flat_map}
use Rattle.std.specs.List.{enumerate_from}
use Rattle.aadl_tree.specs.proof.DeclarationViews.{declaration_view}
use Rattle.aadl_tree.specs.proof.PlaceMaps.{kept_place}
use Rattle.model_violations.specs.IgnoredProperties.{declaration_ignored}
use Rattle.model_violations.proofs.ignored_package_properties.add_declarations.Given as goal

abbrev pub invariant-loop-number : goal.invariant-loop-number
invariant-loop-number l =
    l.found ≡ l.fn.found ++ flat_map (declaration_ignored l.root l.root_type)
    (enumerate_from 0 (map (declaration_view kept_place) (take l.number l.tree.declarations.items)))
