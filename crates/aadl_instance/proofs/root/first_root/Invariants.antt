use Rattle.std.proofs.Common.{◌≡◌, drop, map}
use Rattle.std.specs.List.{position_from}
use Rattle.aadl_tree.specs.proof.PlaceMaps.{kept_place}
use Rattle.aadl_tree.specs.proof.DeclarationViews.{declaration_view}
use Rattle.aadl_names.specs.NameResolution.{is_root}
use Rattle.aadl_instance.proofs.root.first_root.Given as goal

-- it is among the remaining declarations
abbrev pub invariant-loop-number : goal.invariant-loop-number
invariant-loop-number l = position_from (is_root l.name) 0 (map (declaration_view kept_place) l.declarations)
    ≡ position_from (is_root l.name) l.number (drop l.number (map (declaration_view kept_place) l.declarations))
