use Rattle.std.proofs.Common.{◌≡◌, map, drop}
use Rattle.std.specs.List.{flat_map}
use Rattle.aadl_tree.specs.Names.{qualifier_parts}
use Rattle.aadl_tree.specs.proof.NameViews.{identifier_view}
use Rattle.aadl_tree.specs.proof.PlaceMaps.{no_place}
use Rattle.aadl_print.specs.proof.PrintedText.{printed}
use Rattle.aadl_print.proofs.names.print_qualifiers.Given as goal

-- the remaining items are still to be printed
abbrev pub invariant-loop-name : goal.invariant-loop-name
invariant-loop-name l =
    printed l.initial.printer (flat_map qualifier_parts (map (identifier_view no_place) l.names))
    ≡ printed l.printer (flat_map qualifier_parts (map (identifier_view no_place) (drop l.name-index l.names)))
