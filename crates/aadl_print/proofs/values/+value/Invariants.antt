use Rattle.std.proofs.Common.{◌≡◌, drop}
use Rattle.aadl_tree.specs.Values.{more_values_parts, associations_parts}
use Rattle.aadl_tree.specs.proof.ValueViews.{values_view, associations_view}
use Rattle.aadl_tree.specs.proof.PlaceMaps.{no_place}
use Rattle.aadl_print.specs.proof.PrintedText.{printed}
use Rattle.aadl_print.proofs.values.+value.Given as goal

-- the remaining items are still to be printed
abbrev pub invariant-print_associations-loop-association : goal.invariant-print_associations-loop-association
invariant-print_associations-loop-association l =
    printed l.initial.printer (associations_parts (associations_view no_place l.associations))
    ≡ printed l.printer (associations_parts (associations_view no_place (drop l.association-index l.associations)))

abbrev pub invariant-print_values-loop-value : goal.invariant-print_values-loop-value
invariant-print_values-loop-value l =
    printed l.initial.printer (more_values_parts (values_view no_place l.rest))
    ≡ printed l.printer (more_values_parts (values_view no_place (drop l.value-index l.rest)))
