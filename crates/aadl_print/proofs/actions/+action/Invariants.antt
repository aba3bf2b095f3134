use Rattle.std.proofs.Common.{◌≡◌, drop}
use Rattle.aadl_tree.specs.Actions.{mores_parts, elsifs_parts}
use Rattle.aadl_tree.specs.proof.ActionViews.{mores_view, elsifs_view}
use Rattle.aadl_tree.specs.proof.PlaceMaps.{no_place}
use Rattle.aadl_print.specs.proof.PrintedText.{printed}
use Rattle.aadl_print.proofs.actions.+action.Given as goal

-- the remaining items are still to be printed
abbrev pub invariant-print_actions-loop-action : goal.invariant-print_actions-loop-action
invariant-print_actions-loop-action l =
    printed l.initial.printer (mores_parts (mores_view no_place l.action-items))
    ≡ printed l.printer (mores_parts (mores_view no_place (drop l.action-index l.action-items)))

abbrev pub invariant-print_choice-loop-elsif : goal.invariant-print_choice-loop-elsif
invariant-print_choice-loop-elsif l =
    printed l.initial.printer (elsifs_parts (elsifs_view no_place l.elsif-items))
    ≡ printed l.printer (elsifs_parts (elsifs_view no_place (drop l.elsif-index l.elsif-items)))
