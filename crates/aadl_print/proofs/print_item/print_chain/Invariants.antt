use Rattle.std.proofs.Common.{◌≡◌, map, drop}
use Rattle.std.specs.List.{flat_map}
use Rattle.aadl_tree.specs.SpellingParts.{behind}
use Rattle.aadl_print.specs.proof.PrintedText.{printed}
use Rattle.aadl_print.proofs.print_item.print_chain.Given as goal

-- the remaining items are still to be printed
abbrev pub invariant-loop-item : goal.invariant-loop-item
invariant-loop-item g l =
    printed l.initial.printer (flat_map (behind l.separator g.T.PrintItem.parts) (map g.T.PrintItem.tree l.rest))
    ≡ printed l.printer (flat_map (behind l.separator g.T.PrintItem.parts)
    (map g.T.PrintItem.tree (drop l.item-index l.rest)))
