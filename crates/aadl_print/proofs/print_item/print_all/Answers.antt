use Rattle.std.proofs.Common.{refl, map}
use Rattle.std.specs.List.{flat_map}
use Rattle.aadl_print.proofs.PrintedLists.{next_written}
use Rattle.aadl_print.proofs.print_item.print_all.Goals as goal

pub loop-item-preserved : goal.loop-item-preserved
loop-item-preserved g c =
    next_written (λ xs. flat_map g.T.PrintItem.parts (map g.T.PrintItem.tree xs))
    (λ x. g.T.PrintItem.parts (g.T.PrintItem.tree x))
    (λ x xs. refl) _ _ _ _ _ _
    c.loop-item-test.true c.item-item.is c.loop-item.invariant c.in_ok-print.ensures
