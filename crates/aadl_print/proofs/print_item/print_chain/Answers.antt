use Rattle.std.proofs.Common.{refl, map}
use Rattle.std.specs.List.{flat_map}
use Rattle.aadl_tree.specs.SpellingParts.{behind}
use Rattle.aadl_print.proofs.PrintedLists.{printed_append, next_written, last_written}
use Rattle.aadl_print.proofs.print_item.print_chain.Goals as goal

pub loop-item-preserved : goal.loop-item-preserved
loop-item-preserved g c =
    next_written (λ xs. flat_map (behind c.args.separator g.T.PrintItem.parts) (map g.T.PrintItem.tree xs))
    (λ x. behind c.args.separator g.T.PrintItem.parts (g.T.PrintItem.tree x)) (λ x xs. refl) _ _ _ _ _ _
    c.loop-item-test.true c.item-item.is c.loop-item.invariant (cc (c.in_ok-mark.ensures, c.in_ok-print-2.ensures))

pub returns : goal.returns
returns g c =
    let rest =
    last_written (λ xs. flat_map (behind c.args.separator g.T.PrintItem.parts) (map g.T.PrintItem.tree xs)) _ _ _ _
    c.loop-item-test.false refl c.loop-item.invariant in
    rw printed_append (cc c.in_ok-print.ensures)
