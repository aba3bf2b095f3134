use Rattle.std.proofs.Common.{refl, map}
use Rattle.std.specs.List.{flat_map}
use Rattle.aadl_tree.specs.Names.{qualifier_parts}
use Rattle.aadl_tree.specs.proof.NameViews.{identifier_view}
use Rattle.aadl_tree.specs.proof.PlaceMaps.{no_place}
use Rattle.aadl_print.proofs.PrintedLists.{next_written}
use Rattle.aadl_print.proofs.names.print_qualifiers.Goals as goal

pub loop-name-preserved : goal.loop-name-preserved
loop-name-preserved c =
    next_written (λ xs. flat_map qualifier_parts (map (identifier_view no_place) xs))
    (λ x. qualifier_parts (identifier_view no_place x)) (λ x xs. refl) _ _ _ _ _ _
    c.loop-name-test.true c.name-item.is c.loop-name.invariant (cc (c.in_ok-mark.ensures, c.in_ok-print.ensures))
