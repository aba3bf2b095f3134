use Rattle.list_lemmas.proofs.Results.{OnOk-same}
use Rattle.aadl_tree.specs.proof.PlaceMaps.{no_place}
use Rattle.aadl_print.proofs.PrintedLists.{printed_append}
use Rattle.aadl_print.proofs.NonemptyPropertiesAndSections.{braced}
use Rattle.aadl_print.proofs.values.print_properties.Goals as goal

pub returns : goal.returns
returns c =
    OnOk-same c.mark-2.result c.mark-2.new.self _ _
    (rw (braced no_place c.args.properties.now c.if-is_empty.ensures, printed_append)
    (cc (c.in_ok-mark.ensures, c.in_ok-print_associations.ensures)))
    c.mark-2.ensures
