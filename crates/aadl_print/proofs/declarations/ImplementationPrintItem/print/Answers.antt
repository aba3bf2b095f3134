use Rattle.std.proofs.Common.{arith}
use Rattle.list_lemmas.proofs.Results.{OnOk-same}
use Rattle.aadl_print.proofs.PrintedLists.{printed_append}
use Rattle.aadl_print.proofs.NonemptyPropertiesAndSections.{printed_section}
use Rattle.aadl_print.proofs.declarations.ImplementationPrintItem.print.Goals as goal

pub returns : goal.returns
returns c =
    OnOk-same c.mark-4.result c.mark-4.new.self _ _
    (grind (
      arith,
      printed_append,
      printed_section,
      c.category_mark.ensures,
      c.in_ok-mark.ensures,
      c.in_ok-mark-2.ensures,
      c.in_ok-print.ensures,
      c.as_slice.ensures.value,
      c.in_ok-print_section.ensures,
      c.as_slice-2.ensures.value,
      c.in_ok-print_section-2.ensures,
      c.as_slice-3.ensures.value,
      c.in_ok-print_own_properties.ensures,
      c.as_slice-4.ensures.value,
      c.in_ok-print_all.ensures,
      c.in_ok-mark-3.ensures,
      c.in_ok-print-2.ensures,
    ))
    c.mark-4.ensures
