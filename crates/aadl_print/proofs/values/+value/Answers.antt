use Rattle.std.proofs.Common.{◌∙◌, ◌∷◌, refl, ap, arith}
use Rattle.list_lemmas.proofs.Results.{OnOk-same}
use Rattle.aadl_tree.specs.Values.{association_parts, associations_parts, value_parts, more_values_parts}
use Rattle.aadl_tree.specs.proof.ValueViews.{value_view, association_view, associations_view, values_view}
use Rattle.aadl_tree.specs.proof.PlaceMaps.{no_place}
use Rattle.aadl_tree.specs.SpellingParts.{plain}
use Rattle.aadl_tree.specs.declared.mark.Mark.TheVariants as k
use Rattle.aadl_tree.proofs.ValueViews.{view-List, view-Record, view-Reference, view-Classifier, view_out_association}
use Rattle.aadl_print.proofs.PrintedLists.{printed_append, next_written, last_written, parted}
use Rattle.aadl_print.proofs.values.+value.Goals as goal

pub print_value-returns-in_ok-print_values-in-List : goal.print_value-returns-in_ok-print_values-in-List
print_value-returns-in_ok-print_values-in-List t c =
    let view = ap (value_view no_place) c.in-List.is ∙ view-List no_place c.in-List.values in
    OnOk-same c.mark-in-List.result c.mark-in-List.new.self _ _
    (rw (view, printed_append)
    (cc (c.in_ok-mark-in-List.ensures, c.in_ok-print_values-in-List.ensures, c.deref.ensures.value)))
    c.mark-in-List.ensures

pub print_value-returns-in_ok-print_associations-in-Record : goal.print_value-returns-in_ok-print_associations-in-Record
print_value-returns-in_ok-print_associations-in-Record t c =
    let view = ap (value_view no_place) c.in-Record.is ∙ view-Record no_place c.in-Record.associations in
    OnOk-same c.mark-in-Record-2.result c.mark-in-Record-2.new.self _ _
    (rw (view, printed_append)
    (cc (
      c.in_ok-mark-in-Record.ensures,
      c.in_ok-print_associations-in-Record.ensures,
      c.deref-in-Record.ensures.value,
    ))) c.mark-in-Record-2.ensures

pub print_value-returns-in_ok-print-in-Reference : goal.print_value-returns-in_ok-print-in-Reference
print_value-returns-in_ok-print-in-Reference t c =
    let view = ap (value_view no_place) c.in-Reference.is ∙ view-Reference no_place c.in-Reference.path in
    OnOk-same c.mark-in-Reference-3.result c.mark-in-Reference-3.new.self _ _
    (rw (view, printed_append)
    (cc (
      c.in_ok-mark-in-Reference.ensures,
      c.in_ok-mark-in-Reference-2.ensures,
      c.in_ok-print-in-Reference.ensures,
    ))) c.mark-in-Reference-3.ensures

pub print_value-returns-in_ok-print-in-Classifier : goal.print_value-returns-in_ok-print-in-Classifier
print_value-returns-in_ok-print-in-Classifier t c =
    let view = ap (value_view no_place) c.in-Classifier.is ∙ view-Classifier no_place c.in-Classifier.reference in
    OnOk-same c.mark-in-Classifier-3.result c.mark-in-Classifier-3.new.self _ _
    (rw (view, printed_append)
    (cc (
      c.in_ok-mark-in-Classifier.ensures,
      c.in_ok-mark-in-Classifier-2.ensures,
      c.in_ok-print-in-Classifier.ensures,
    ))) c.mark-in-Classifier-3.ensures

pub print_associations-loop-association-preserved : goal.print_associations-loop-association-preserved
print_associations-loop-association-preserved t c =
    next_written (λ xs. associations_parts (associations_view no_place xs))
    (λ x. association_parts (association_view no_place x)) (λ x xs. refl) _ _ _ _ _ _
    c.loop-association-test.true c.association-item.is c.loop-association.invariant c.in_ok-print_association.ensures

pub print_values-loop-value-preserved : goal.print_values-loop-value-preserved
print_values-loop-value-preserved t c =
    next_written (λ xs. more_values_parts (values_view no_place xs))
    (λ x. plain k.Comma ∷ value_parts (value_view no_place x)) (λ x xs. refl) _ _ _ _ _ _
    c.loop-value-test.true c.value-item.is c.loop-value.invariant
    (cc (c.in_ok-mark.ensures, c.in_ok-print_value-2.ensures))

pub print_values-returns : goal.print_values-returns
print_values-returns t c =
    let whole = parted c.args.values.now c.first-item.result c.in-len1-up.len_at_least c.first-item.is in
    let rest =
    last_written (λ xs. more_values_parts (values_view no_place xs)) _ _ _ _ c.loop-value-test.false refl
    c.loop-value.invariant in
    rw (whole, printed_append) (cc c.in_ok-print_value.ensures)

pub print_association-returns : goal.print_association-returns
print_association-returns t c =
    let view = view_out_association no_place c.args.association.now in
    OnOk-same c.mark-2.result c.mark-2.new.self _ _
    (rw view (grind (
      arith,
      printed_append,
      c.in_ok-print.ensures,
      c.in_ok-mark.ensures,
      c.association_mark.ensures,
      c.in_ok-print_if.ensures,
      c.in_ok-print_value.ensures,
      c.in_ok-print_applies.ensures,
      c.as_slice.ensures.value,
    )))
    c.mark-2.ensures
