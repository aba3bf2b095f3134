use Rattle.std.proofs.Common.{arith, ap, sym, ◌∙◌}
use Rattle.aadl_tree.specs.proof.ValueViews.{value_view}
use Rattle.aadl_tree.specs.proof.PlaceMaps.{no_place}
use Rattle.aadl_tree.proofs.ValueViews.{view-List, view-Record, view-Text, view-Reference, view-Classifier, view-Named}
use Rattle.aadl_tree.proofs.ValueViews.{view-Number}
use Rattle.aadl_tree.proofs.ValueVariants.{only_list, only_record, only_text, only_reference, only_classifier}
use Rattle.aadl_tree.proofs.ValueVariants.{only_name, only_number}
use Rattle.aadl_tree.proofs.EqualViewLengths.{values-length, associations-length}
use Rattle.aadl_tree.proofs.sameness.values.+same_value.Goals as goal

pub same_values-returns-then-left-right : goal.same_values-returns-then-left-right
same_values-returns-then-left-right t c =
    (λ yes. absurd cc, λ same. let e = values-length _ _ same in absurd (omega arith))

pub same_associations-returns-then-left-right : goal.same_associations-returns-then-left-right
same_associations-returns-then-left-right t c =
    (λ yes. absurd cc, λ same. let e = associations-length _ _ same in absurd (omega arith))

pub same_value-returns-in_default : goal.same_value-returns-in_default
same_value-returns-in_default t c =
    let here = c.in_default in
    let left = ap (value_view no_place) here.is-0 ∙ view-List no_place here.field-0-0 in (
      λ yes. absurd cc,
      λ same. let found = only_list c.args.right.now _ (sym same ∙ left) in
          absurd (here.not-List-1 found.0 found.1),
    )

pub same_value-returns-in_default-2 : goal.same_value-returns-in_default-2
same_value-returns-in_default-2 t c =
    let here = c.in_default in
    let left = ap (value_view no_place) here.is-0 ∙ view-Record no_place here.field-0-0 in (
      λ yes. absurd cc,
      λ same. let found = only_record c.args.right.now _ (sym same ∙ left) in
          absurd (here.not-Record-1 found.0 found.1),
    )

pub same_value-returns-in_default-3 : goal.same_value-returns-in_default-3
same_value-returns-in_default-3 t c =
    let here = c.in_default in
    let left = ap (value_view no_place) here.is-0 ∙ view-Text no_place here.field-0-0 in (
      λ yes. absurd cc,
      λ same. let found = only_text c.args.right.now _ (sym same ∙ left) in
          absurd (here.not-Text-1 found.0 found.1),
    )

pub same_value-returns-in_default-4 : goal.same_value-returns-in_default-4
same_value-returns-in_default-4 t c =
    let here = c.in_default in
    let left = ap (value_view no_place) here.is-0 ∙ view-Reference no_place here.field-0-0 in (
      λ yes. absurd cc,
      λ same. let found = only_reference c.args.right.now _ (sym same ∙ left) in
          absurd (here.not-Reference-1 found.0 found.1),
    )

pub same_value-returns-in_default-5 : goal.same_value-returns-in_default-5
same_value-returns-in_default-5 t c =
    let here = c.in_default in
    let left = ap (value_view no_place) here.is-0 ∙ view-Classifier no_place here.field-0-0 in (
      λ yes. absurd cc,
      λ same. let found = only_classifier c.args.right.now _ (sym same ∙ left) in
          absurd (here.not-Classifier-1 found.0 found.1),
    )

pub same_value-returns-in_default-6 : goal.same_value-returns-in_default-6
same_value-returns-in_default-6 t c =
    let here = c.in_default in
    let left = ap (value_view no_place) here.is-0 ∙ view-Named no_place here.field-0-0 in (
      λ yes. absurd cc,
      λ same. let found = only_name c.args.right.now _ (sym same ∙ left) in
          absurd (here.not-Named-1 found.0 found.1),
    )

pub same_value-returns-in_default-7 : goal.same_value-returns-in_default-7
same_value-returns-in_default-7 t c =
    let here = c.in_default in
    let left = ap (value_view no_place) here.is-0 ∙ view-Number no_place here.field-0-0 here.field-1-0 in (
      λ yes. absurd cc,
      λ same. let found = only_number c.args.right.now _ _ (sym same ∙ left) in
          absurd (here.not-Number-1 found.0 found.1 found.2),
    )
