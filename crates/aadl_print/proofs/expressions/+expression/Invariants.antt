use Rattle.std.proofs.Common.{◌≡◌, drop}
use Rattle.aadl_tree.specs.Expressions.{factors_parts, terms_parts, relations_parts}
use Rattle.aadl_tree.specs.proof.ExpressionViews.{factors_view, terms_view, relations_view}
use Rattle.aadl_tree.specs.proof.PlaceMaps.{no_place}
use Rattle.aadl_print.specs.proof.PrintedText.{printed}
use Rattle.aadl_print.proofs.expressions.+expression.Given as goal

-- the remaining items are still to be printed
abbrev pub invariant-print_expression-loop-operator : goal.invariant-print_expression-loop-operator
invariant-print_expression-loop-operator l =
    printed l.initial.printer (relations_parts (relations_view no_place l.operator-items))
    ≡ printed l.printer (relations_parts (relations_view no_place (drop l.operator-index l.operator-items)))

abbrev pub invariant-print_sum-loop-sign : goal.invariant-print_sum-loop-sign
invariant-print_sum-loop-sign l =
    printed l.initial.printer (terms_parts (terms_view no_place l.sign-items))
    ≡ printed l.printer (terms_parts (terms_view no_place (drop l.sign-index l.sign-items)))

abbrev pub invariant-print_term-loop-operator : goal.invariant-print_term-loop-operator
invariant-print_term-loop-operator l =
    printed l.initial.printer (factors_parts (factors_view no_place l.operator-items))
    ≡ printed l.printer (factors_parts (factors_view no_place (drop l.operator-index l.operator-items)))
