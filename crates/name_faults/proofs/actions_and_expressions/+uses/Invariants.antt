use Rattle.std.proofs.Common.{◌≡◌, drop}
use Rattle.aadl_tree.specs.proof.ExpressionViews.{factors_view, terms_view, relations_view}
use Rattle.aadl_tree.specs.proof.PlaceMaps.{kept_place}
use Rattle.aadl_names.specs.NameUseFaults.{factors_uses, terms_uses, relations_uses}
use Rattle.aadl_names.specs.proof.FirstFaultSoFar.{found}
use Rattle.name_faults.specs.proof.BehaviourScopes.{known_by}
use Rattle.name_faults.proofs.actions_and_expressions.+uses.Given as goal

-- the remaining part is still to be checked
abbrev pub invariant-check_expression-loop-operand : goal.invariant-check_expression-loop-operand
invariant-check_expression-loop-operand l =
    found l.initial.finder (relations_uses (known_by l.scope) (relations_view kept_place l.operand-items))
    ≡ found l.finder (relations_uses (known_by l.scope)
    (relations_view kept_place (drop l.operand-index l.operand-items)))

abbrev pub invariant-check_sum-loop-operand : goal.invariant-check_sum-loop-operand
invariant-check_sum-loop-operand l =
    found l.initial.finder (terms_uses (known_by l.scope) (terms_view kept_place l.operand-items))
    ≡ found l.finder (terms_uses (known_by l.scope) (terms_view kept_place (drop l.operand-index l.operand-items)))

abbrev pub invariant-check_term-loop-operand : goal.invariant-check_term-loop-operand
invariant-check_term-loop-operand l =
    found l.initial.finder (factors_uses (known_by l.scope) (factors_view kept_place l.operand-items))
    ≡ found l.finder (factors_uses (known_by l.scope) (factors_view kept_place (drop l.operand-index l.operand-items)))
