use Rattle.std.proofs.Common.{take}
use Rattle.aadl_tree.specs.proof.PlaceMaps.{kept_place}
use Rattle.aadl_tree.specs.proof.ExpressionViews.{factors_view, terms_view, relations_view}
use Rattle.annex_resolve.specs.ExpressionTypesAndFindings.{factors_types, terms_types, relations_types}
use Rattle.annex_resolve.specs.ResolvedTrees.{factors_of, terms_of, relations_of}
use Rattle.annex_resolve.specs.proof.ResolutionResults.{ResolvesOperands}
use Rattle.annex_resolve.proofs.expressions.+expression.Given as goal

-- the operands so far have been read
abbrev pub invariant-resolve_factors-loop-operator : goal.invariant-resolve_factors-loop-operator
invariant-resolve_factors-loop-operator l =
    let xs = factors_view kept_place (take l.operator-index l.factors) in
    ResolvesOperands (factors_of l.scope xs) (factors_types l.scope xs) l.operands.items l.fn.found l.found

abbrev pub invariant-resolve_relations-loop-operator : goal.invariant-resolve_relations-loop-operator
invariant-resolve_relations-loop-operator l =
    let xs = relations_view kept_place (take l.operator-index l.relations) in
    ResolvesOperands (relations_of l.scope xs) (relations_types l.scope xs) l.operands.items l.fn.found l.found

abbrev pub invariant-resolve_terms-loop-sign : goal.invariant-resolve_terms-loop-sign
invariant-resolve_terms-loop-sign l =
    let xs = terms_view kept_place (take l.sign-index l.terms) in
    ResolvesOperands (terms_of l.scope xs) (terms_types l.scope xs) l.operands.items l.fn.found l.found
