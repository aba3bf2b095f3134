use Rattle.std.proofs.Common.{◌∙◌, filter, subst, sym, ap, rules}
use Rattle.std.specs.List.Sorted.{IsSortedBy, ties}
use Rattle.std.proofs.lemmas.List.Sorted.{answers_always}
use Rattle.model_violations.specs.Violations.{goes_before}
use Rattle.model_violations.proofs.FindingOrder.{goes_before_orders}
use Rattle.model_violations.proofs.sorted_findings.in_order.Goals as goal

pub returns-clause-sorted : goal.returns-clause-sorted
returns-clause-sorted c =
    subst (IsSortedBy goes_before) (sym c.from_vec.ensures)
    (c.in_ok-sort_by.ensures.sorted goes_before goes_before_orders
    (answers_always _ _ _ (λ f a r g h. search rules)))

pub returns-clause-same : goal.returns-clause-same
returns-clause-same c = λ x.
    ap (filter (ties goes_before x)) c.from_vec.ensures
    ∙ c.in_ok-sort_by.ensures.stable goes_before goes_before_orders
    (answers_always _ _ _ (λ f a r g h. search rules)) x
    ∙ ap (filter (ties goes_before x)) c.into_vec-list.ensures
