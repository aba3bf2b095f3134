use Rattle.std.proofs.Common.{◌≡◌, ◌∙◌, ℕ, List, map, sym, subst, rules}
use Rattle.std.specs.Prelude.{IsTrue}
use Rattle.std.proofs.lemmas.List.{append-nil}
use Rattle.std.proofs.lemmas.List.Sorted.{IsPermutation-map, sum_by-IsPermutation, answers_always}
use Rattle.list_lemmas.proofs.PairwiseProperties.{pairs_from}
use Rattle.round_budget.specs.Budgets.{Release, releases, releases_in, in_order, precedes, serve, numbers}
use Rattle.round_budget.proofs.BudgetLaws.{served_in_order}
use Rattle.round_budget.specs.proof.ReleaseAndLineValues.{release_value}
use Rattle.round_budget.proofs.SortedUniqueness.{AreSame, only_one, same_in_order, all_not_after, all_before}
use Rattle.round_budget.proofs.releases.ordered_releases.Goals as goal

pub returns : goal.returns
returns c =
    let design = c.args.design.now in
    let members = numbers c.args.members.now in
    let made = c.in_ok-releases.releases.items in
    let sorted = c.sort_unstable_by_key.new.self.items in
    let all = releases design members 1 in
    let are : map release_value made ≡ all = c.in_ok-releases.ensures
    ∙ sym (append-nil (releases_in design members 0)) in
    let moved = IsPermutation-map release_value made sorted c.sort_unstable_by_key.ensures.permutation in
    let kept : AreSame all (map release_value sorted) =
    subst (λ (xs : List Release). AreSame xs (map release_value sorted)) are
    (λ f. sym (sum_by-IsPermutation f (map release_value made) (map release_value sorted) moved)) in
    let same : AreSame (in_order all) (map release_value sorted) = λ f. same_in_order all f ∙ kept f in
    let none : Release → ℕ = λ x. 0 in
    let before =
    all_before none 0 (in_order all)
    (pairs_from (λ s t. IsTrue (precedes s.release t.release)) (serve none 0 (in_order all))
    (served_in_order design members c.requires.rules c.requires.members 1 none)) in
    let after =
    all_not_after sorted (c.sort_unstable_by_key.ensures.sorted (λ x. (x.time, x.node.0))
    (answers_always _ _ _ (λ f a r g h. search rules))) in
    sym (only_one (in_order all) (map release_value sorted) same before after)
