-- A processor's members have rising numbers below the number of components, so they are no more than the components.
use Rattle.std.proofs.Common.{inl, inr, ℕ, zero, suc, ◌+◌, ◌<◌, ◌≤◌, List, length, All, AllPairs, subst, arith, add-one}
use Rattle.std.specs.Prelude.{slice_index, slice_index_or}
use Rattle.std.specs.List.Sorted.{IsStrictlyIncreasing}
use Rattle.std.proofs.lemmas.Bool.{cases_lt}
use Rattle.std.proofs.lemmas.List.{length-map, get_or-map}
use Rattle.std.proofs.lemmas.List.Elements.{All-map}
use Rattle.pals_base.specs.declared.basic_types.NodeNo.{NodeNo}
use Rattle.pals_model.specs.declared.design.DesignParts.{DesignParts}
use Rattle.round_budget.specs.proof.BudgetLaws.{AreMembers}
use Rattle.round_budget.specs.Budgets.{numbers}

-- a rising list has at each place at least the place's number
rising_at_least : (xs : List ℕ) (k : ℕ) → IsStrictlyIncreasing xs → k < length xs → k ≤ slice_index xs k
rising_at_least xs zero rising within = omega arith
rising_at_least xs (suc k) rising within =
    let before = rising_at_least xs k rising (omega arith) in
    let step : slice_index xs k < slice_index xs (suc k) =
    subst (λ j. slice_index xs k < slice_index xs j) (add-one k) (rising k (omega arith)) in
    omega (arith, before, step)

-- there are at most m rising numbers below m
pub rising_few : (xs : List ℕ) (m : ℕ) → IsStrictlyIncreasing xs → All (λ n. n < m) xs → length xs ≤ m
rising_few xs m rising below =
    elim (cases_lt m (length xs)) [
      | inl over ↦ (
          let least = rising_at_least xs m rising over in
          let most = below m 0 over in
          absurd (omega (arith, least, most)))
      | inr fits ↦ fits
    ]

-- a property of the number of each member
pub member_at : (P : ℕ → Type 0) (members : List NodeNo) (k : ℕ) (d : NodeNo) → All P (numbers members)
    → k < length members → P (slice_index_or members k d).0
member_at P members k d all within =
    let count = length-map members (λ (m : NodeNo). m.0) in
    subst P (get_or-map (λ (m : NodeNo). m.0) members k d 0 within) (all k 0 (omega (arith, count, within)))

-- ---- numbers of components in rising order
pub nodes_are_members : (design : DesignParts) (nodes : List NodeNo)
    → All (λ (n : NodeNo). n.0 < length design.components) nodes
    → AllPairs (λ (a b : NodeNo). a.0 < b.0) nodes → AreMembers design (numbers nodes)
nodes_are_members design nodes within rising = record {
  within = All-map (λ node. node < length design.components) (λ (n : NodeNo). n.0) nodes within;
  rising = λ k below. (
      let count = length-map nodes (λ (n : NodeNo). n.0) in
      let none : NodeNo = record { 0 = 0 } in
      let next : k + 1 < length nodes = omega (arith, count, below) in
      rw (
        get_or-map (λ (n : NodeNo). n.0) nodes k none 0 (omega arith),
        get_or-map (λ (n : NodeNo). n.0) nodes (k + 1) none 0 next,
      )
      (rising k (k + 1) none (omega arith) next));
}
