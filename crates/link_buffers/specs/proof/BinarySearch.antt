-- The test of a binary search, and the place that the search finds.
use Rattle.std.specs.Prelude.{◌≡◌, ℕ, Bool, true, false, List}
use Rattle.std.specs.Borrow.{Bor}
use Rattle.std.specs.Fn.{Shared, FnReturnsAt}
use Rattle.std.specs.List.Sorted.{IsPartitionPoint}

-- each call of the test at an item answers p of it
abbrev pub IsTest : {F T : Type 0} → Shared F (Bor T × Unit {0}) Bool → F → (T → Bool) → Type 0
IsTest {F} {T} g test p = (x : T) (answer : Bool) → FnReturnsAt g test x answer → answer ≡ p x

-- the items ahead of a place pass, and those from it on fail
abbrev pub IsFirstToFail : {T : Type 0} → (T → Bool) → List T → ℕ → Type 0
IsFirstToFail p items place = IsPartitionPoint (λ x. p x ≡ true) (λ x. p x ≡ false) items place
