-- For the functions of `sleepers`: past the last node a thread is its node's own and awake, and a claim about the
-- nodes so far extends to one more.
use Rattle.std.proofs.Common.{◌≡◌, inl, inr, ℕ, zero, suc, ◌+◌, ◌<◌, List, [], ◌∷◌, slice_get, None, refl, sym, subst}
use Rattle.std.proofs.Common.{arith}
use Rattle.std.proofs.lemmas.Bool.{cases_eq}
use Rattle.node_threads.specs.declared.sleepers.ThreadSlot.{ThreadSlot}
use Rattle.node_threads.specs.proof.Sleepers.{slot_at, free_slot}

-- past the last slot
pub none_slot : (threads : List ThreadSlot) (node : ℕ) → None ≡ slice_get threads node
    → slot_at threads node ≡ free_slot
none_slot [] node is = refl
none_slot (s ∷ ss) zero is = absurd (cc)
none_slot (s ∷ ss) (suc k) is = none_slot ss k is

-- the claim about the nodes so far, and about one more
pub one_more : (P : ℕ → Type 0) (n : ℕ) → ((k : ℕ) → k < n → P k) → P n → (k : ℕ) → k < n + 1 → P k
one_more P n before here k below = elim (cases_eq k n) [
  | inl same ↦ subst P (sym same) here
  | inr other ↦ before k (omega arith)
]
