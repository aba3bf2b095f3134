-- An order of blocks after one more turn of the search.
use Rattle.std.proofs.Common.{◌≡◌, ℕ, suc, ◌+◌, ◌-◌, ◌<◌, List, ap, arith}
use Rattle.pals_base.specs.declared.behaviour.BehaviourParts.{BehaviourParts}
use Rattle.step_compiler.specs.proof.BlockOrder.{next_state, with_next, ordered}

pub next_turn : (n i : ℕ) (b : BehaviourParts) (order : List ℕ) → i < n
    → ordered (n - (i + 1)) b (with_next order (next_state b order)) ≡ ordered (n - i) b order
next_turn n i b order within = let e : suc (n - (i + 1)) ≡ n - i = omega arith in ap (λ k. ordered k b order) e
