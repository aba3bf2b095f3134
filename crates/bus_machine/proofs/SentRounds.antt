-- The rounds that a node has sent.
use Rattle.std.proofs.Common.{◌≡◌, ◌≢◌, ℕ, suc, ◌+◌, ◌-◌, ◌≤◌, Bool, true, false, if◌then◌else◌, sym, arith}
use Rattle.std.proofs.lemmas.Bool.{false≢true}

pub sent_most : (sent : Bool) (count : ℕ) → (if sent then count else (count - 1)) ≤ count
sent_most true count = omega arith
sent_most false count = omega arith

pub sent_at_start : (sent : Bool) (count : ℕ) → sent ≡ true → count + 1 - 1 ≡ (if sent then count else (count - 1))
sent_at_start true count is = omega arith
sent_at_start false count is = absurd (false≢true is)

pub sent_behind : (sent : Bool) (count round : ℕ) → sent ≡ false → count ≡ suc round
    → count ≡ (if sent then count else (count - 1)) + 1
sent_behind true count round unsent some = absurd (false≢true (sym unsent))
sent_behind false count round unsent some = omega arith
