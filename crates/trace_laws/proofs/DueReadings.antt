-- When a message of a world's node is due in a trace: after every start of its own round, and by the alarm of the next
-- one.
use Rattle.std.proofs.Common.{◌≡◌, ℕ, ◌+◌, ◌-◌, ◌*◌, ◌<◌, ◌≤◌, arith}
use Rattle.pals_base.specs.PeriodBoundAndReleases.{alarm}
use Rattle.std.specs.Prelude.{max}
use Rattle.run_laws.proofs.TimeArithmetic.{Fits}

-- `a` is the alarm of the round, `at` the time of the send, and `reading` the reading of its node's clock then
pub due_between : (eps alpha mu_min mu_max t k p s o : ℕ) → Fits eps alpha mu_min mu_max t k p s o
    → (a at reading delay : ℕ) → a + o ≤ reading → reading < at + eps
    → at < a + eps + max (2 * eps - mu_min) ((s - 1) * p + alpha) → mu_min ≤ delay → delay ≤ mu_max
    → (a + 2 * eps ≤ reading + delay) × (reading + delay + 2 ≤ a + t)
due_between eps alpha mu_min mu_max t k p s o fits a at reading delay due near prompt least most =
    let late = fits.late in
    let release = fits.release in
    let offset = fits.offset in
    let executed = fits.executed in (
      (let first : a + 2 * eps ≤ reading + delay = omega (arith, late, due, least) in first),
      (let second : reading + delay + 2 ≤ a + t =
          omega (arith, release, offset, executed, near, prompt, most) in second),
    )

-- a start of that round reads less, and one of the next round no less
pub start_below : (eps a at reading due : ℕ) → at ≤ a + eps - 1 → reading < at + eps → 1 ≤ eps → a + 2 * eps ≤ due
    → reading < due
start_below eps a at reading due prompt near some late = omega arith

pub next_start_above : (t a reading due : ℕ) → a + t ≤ reading → due + 2 ≤ a + t → due ≤ reading
next_start_above t a reading due alarm early = omega arith

pub alarm_after : (t round : ℕ) → alarm t (round + 1) ≡ alarm t round + t
alarm_after t round = grind arith
