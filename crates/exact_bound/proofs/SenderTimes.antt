-- When the messages of one sender arrive between the two starts, with the latest and the earliest message.
use Rattle.std.proofs.Common.{◌≡◌, ℕ, zero, suc, ◌+◌, ◌-◌, ◌*◌, ◌<◌, ◌≤◌, max, arith}
use Rattle.pals_base.specs.declared.period_bound_and_releases.Gamma.{Gamma}
use Rattle.pals_base.specs.PeriodBoundAndReleases.{alarm}
use Rattle.exact_bound.specs.proof.ExactBounds.{Sender, ArrivesBetween, IsPlatform, IsLongEnough, SendersAreExact}
use Rattle.exact_bound.specs.proof.ExactBounds.{last_finish}

next_alarm : (t round : ℕ) → alarm t (round + 1) ≡ alarm t round + t
next_alarm t round = grind arith

-- with a period above 0 some alarm comes after any time
late_alarm : (t time : ℕ) → 1 ≤ t → time ≤ alarm t time
late_alarm t time some = grind arith

-- ---- long enough
enough : (g : Gamma) (t : ℕ) (s : Sender) → IsPlatform g → IsLongEnough g t s → ArrivesBetween g t s
enough g t s platform bound = record {
  after = λ round finished sent sent_reading arrived start reading is_sent is_carried is_started.
      let offset = bound.offset in let fast = is_sent.clock.fast in let due = is_sent.due in
      let least = is_carried.least in let prompt = is_started.prompt in let some = platform.skew in
      let a : ℕ = alarm t round in omega arith;
  before = λ round finished sent sent_reading arrived start reading is_sent is_carried is_started.
      let period = bound.period in let executed = is_sent.executed in let prompt = is_sent.prompt in
      let most = is_carried.most in let fast = is_started.clock.fast in let due = is_started.due in
      let some = platform.skew in let next = next_alarm t round in omega arith;
}

-- ---- some period
-- at a period of 0 all alarms are at 0, and so a round starts before any message arrives
no_period : (g : Gamma) (s : Sender) → IsPlatform g → ArrivesBetween g 0 s → ⊥
no_period g s platform between =
    let some = platform.skew in let range = platform.network in
    let sent : ℕ = s.offset in
    let apart : sent + g.mu_min < 0 = between.before 0 0 sent sent (sent + g.mu_min) 0 0
    (record {
      clock = record { slow = omega arith; fast = omega arith };
      due = omega arith;
      executed = omega arith;
      prompt = omega arith;
    })
    (record { least = omega arith; most = omega arith })
    (record { clock = record { slow = omega arith; fast = omega arith }; due = omega arith; prompt = omega arith }) in
    omega arith

some_period : (g : Gamma) (t : ℕ) (s : Sender) → IsPlatform g → ArrivesBetween g t s → 1 ≤ t
some_period g zero s platform between = absurd (no_period g s platform between)
some_period g (suc t) s platform between = omega arith

-- ---- the earliest message and the latest start of its round
late_enough : (g : Gamma) (t : ℕ) (s : Sender) → IsPlatform g → ArrivesBetween g t s
    → 2 * g.eps - 1 ≤ s.offset + g.mu_min
late_enough g t s platform between =
    let round : ℕ = g.eps in
    let a : ℕ = alarm t round in
    let late : g.eps ≤ a = late_alarm t round (some_period g t s platform between) in
    let some = platform.skew in let range = platform.network in
    let sent : ℕ = a + s.offset + 1 - g.eps in
    let apart : a + g.eps - 1 < sent + g.mu_min =
    between.after round 0 sent (a + s.offset) (sent + g.mu_min) (a + g.eps - 1) a
    (record {
      clock = record { slow = omega arith; fast = omega arith };
      due = omega arith;
      executed = omega arith;
      prompt = omega arith;
    })
    (record { least = omega arith; most = omega arith })
    (record { clock = record { slow = omega arith; fast = omega arith }; due = omega arith; prompt = omega arith }) in
    omega arith

-- ---- the latest message and the earliest start of the next round
long_enough : (g : Gamma) (t : ℕ) (s : Sender) → IsPlatform g → ArrivesBetween g t s
    → g.mu_max + 2 * g.eps - 1 + max s.offset (last_finish g s) ≤ t
long_enough g t s platform between =
    let round : ℕ = g.eps in
    let a : ℕ = alarm t round in
    let late : g.eps ≤ a = late_alarm t round (some_period g t s platform between) in
    let next = next_alarm t round in
    let some = platform.skew in let range = platform.network in
    let reading : ℕ = a + max s.offset (last_finish g s) in
    let sent : ℕ = reading + g.eps - 1 in
    let apart : sent + g.mu_max < a + t + 1 - g.eps =
    between.before round (a + last_finish g s + g.eps - 1) sent reading (sent + g.mu_max) (a + t + 1 - g.eps) (a + t)
    (record {
      clock = record { slow = omega arith; fast = omega arith };
      due = omega arith;
      executed = omega arith;
      prompt = omega arith;
    })
    (record { least = omega arith; most = omega arith })
    (record { clock = record { slow = omega arith; fast = omega arith }; due = omega arith; prompt = omega arith }) in
    omega arith

pub senders_are_exact : SendersAreExact
senders_are_exact g t s platform = record {
  0 = λ between. record { offset = late_enough g t s platform between; period = long_enough g t s platform between };
  1 = enough g t s platform;
}
