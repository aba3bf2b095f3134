-- The periods that are long enough, and the shortest of them. Times are nanoseconds.
use Rattle.std.specs.Prelude.{◌↔◌, ℕ, ◌+◌, ◌-◌, ◌*◌, ◌<◌, ◌≤◌, max}
use Rattle.pals_base.specs.declared.period_bound_and_releases.Gamma.{Gamma}
use Rattle.pals_base.specs.PeriodBoundAndReleases.{backoff, least_period, step_period, sent_steps, release_offset}
use Rattle.pals_base.specs.PeriodBoundAndReleases.{alarm}
use Rattle.bound_checker.specs.proof.MessageTimes.{IsNear, IsStarted, IsCarried}

-- ---- one sender
-- a component that sends once this many of its steps, each `apart` after the one before, are finished, and its clock
-- is this offset past the alarm
pub record Sender : Type 0 where
  pub steps : ℕ
  pub apart : ℕ
  pub offset : ℕ

-- how long after its alarm the last step that it sends may be finished, but for the skew
abbrev pub last_finish : Gamma → Sender → ℕ
last_finish g s = (s.steps - 1) * s.apart + g.alpha_max

-- it sends its message of a round at this time, as `IsSent` of a design's component
pub record IsSentBy (g : Gamma) (t : ℕ) (s : Sender) (round : ℕ) (finished time reading : ℕ) : Type 0 where
  pub clock : IsNear g time reading
  pub due : alarm t round + s.offset ≤ reading
  pub executed : finished < alarm t round + (s.steps - 1) * s.apart + g.eps + g.alpha_max
  pub prompt : time ≤ max finished (alarm t round + s.offset + g.eps - 1)

-- each of its messages arrives after every start of its round, and before every start of the next one
pub record ArrivesBetween (g : Gamma) (t : ℕ) (s : Sender) : Type 0 where
  pub after : (round finished sent sent_reading arrived start reading : ℕ)
      → IsSentBy g t s round finished sent sent_reading → IsCarried g sent arrived
      → IsStarted g t round start reading → start < arrived
  pub before : (round finished sent sent_reading arrived start reading : ℕ)
      → IsSentBy g t s round finished sent sent_reading → IsCarried g sent arrived
      → IsStarted g t (round + 1) start reading → arrived < start

-- clocks have some skew, and the fastest message is at most as slow as the slowest
pub record IsPlatform (g : Gamma) : Type 0 where
  pub skew : 1 ≤ g.eps
  pub network : g.mu_min ≤ g.mu_max

-- the offset is late enough for the round's starts, and the period long enough for the next ones
pub record IsLongEnough (g : Gamma) (t : ℕ) (s : Sender) : Type 0 where
  pub offset : 2 * g.eps - 1 ≤ s.offset + g.mu_min
  pub period : g.mu_max + 2 * g.eps - 1 + max s.offset (last_finish g s) ≤ t

abbrev pub SendersAreExact : Type 0
SendersAreExact = (g : Gamma) (t : ℕ) (s : Sender) → IsPlatform g → ArrivesBetween g t s ↔ IsLongEnough g t s

-- ---- the components of a design
-- a component of rate k in a round of t
abbrev pub sender : Gamma → ℕ → ℕ → Sender
sender g t k = record { steps = sent_steps g t k; apart = step_period t k; offset = release_offset g t k }

-- the shortest period in which the messages of a design have time
abbrev pub message_period : Gamma → ℕ
message_period g = g.mu_max + 2 * g.eps - 1 + max (backoff g) g.alpha_max

abbrev pub DesignsAreExact : Type 0
DesignsAreExact = (g : Gamma) (t k : ℕ) → IsPlatform g → ArrivesBetween g t (sender g t k) ↔ (message_period g ≤ t)

-- ---- steps
-- each step that begins in time, this long before the next one, is done before the next one has to begin
abbrev pub HasTime : Gamma → ℕ → Type 0
HasTime g apart = (alarm begin done : ℕ) → begin < alarm + g.eps → done ≤ begin + g.alpha_max
    → done < alarm + apart + g.eps

abbrev pub StepsHaveTimeExactly : Type 0
StepsHaveTimeExactly = (g : Gamma) (t k : ℕ) → IsPlatform g → 1 ≤ k
    → HasTime g (step_period t k) ↔ (k * g.alpha_max ≤ t)

-- ---- how close the bound is
-- at the maximum rate k both messages and steps have time
pub record IsEnough (g : Gamma) (t k : ℕ) : Type 0 where
  pub messages : ArrivesBetween g t (sender g t k)
  pub steps : HasTime g (step_period t k)

abbrev pub OneLessIsEnough : Type 0
OneLessIsEnough = (g : Gamma) (t k : ℕ) → IsPlatform g → least_period g k ≤ t + 1 → ArrivesBetween g t (sender g t k)

abbrev pub TwoLessIsNot : Type 0
TwoLessIsNot = (g : Gamma) (t k : ℕ) → IsPlatform g → 1 ≤ k → t + 2 ≤ least_period g k → ¬ IsEnough g t k

-- with any offset at all, as a sender of one step or more
abbrev pub NoBoundIsBetter : Type 0
NoBoundIsBetter = (g : Gamma) (t k : ℕ) (s : Sender) → IsPlatform g → 1 ≤ k → ArrivesBetween g t s
    → HasTime g (step_period t k) → least_period g k ≤ t + 2
