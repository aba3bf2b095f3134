-- The exact bound of the components of a design, and how far the least period is from it.
use Rattle.std.proofs.Common.{ℕ, ◌+◌, ◌-◌, ◌*◌, ◌/◌, ◌<◌, ◌≤◌, arith}
use Rattle.std.proofs.Math.Nat.{div-mul-le_self, le-div_iff_mul-le}
use Rattle.pals_base.specs.declared.period_bound_and_releases.Gamma.{Gamma}
use Rattle.pals_base.specs.PeriodBoundAndReleases.{step_period, sent_steps}
use Rattle.exact_bound.specs.proof.ExactBounds.{sender, message_period, IsPlatform, IsLongEnough}
use Rattle.exact_bound.specs.proof.ExactBounds.{HasTime, DesignsAreExact, StepsHaveTimeExactly, OneLessIsEnough}
use Rattle.exact_bound.specs.proof.ExactBounds.{TwoLessIsNot}
use Rattle.exact_bound.specs.proof.ExactBounds.{NoBoundIsBetter}
use Rattle.exact_bound.proofs.SenderTimes.{senders_are_exact}

-- ---- the last step that is sent
-- it begins no later than the time that messages, the skew and its execution leave
later_steps : (g : Gamma) (t k : ℕ) → (sent_steps g t k - 1) * step_period t k ≤ t - g.mu_max - 2 * g.eps - g.alpha_max
later_steps g t k =
    let spare : ℕ = t - g.mu_max - 2 * g.eps - g.alpha_max in
    let few : sent_steps g t k - 1 ≤ spare / step_period t k = omega arith in
    let whole : spare / step_period t k * step_period t k ≤ spare = div-mul-le_self spare (step_period t k) in
    let less : (sent_steps g t k - 1) * step_period t k ≤ spare / step_period t k * step_period t k = grind arith in
    omega arith

design_is_enough : (g : Gamma) (t k : ℕ) → message_period g ≤ t → IsLongEnough g t (sender g t k)
design_is_enough g t k long =
    let steps = later_steps g t k in
    let later : ℕ = (sent_steps g t k - 1) * step_period t k in
    record { offset = omega arith; period = omega arith }

design_needs : (g : Gamma) (t k : ℕ) → IsLongEnough g t (sender g t k) → message_period g ≤ t
design_needs g t k enough = let period = enough.period in omega arith

pub designs_are_exact : DesignsAreExact
designs_are_exact g t k platform = record {
  0 = λ between. design_needs g t k ((senders_are_exact g t (sender g t k) platform).0 between);
  1 = λ long. (senders_are_exact g t (sender g t k) platform).1 (design_is_enough g t k long);
}

-- ---- steps
has_time : (g : Gamma) (apart : ℕ) → g.alpha_max ≤ apart → HasTime g apart
has_time g apart fits alarm begin done in_time executed = omega arith

needs_time : (g : Gamma) (apart : ℕ) → IsPlatform g → HasTime g apart → g.alpha_max ≤ apart
needs_time g apart platform has =
    let some = platform.skew in
    let last : g.eps - 1 + g.alpha_max < 0 + apart + g.eps =
    has 0 (g.eps - 1) (g.eps - 1 + g.alpha_max) (omega arith) (omega arith) in
    omega arith

period_of_steps : (g : Gamma) (t k : ℕ) → IsPlatform g → 1 ≤ k → HasTime g (step_period t k) → k * g.alpha_max ≤ t
period_of_steps g t k platform some has =
    let fits : g.alpha_max * k ≤ t = (le-div_iff_mul-le {k = k} {x = g.alpha_max} {y = t} some).0
    (needs_time g (t / k) platform has) in
    grind arith

steps_of_period : (g : Gamma) (t k : ℕ) → 1 ≤ k → k * g.alpha_max ≤ t → HasTime g (step_period t k)
steps_of_period g t k some long =
    let turned : g.alpha_max * k ≤ t = grind arith in
    has_time g (t / k) ((le-div_iff_mul-le {k = k} {x = g.alpha_max} {y = t} some).1 turned)

pub steps_have_time : StepsHaveTimeExactly
steps_have_time g t k platform some =
    record { 0 = period_of_steps g t k platform some; 1 = steps_of_period g t k some }

-- ---- the least period
pub one_less_is_enough : OneLessIsEnough
one_less_is_enough g t k platform long = (designs_are_exact g t k platform).1 (omega arith)

pub two_less_is_not : TwoLessIsNot
two_less_is_not g t k platform some short enough =
    let messages = (designs_are_exact g t k platform).0 enough.messages in
    let steps = period_of_steps g t k platform some enough.steps in
    omega arith

pub no_bound_is_better : NoBoundIsBetter
no_bound_is_better g t k s platform some between has =
    let needed = (senders_are_exact g t s platform).0 between in
    let offset = needed.offset in let period = needed.period in
    let steps = period_of_steps g t k platform some has in
    omega arith
