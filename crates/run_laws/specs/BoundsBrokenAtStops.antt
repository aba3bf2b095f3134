-- How a stop, with any clocks, relates to the bounds: by how much the message's delay and its source's send were late
-- or early; and delays that meet the bounds.
use Rattle.std.specs.Prelude.{◌≡◌, ℕ, ◌+◌, ◌-◌, ◌*◌, ◌<◌, ◌≤◌, max, List, Option, Some, slice_get, length}
use Rattle.pals_base.specs.PeriodBoundAndReleases.{alarm, backoff}
use Rattle.pals_model.specs.Delays.{delay_of}
use Rattle.pals_runs.specs.declared.journal.Cause.TheVariants.{InTransit}
use Rattle.pals_runs.specs.declared.journal.Stop.{Stop}
use Rattle.pals_runs.specs.declared.journal.JournalEntry.{JournalEntry}
use Rattle.bus_machine.specs.Plans.{plan_of, link_at}
use Rattle.bus_machine.specs.RunParameters.{Run}
use Rattle.run_laws.specs.JournalReadings.{sends}
use Rattle.pals_runs.specs.declared.journal.Stop.TheVariants as stop

-- the reading of the source's send of a round
abbrev pub sent_at : Run → List JournalEntry → ℕ → ℕ → Option ℕ
sent_at run journal number round = slice_get (sends (link_at run.design number).source.0 journal) round

-- the latest reading after a round's alarm at which its source sends within the bounds
abbrev pub latest_send : Run → ℕ → ℕ
latest_send run source = let plan = plan_of run.design source in
    max (backoff run.design.gamma) ((plan.sent_steps - 1) * plan.step_period + run.design.gamma.alpha_max)

-- a message in transit takes longer than the maximum delay of the bounds, or was sent after the latest send within
-- them; an early message takes less than the minimum delay, or its target's clock reads two skews more than the alarm
-- of its round
abbrev pub BoundedStop : Run → List JournalEntry → Stop → Type 0
BoundedStop run journal (stop.Missed link round reading cause) = cause ≡ InTransit
    → (at : ℕ) → sent_at run journal link.0 round ≡ Some at
    → delay_of run.delays link.0 round ≤ run.design.gamma.mu_max
    → alarm run.design.period round + latest_send run (link_at run.design link.0).source.0 < at
BoundedStop run journal (stop.Early link round reading) = (at : ℕ) → reading ≡ Some at
    → run.design.gamma.mu_min ≤ delay_of run.delays link.0 round
    → alarm run.design.period round + 2 * run.design.gamma.eps ≤ at

-- each delay is between the minimum and the maximum of the bounds
abbrev pub DelaysFit : Run → Type 0
DelaysFit run = (number round : ℕ) → number < length run.design.links
    → (run.design.gamma.mu_min ≤ delay_of run.delays number round)
    × (delay_of run.delays number round ≤ run.design.gamma.mu_max)
