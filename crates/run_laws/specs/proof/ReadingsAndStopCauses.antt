-- Readings of starts and sends that meet their alarms and releases, and the causes of stops: the claims AllTimesFit and
-- StopsFit.
use Rattle.std.specs.Prelude.{◌≡◌, ℕ, ◌+◌, ◌<◌, ◌≤◌, List, Option, Some, None, slice_get}
use Rattle.pals_base.specs.PeriodBoundAndReleases.{alarm}
use Rattle.pals_model.specs.declared.design.Link.{Link}
use Rattle.pals_model.specs.Delays.{delay_of}
use Rattle.pals_runs.specs.declared.journal.Cause.{Cause}
use Rattle.pals_runs.specs.declared.journal.Cause.TheVariants.{NotSent, InTransit, Lost}
use Rattle.pals_runs.specs.declared.journal.Stop.{Stop}
use Rattle.pals_runs.specs.declared.journal.JournalEntry.{JournalEntry}
use Rattle.bus_machine.specs.declared.plan.Plan.{Plan}
use Rattle.bus_machine.specs.Plans.{plan_of}
use Rattle.bus_machine.specs.BusStates.{BusState, node_at}
use Rattle.bus_machine.specs.RunParameters.{Run}
use Rattle.run_laws.specs.JournalReadings.{starts, sends}
use Rattle.run_laws.specs.proof.LinkTiming.{due_of}
use Rattle.pals_clock.specs.declared.clock.Clocks.{Clocks}
use Rattle.pals_clock.specs.declared.clock.Clocks.TheVariants.{Meet, Lists}
use Rattle.run_laws.specs.Runs.{HasEnded}
use Rattle.run_laws.specs.proof.RunQuantifiers.{InRuns}
use Rattle.run_laws.specs.NodeLinkQuantifiers.{EachNode}
use Rattle.pals_runs.specs.declared.journal.Stop.TheVariants as stop

-- ---- readings
-- a reading that is shown for a target: the target itself with a meeting, and no less with list clocks
abbrev pub IsFor : Clocks → ℕ → ℕ → Type 0
IsFor Meet target at = at ≡ target
IsFor (Lists clocks) target at = target ≤ at

pub record TimesFit (plan : Plan) (clocks : Clocks) (node : ℕ) (journal : List JournalEntry) : Type 0 where
  pub starts_fit : (round at : ℕ) → slice_get (starts node journal) round ≡ Some at
      → IsFor clocks (alarm plan.period round) at
  pub sends_fit : (round at : ℕ) → slice_get (sends node journal) round ≡ Some at
      → IsFor clocks (alarm plan.period round + plan.release_offset) at

abbrev pub AllTimesFit : Type 0
AllTimesFit =
    InRuns (λ run clocks journal s. EachNode run (λ node. TimesFit (plan_of run.design node) clocks node journal))

-- ---- stops
-- the reading of a stop is that of the start of this round of the link's target
pub record StopsAtStart (run : Run) (clocks : Clocks) (s : BusState) (number : ℕ) (reading : Option ℕ) : Type 0 where
  pub link : Link
  pub is_link : slice_get run.design.links number ≡ Some link
  pub at : ℕ
  pub reading_is : reading ≡ Some at
  pub begins : (node_at s link.target.0).count < run.rounds
  pub shown : IsFor clocks (alarm run.design.period (node_at s link.target.0).count) at

-- a source has not sent: its clock has ended; with a meeting there is none
abbrev pub NeverSent : Run → Clocks → BusState → ℕ → Type 0
NeverSent run Meet s node = ⊥
NeverSent run (Lists clocks) s node = HasEnded run clocks s node

-- why a message of this round, with this due reading if it has one, is missed at a reading
abbrev pub CauseFits : Run → Clocks → BusState → ℕ → Option ℕ → ℕ → Cause → Type 0
CauseFits run clocks s node due at NotSent = (due ≡ None) × NeverSent run clocks s node
CauseFits run clocks s node due at InTransit = (d : ℕ) × (due ≡ Some d) × (at < d)
CauseFits run clocks s node due at Lost = ⊥

abbrev pub StopFits : Run → Clocks → List JournalEntry → BusState → Option Stop → Type 0
StopFits run clocks journal s None = Unit {0}
StopFits run clocks journal s (Some (stop.Missed link round reading cause)) =
    (x : StopsAtStart run clocks s link.0 reading) × ((node_at s x.link.target.0).count ≡ round + 1)
    × CauseFits run clocks s x.link.source.0
    (due_of (delay_of run.delays link.0) (sends x.link.source.0 journal) round) x.at cause
StopFits run clocks journal s (Some (stop.Early link round reading)) =
    (x : StopsAtStart run clocks s link.0 reading) × ((node_at s x.link.target.0).count ≤ round)
    × ((d : ℕ) × (due_of (delay_of run.delays link.0) (sends x.link.source.0 journal) round ≡ Some d) × (d ≤ x.at))

abbrev pub StopsFit : Type 0
StopsFit = InRuns (λ run clocks journal s. StopFits run clocks journal s s.stop)
