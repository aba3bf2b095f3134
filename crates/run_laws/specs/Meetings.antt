-- In virtual time: the reading in each line, and when a run stops.
use Rattle.std.specs.Prelude.{◌≡◌, ℕ, ◌+◌, ◌*◌, ◌<◌, List, [], ◌∷◌, ◌++◌, length, Option, Some}
use Rattle.pals_base.specs.PeriodBoundAndReleases.{alarm}
use Rattle.pals_base.specs.declared.basic_types.LinkNo.{LinkNo}
use Rattle.pals_model.specs.Delays.{delay_of}
use Rattle.pals_runs.specs.declared.phase.Phase.TheVariants.{Done}
use Rattle.pals_runs.specs.declared.journal.Cause.TheVariants.{InTransit}
use Rattle.pals_runs.specs.declared.journal.Stop.{Stop}
use Rattle.pals_runs.specs.declared.journal.JournalEntry.{JournalEntry}
use Rattle.bus_machine.specs.Plans.{plan_of, link_at}
use Rattle.bus_machine.specs.BusStates.{BusState, node_at}
use Rattle.bus_machine.specs.RunParameters.{Run}
use Rattle.run_laws.specs.JournalReadings.{starts}
use Rattle.run_laws.specs.NodeLinkQuantifiers.{EachNode}
use Rattle.pals_runs.specs.declared.journal.Stop.TheVariants as stop
use Rattle.pals_runs.specs.declared.journal.JournalEntry.TheVariants as entry

-- ---- what lines show
-- an arrival and a stop show the alarm of the round that their link's target starts next
abbrev pub AtNext : Run → List JournalEntry → LinkNo → Option ℕ → Type 0
AtNext run front link reading =
    reading ≡ Some (alarm run.design.period (length (starts (link_at run.design link.0).target.0 front)))

abbrev pub StopShows : Run → List JournalEntry → Stop → Type 0
StopShows run front (stop.Missed link round reading cause) = AtNext run front link reading
StopShows run front (stop.Early link round reading) = AtNext run front link reading

-- a start shows its round's alarm, a step its own, and a send its round's release
abbrev pub ShowsTarget : Run → List JournalEntry → JournalEntry → Type 0
ShowsTarget run front (entry.Arrive link round reading result) = AtNext run front link reading
ShowsTarget run front (entry.Start node round reading) = reading ≡ Some (alarm run.design.period round)
ShowsTarget run front (entry.Step node round step reading) =
    reading ≡ Some (alarm run.design.period round + step * (plan_of run.design node.0).step_period)
ShowsTarget run front (entry.Finish node round) = Unit {0}
ShowsTarget run front (entry.Send node round reading) =
    reading ≡ Some (alarm run.design.period round + (plan_of run.design node.0).release_offset)
ShowsTarget run front (entry.Drop link round) = Unit {0}
ShowsTarget run front (entry.Repeat link round) = Unit {0}
ShowsTarget run front (entry.Stopped why) = StopShows run front why

abbrev pub ShowTargets : Run → List JournalEntry → List JournalEntry → Type 0
ShowTargets run front [] = Unit {0}
ShowTargets run front (e ∷ es) = ShowsTarget run front e × ShowTargets run (front ++ e ∷ []) es

-- ---- when a run stops
-- a round of a link that another round follows, and whose message becomes due after its target's next alarm
pub record IsLate (run : Run) (number round : ℕ) : Type 0 where
  pub within : number < length run.design.links
  pub followed : round + 1 < run.rounds
  pub late : let source = (link_at run.design number).source.0 in
      run.design.period < (plan_of run.design source).release_offset + delay_of run.delays number round

abbrev pub AllDone : Run → BusState → Type 0
AllDone run s = EachNode run (λ node. (node_at s node).phase ≡ Done)

-- a message that is missed, at the alarm of the round after its own, is late and in transit; an early message, at the
-- alarm of its own round, has no delay and is sent at that alarm
abbrev pub MeetingStop : Run → Stop → Type 0
MeetingStop run (stop.Missed link round reading cause) =
    IsLate run link.0 round × (cause ≡ InTransit) × (reading ≡ Some (alarm run.design.period (round + 1)))
MeetingStop run (stop.Early link round reading) =
    ((plan_of run.design (link_at run.design link.0).source.0).release_offset + delay_of run.delays link.0 round ≡ 0)
    × (reading ≡ Some (alarm run.design.period round))
