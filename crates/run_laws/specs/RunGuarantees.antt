-- What each run keeps, clause by clause.
use Rattle.std.specs.Prelude.{◌≡◌, ◌↔◌, ℕ, List, [], None, IfSome}
use Rattle.pals_clock.specs.ClockStates.{ClockState}
use Rattle.pals_clock.specs.declared.clock.Clocks.{Clocks}
use Rattle.pals_clock.specs.declared.clock.Clocks.TheVariants.{Meet, Lists}
use Rattle.pals_runs.specs.declared.journal.JournalEntry.{JournalEntry}
use Rattle.pals_runs.specs.declared.phase.Phase.TheVariants.{Done}
use Rattle.bus_machine.specs.Agreement.{Agrees}
use Rattle.bus_machine.specs.Plans.{plan_of}
use Rattle.bus_machine.specs.Replay.{Replays}
use Rattle.bus_machine.specs.BusStates.{BusState, node_at}
use Rattle.bus_machine.specs.RunParameters.{Run}
use Rattle.bus_machine.specs.ActionsAndTargets.{target}
use Rattle.run_laws.specs.Runs.{HasEnded}
use Rattle.run_laws.specs.JournalReadings.{acts}
use Rattle.run_laws.specs.NodeLinkQuantifiers.{EachNode, EachLink}
use Rattle.run_laws.specs.PicksAndJournalLines.{picks_of, IsPrefix, LinesAre}
use Rattle.run_laws.specs.TimelyMessages.{IsTimely}
use Rattle.run_laws.specs.ListRunEndsAndStops.{IsOver, AllOver, PicksAll, PicksEndAt, ListStop}
use Rattle.run_laws.specs.Meetings.{ShowTargets, AllDone, IsLate, MeetingStop}
use Rattle.run_laws.specs.BoundsBrokenAtStops.{DelaysFit, BoundedStop}

-- with list clocks
pub record KeepsLists (run : Run) (clocks : List ClockState) (journal : List JournalEntry) (s : BusState) : Type 0 where
  -- the readings of a node's starts, steps and sends are a prefix of its picks
  pub readings : EachNode run (λ node. IsPrefix (acts node journal) (picks_of run clocks node))
  -- an arrival and a stop show the pick for the start that they belong to
  pub lines : LinesAre run clocks [] journal
  -- a stop comes only of a message that is not in time, or that is due by a start before the one that it is for
  pub stop : IfSome s.stop (ListStop run clocks s)
  -- if each node is done or has reached its list's end, each round of each link is in time
  pub timely : AllOver run clocks s → EachLink run (λ number. (round : ℕ) → IsTimely run clocks number round)
  -- then a node is done if and only if its picks reach its last target
  pub done : EachNode run (λ node. IsOver run clocks s node
      → ((node_at s node).phase ≡ Done) ↔ PicksAll run clocks node)
  -- and else they end at the target that it waits for
  pub ended : EachNode run (λ node. (ended : HasEnded run clocks s node)
      → PicksEndAt run clocks node (target (plan_of run.design node) ended.0))

-- where nodes meet
pub record KeepsMeetings (run : Run) (journal : List JournalEntry) (s : BusState) : Type 0 where
  -- each line shows its target
  pub lines : ShowTargets run [] journal
  -- a missed message is late and in transit; an early message has no delay and is sent at its alarm
  pub stop : IfSome s.stop (MeetingStop run)
  -- if all nodes are done, no round of a link is late
  pub timely : AllDone run s → (number round : ℕ) → IsLate run number round → ⊥
  -- with delays within the bounds the run has no stop
  pub bounded : DelaysFit run → s.stop ≡ None

abbrev pub KeepsClocks : Run → Clocks → List JournalEntry → BusState → Type 0
KeepsClocks run Meet journal s = KeepsMeetings run journal s
KeepsClocks run (Lists clocks) journal s = KeepsLists run clocks journal s

pub record KeepsClauses (run : Run) (clocks : Clocks) (journal : List JournalEntry) (s : BusState) : Type 0 where
  pub by_clocks : KeepsClocks run clocks journal s
  -- a stop states by how much the bounds were exceeded
  pub stop : IfSome s.stop (BoundedStop run journal)
  -- the journal replays to the state, which agrees with the composition
  pub replays : Replays run journal s
  pub agrees : Agrees run s
