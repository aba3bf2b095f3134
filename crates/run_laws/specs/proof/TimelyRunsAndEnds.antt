-- Runs in time: their clocks and delays let no stop come, in whatever order the nodes act. And how runs with the
-- same lists end: all done, or the same node first.
use Rattle.std.specs.Prelude.{◌≡◌, ◌⊎◌, ℕ, ◌+◌, ◌<◌, ◌≤◌, List, None}
use Rattle.pals_clock.specs.ClockStates.{ClockState}
use Rattle.pals_clock.specs.declared.clock.Clocks.{Clocks}
use Rattle.pals_clock.specs.declared.clock.Clocks.TheVariants.{Meet, Lists}
use Rattle.pals_model.specs.Delays.{delay_of}
use Rattle.pals_runs.specs.declared.journal.JournalEntry.{JournalEntry}
use Rattle.bus_machine.specs.proof.AgreementLaws.{IsRunOf}
use Rattle.bus_machine.specs.Plans.{plan_of, link_at}
use Rattle.bus_machine.specs.BusStates.{BusState}
use Rattle.bus_machine.specs.RunParameters.{Run}
use Rattle.bus_machine.specs.ActionsAndTargets.{target}
use Rattle.run_laws.specs.proof.RunQuantifiers.{InRuns}
use Rattle.run_laws.specs.NodeLinkQuantifiers.{EachNode, EachLink}
use Rattle.run_laws.specs.TimelyMessages.{IsTimely}
use Rattle.run_laws.specs.ListRunEndsAndStops.{AllAtEnd, PicksAll}
use Rattle.run_laws.specs.proof.RunTermination.{IsFirstEnded}
use Rattle.run_laws.specs.Meetings.{AllDone, IsLate}
use Rattle.run_laws.specs.BoundsBrokenAtStops.{DelaysFit}
use Rattle.run_laws.specs.PicksAndJournalLines.{IsPickFor}
use Rattle.run_laws.specs.Runs.{Runs, lists_in}
use Rattle.bus_machine.specs.declared.node_action.NodeAction.TheVariants as action

-- ---- in time
-- with list clocks the message of a link's round is due after each start of that round, and of those before it
abbrev pub IsDueAfterStarts : Run → List ClockState → ℕ → ℕ → Type 0
IsDueAfterStarts run clocks number round = let link = link_at run.design number in
    (begins start send : ℕ) → begins ≤ round → IsPickFor run clocks link.target.0 (action.Start begins) start
    → IsPickFor run clocks link.source.0 (action.Send round) send → start < send + delay_of run.delays number round

-- where nodes meet it is due after its round's alarm
abbrev pub IsDueAfterAlarm : Run → ℕ → ℕ → Type 0
IsDueAfterAlarm run number round = let source = (link_at run.design number).source.0 in
    round < run.rounds → 0 < (plan_of run.design source).release_offset + delay_of run.delays number round

-- each message is in time for the start that takes it, and none is due at a start of its own round, or of an earlier
-- one
abbrev pub InTime : Run → Clocks → Type 0
InTime run Meet = EachLink run (λ number. (round : ℕ)
    → (IsLate run number round → ⊥) × IsDueAfterAlarm run number round)
InTime run (Lists clocks) =
    EachLink run (λ number. (round : ℕ) → IsTimely run clocks number round × IsDueAfterStarts run clocks number round)

-- a run with such lists has no stop
abbrev pub NoneStops : Type 0
NoneStops =
    InRuns (λ run later journal s. (clocks : Clocks) → lists_in later ≡ lists_in clocks → InTime run clocks
    → s.stop ≡ None)

-- where nodes meet, delays within the bounds are in time
abbrev pub BoundsAreInTime : Type 0
BoundsAreInTime = (run : Run) → IsRunOf run → DelaysFit run → InTime run Meet

-- ---- the end of a run
-- the first node that is not done has reached its list's end, and waits for this target
abbrev pub EndsFirst : Run → Clocks → BusState → ℕ → ℕ → Type 0
EndsFirst run Meet s node goal = ⊥
EndsFirst run (Lists clocks) s node goal =
    (first : IsFirstEnded run clocks s node) × (target (plan_of run.design node) first.ended.0 ≡ goal)

-- two runs with the same lists whose nodes have come to their ends are both done, or the same node ends first in
-- both, at the same target
abbrev pub EndsAgree : Type 0
EndsAgree =
    (run : Run) (one two : Clocks) (journal more : List JournalEntry) (s t : BusState) → IsRunOf run
    → Runs run one journal s
    → Runs run two more t → lists_in one ≡ lists_in two → AllAtEnd run one s → AllAtEnd run two t
    → (AllDone run s × AllDone run t)
    ⊎ ((node goal : ℕ) × EndsFirst run one s node goal × EndsFirst run two t node goal)

-- the picks of each node reach its last target; where nodes meet they always do
abbrev pub AllPicked : Run → Clocks → Type 0
AllPicked run Meet = Unit {0}
AllPicked run (Lists clocks) = EachNode run (λ node. PicksAll run clocks node)

-- with such lists all are done then
abbrev pub PickedAreDone : Type 0
PickedAreDone =
    InRuns (λ run later journal s. (clocks : Clocks) → lists_in later ≡ lists_in clocks → AllPicked run clocks
    → AllAtEnd run later s → AllDone run s)
