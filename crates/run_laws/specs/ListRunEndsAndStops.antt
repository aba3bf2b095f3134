-- When nodes under list clocks reach their end, and where a run of such nodes stops.
use Rattle.std.specs.Prelude.{◌≡◌, ◌≢◌, ◌⊎◌, ℕ, ◌+◌, ◌≤◌, List, length, Option, Some, slice_get}
use Rattle.pals_clock.specs.ClockStates.{ClockState}
use Rattle.pals_model.specs.Delays.{delay_of}
use Rattle.pals_runs.specs.declared.phase.Phase.TheVariants.{Done}
use Rattle.pals_runs.specs.declared.journal.Cause.{Cause}
use Rattle.pals_runs.specs.declared.journal.Cause.TheVariants.{NotSent, Lost}
use Rattle.pals_runs.specs.declared.journal.Stop.{Stop}
use Rattle.bus_machine.specs.Plans.{plan_of, link_at}
use Rattle.bus_machine.specs.BusStates.{BusState, node_at}
use Rattle.bus_machine.specs.RunParameters.{Run}
use Rattle.bus_machine.specs.ActionsAndTargets.{targets}
use Rattle.run_laws.specs.Runs.{HasEnded}
use Rattle.run_laws.specs.PicksAndJournalLines.{picks_of, IsPickFor}
use Rattle.run_laws.specs.NodeLinkQuantifiers.{EachNode}
use Rattle.pals_clock.specs.declared.clock.Clocks.{Clocks}
use Rattle.pals_clock.specs.declared.clock.Clocks.TheVariants.{Meet, Lists}
use Rattle.run_laws.specs.Meetings.{AllDone}
use Rattle.pals_runs.specs.declared.journal.Stop.TheVariants as stop
use Rattle.bus_machine.specs.declared.node_action.NodeAction.TheVariants as action
use Rattle.run_laws.specs.TimelyMessages.{IsTimely}

-- all its rounds are done, or its list has no reading for its next target
abbrev pub IsOver : Run → List ClockState → BusState → ℕ → Type 0
IsOver run clocks s node = ((node_at s node).phase ≡ Done) ⊎ HasEnded run clocks s node

abbrev pub AllOver : Run → List ClockState → BusState → Type 0
AllOver run clocks s = EachNode run (λ node. IsOver run clocks s node)

-- a node's picks reach its last target
abbrev pub PicksAll : Run → List ClockState → ℕ → Type 0
PicksAll run clocks node = length (picks_of run clocks node) ≡ length (targets (plan_of run.design node) run.rounds)

-- they end before this one
abbrev pub PicksEndAt : Run → List ClockState → ℕ → ℕ → Type 0
PicksEndAt run clocks node goal =
    slice_get (targets (plan_of run.design node) run.rounds) (length (picks_of run clocks node)) ≡ Some goal

-- a stop of a link is at the pick of its target for the start of this round
pub record StopsAtPick (run : Run) (clocks : List ClockState) (number begins : ℕ) (reading : Option ℕ) : Type 0 where
  pub start : ℕ
  pub reading_is : reading ≡ Some start
  pub is_pick : IsPickFor run clocks (link_at run.design number).target.0 (action.Start begins) start

-- a message that is missed at the start of the round after its own is not in time and is not lost; if it was not sent,
-- its source's picks end before its send
pub record MissesInput (run : Run) (clocks : List ClockState) (number round : ℕ) (reading : Option ℕ)
    (cause : Cause) : Type 0 where
  pub stands : StopsAtPick run clocks number (round + 1) reading
  pub late : IsTimely run clocks number round → ⊥
  pub not_lost : cause ≢ Lost
  pub unsent : cause ≡ NotSent → (at : ℕ)
      → IsPickFor run clocks (link_at run.design number).source.0 (action.Send round) at → ⊥

-- an early message belongs to the next round that its target starts or to a later round, and it was deliverable at the
-- pick of the start of its round
pub record ComesEarly (run : Run) (clocks : List ClockState) (begins number round : ℕ)
    (reading : Option ℕ) : Type 0 where
  pub stands : StopsAtPick run clocks number begins reading
  pub not_before : begins ≤ round
  pub send : ℕ
  pub sent : IsPickFor run clocks (link_at run.design number).source.0 (action.Send round) send
  pub due : send + delay_of run.delays number round ≤ stands.start

abbrev pub ListStop : Run → List ClockState → BusState → Stop → Type 0
ListStop run clocks s (stop.Missed link round reading cause) = MissesInput run clocks link.0 round reading cause
ListStop run clocks s (stop.Early link round reading) =
    ComesEarly run clocks (node_at s (link_at run.design link.0).target.0).count link.0 round reading

-- each node is done; or, with list clocks, each node is done or has reached its list's end
abbrev pub AllAtEnd : Run → Clocks → BusState → Type 0
AllAtEnd run Meet s = AllDone run s
AllAtEnd run (Lists clocks) s = AllOver run clocks s
