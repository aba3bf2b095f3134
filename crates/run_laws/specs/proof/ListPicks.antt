-- Laws of list clocks: readings are picks, and each node picks for its next action.
use Rattle.std.specs.Prelude.{◌≡◌, ◌⊎◌, ℕ, ◌+◌, List, [], length, take}
use Rattle.pals_base.specs.ClockPicks.{picks}
use Rattle.pals_clock.specs.ClockStates.{ClockState, left_after}
use Rattle.bus_machine.specs.declared.plan.Plan.{Plan}
use Rattle.bus_machine.specs.Plans.{plan_of}
use Rattle.bus_machine.specs.Nodes.{NodeState}
use Rattle.bus_machine.specs.BusStates.{node_at}
use Rattle.bus_machine.specs.ActionsAndTargets.{targets}
use Rattle.run_laws.specs.JournalReadings.{acts}
use Rattle.run_laws.specs.NodeActions.{Follows}
use Rattle.run_laws.specs.Runs.{clock_at}
use Rattle.run_laws.specs.proof.RunQuantifiers.{InListRuns}
use Rattle.run_laws.specs.NodeLinkQuantifiers.{EachNode}
use Rattle.run_laws.specs.PicksAndJournalLines.{IsPrefix, picks_of, LinesAre}

-- ---- of a node
-- its actions so far were done at its list's picks for them; its clock has picked for these, and at most for the next
-- one
pub record IsPicked (plan : Plan) (rounds : ℕ) (clock : ClockState) (n : NodeState) (shown : List ℕ) : Type 0 where
  pub done : ℕ
  pub follows : Follows plan done n
  pub count : length shown ≡ done
  pub shown_are : shown ≡ picks clock.readings (take done (targets plan rounds))
  pub left : (clock.left ≡ left_after clock.readings (take done (targets plan rounds)))
      ⊎ (clock.left ≡ left_after clock.readings (take (done + 1) (targets plan rounds)))

abbrev pub NodesPick : Type 0
NodesPick = InListRuns (λ run clocks journal s. EachNode run (λ node.
    IsPicked (plan_of run.design node) run.rounds (clock_at clocks node) (node_at s node) (acts node journal)))

-- the readings of a node's starts, steps and sends are a prefix of its picks
abbrev pub ReadingsArePicks : Type 0
ReadingsArePicks = InListRuns (λ run clocks journal s. EachNode run (λ node.
    IsPrefix (acts node journal) (picks_of run clocks node)))

abbrev pub LinesArePicks : Type 0
LinesArePicks = InListRuns (λ run clocks journal s. LinesAre run clocks [] journal)
