-- With list clocks: the picks of a node's list, and what a journal shows of them.
use Rattle.std.specs.Prelude.{◌≡◌, ℕ, ◌≤◌, List, [], ◌∷◌, ◌++◌, length, Option, Some, None, slice_get}
use Rattle.pals_base.specs.ClockPicks.{picks}
use Rattle.pals_clock.specs.ClockStates.{ClockState}
use Rattle.pals_model.specs.declared.design.DesignParts.{DesignParts}
use Rattle.pals_base.specs.declared.basic_types.LinkNo.{LinkNo}
use Rattle.pals_runs.specs.declared.journal.Stop.{Stop}
use Rattle.pals_runs.specs.declared.journal.JournalEntry.{JournalEntry}
use Rattle.bus_machine.specs.declared.node_action.NodeAction.{NodeAction}
use Rattle.bus_machine.specs.Plans.{plan_of, link_at}
use Rattle.bus_machine.specs.RunParameters.{Run}
use Rattle.bus_machine.specs.ActionsAndTargets.{actions, targets, target}
use Rattle.run_laws.specs.EntryEventsAndReadings.{Timed, timed}
use Rattle.run_laws.specs.JournalReadings.{starts, acts}
use Rattle.run_laws.specs.Runs.{clock_at}
use Rattle.pals_runs.specs.declared.journal.Stop.TheVariants as stop
use Rattle.pals_runs.specs.declared.journal.JournalEntry.TheVariants as entry
use Rattle.bus_machine.specs.declared.node_action.NodeAction.TheVariants as action

-- ---- picks
-- the picks of a node's list for all its targets
abbrev pub picks_of : Run → List ClockState → ℕ → List ℕ
picks_of run clocks node = picks (clock_at clocks node).readings (targets (plan_of run.design node) run.rounds)

-- the pick of a node's list for one of its actions
pub record IsPickFor (run : Run) (clocks : List ClockState) (node : ℕ) (action : NodeAction) (at : ℕ) : Type 0 where
  pub place : ℕ
  pub is_action : slice_get (actions (plan_of run.design node) run.rounds) place ≡ Some action
  pub is_pick : slice_get (picks_of run clocks node) place ≡ Some at

abbrev pub IsPrefix : List ℕ → List ℕ → Type 0
IsPrefix front all = (rest : List ℕ) × (all ≡ front ++ rest)

-- ---- of a line
-- the start of the round that a link's target has not started
abbrev pub coming_start : DesignParts → List JournalEntry → LinkNo → NodeAction
coming_start design front link = action.Start (length (starts (link_at design link.0).target.0 front))

abbrev pub stop_action : DesignParts → List JournalEntry → Stop → NodeAction
stop_action design front (stop.Missed link round reading cause) = coming_start design front link
stop_action design front (stop.Early link round reading) = coming_start design front link

-- the action that a line shows; an arrival and a stop show the start that they belong to, which comes next
abbrev pub action_shown : DesignParts → List JournalEntry → JournalEntry → Option NodeAction
action_shown design front (entry.Arrive link round reading result) = Some (coming_start design front link)
action_shown design front (entry.Start node round reading) = Some (action.Start round)
action_shown design front (entry.Step node round step reading) = Some (action.Step round step)
action_shown design front (entry.Finish node round) = None
action_shown design front (entry.Send node round reading) = Some (action.Send round)
action_shown design front (entry.Drop link round) = None
action_shown design front (entry.Repeat link round) = None
action_shown design front (entry.Stopped why) = Some (stop_action design front why)

-- a line's reading is its node's pick for the action that it shows, which is the first that the lines before it don't
-- show, and it is no less than that action's target
pub record ShowsPick (run : Run) (clocks : List ClockState) (front : List JournalEntry) (e : JournalEntry)
    (t : Timed) : Type 0 where
  pub action : NodeAction
  pub at : ℕ
  pub shows : action_shown run.design front e ≡ Some action
  pub reading_is : t.reading ≡ Some at
  pub is_next : slice_get (actions (plan_of run.design t.node) run.rounds) (length (acts t.node front)) ≡ Some action
  pub is_pick : slice_get (picks_of run clocks t.node) (length (acts t.node front)) ≡ Some at
  pub reached : target (plan_of run.design t.node) action ≤ at

-- so does each line that has a reading
abbrev pub LinesAre : Run → List ClockState → List JournalEntry → List JournalEntry → Type 0
LinesAre run clocks front [] = Unit {0}
LinesAre run clocks front (e ∷ es) =
    ((t : Timed) → timed run.design e ≡ Some t → ShowsPick run clocks front e t)
    × LinesAre run clocks (front ++ e ∷ []) es
