-- How lists of loose events end: a law at every run.
use Rattle.std.specs.Prelude.{◌≡◌, ⊤, List}
use Rattle.pals_runs.specs.declared.events_and_faults.Event.{Event}
use Rattle.pals_runs.specs.declared.journal.JournalEntry.{JournalEntry}
use Rattle.bus_machine.specs.BusStates.{BusState}
use Rattle.bus_machine.specs.RunParameters.{Run}
use Rattle.loose_world.specs.declared.loose_run.LooseEnd.{LooseEnd}
use Rattle.loose_world.specs.proof.EventsAsSteps.{StepsTo}
use Rattle.loose_world.specs.declared.loose_run.LooseEnd.TheVariants as end

-- two ends have one state and one journal; if an event is not allowed, they are unspecified
abbrev pub LeaveTheSame : LooseEnd → BusState → BusState → List JournalEntry → List JournalEntry → Type 0
LeaveTheSame end.All s t journal more = (s ≡ t) × (journal ≡ more)
LeaveTheSame (end.Stopped why) s t journal more = (s ≡ t) × (journal ≡ more)
LeaveTheSame (end.Refused index fault) s t journal more = ⊤

-- two ends are one: in both all events are steps, or the same stop is given, or the same event is not allowed, for
-- the same fault; and what they leave is one
pub record AreSameEnd (how other : LooseEnd) (s t : BusState) (journal more : List JournalEntry) : Type 0 where
  pub end : how ≡ other
  pub left : LeaveTheSame how s t journal more

-- a list of loose events has exactly one end from the opening of a run on
abbrev pub OneEnd : Type 0
OneEnd =
    (run : Run) (events : List Event) (how other : LooseEnd) (s t : BusState) (journal more : List JournalEntry)
    → StepsTo run events how s journal → StepsTo run events other t more → AreSameEnd how other s t journal more
