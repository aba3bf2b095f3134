-- The end of a run, that each run reaches one, and the maximum number of lines in its journal.
use Rattle.std.specs.Prelude.{◌≡◌, ◌≢◌, ◌⊎◌, ℕ, ◌+◌, ◌*◌, ◌<◌, ◌≤◌, List, [], ◌++◌, length, None}
use Rattle.std.specs.List.{sum_by}
use Rattle.pals_clock.specs.ClockStates.{ClockState}
use Rattle.pals_clock.specs.declared.clock.Clocks.{Clocks}
use Rattle.pals_model.specs.declared.design.Component.{Component}
use Rattle.pals_runs.specs.declared.phase.Phase.TheVariants.{Done}
use Rattle.pals_runs.specs.declared.journal.JournalEntry.{JournalEntry}
use Rattle.bus_machine.specs.BusStates.{BusState, node_at}
use Rattle.bus_machine.specs.RunParameters.{Run}
use Rattle.bus_machine.specs.proof.AgreementLaws.{IsRunOf}
use Rattle.run_laws.specs.Runs.{lists_in, HasEnded, HaveFreshClocks, Runs}
use Rattle.run_laws.specs.proof.RunQuantifiers.{InRuns, InListRuns}
use Rattle.run_laws.specs.Meetings.{AllDone}
use Rattle.run_laws.specs.ListRunEndsAndStops.{AllOver, AllAtEnd}

-- a run has reached its end: it has stopped, or each of its nodes has reached its end
abbrev pub HasCome : Run → Clocks → BusState → Type 0
HasCome run clocks s = (s.stop ≢ None) ⊎ AllAtEnd run clocks s

-- ---- each run reaches an end
-- a run that extends a journal, with the same lists, and has reached its end
pub record IsEnding (run : Run) (clocks : Clocks) (journal : List JournalEntry) : Type 0 where
  pub later : Clocks
  pub more : List JournalEntry
  pub state : BusState
  pub runs : Runs run later (journal ++ more) state
  pub lists : lists_in later ≡ lists_in clocks
  pub come : HasCome run later state

-- each design has a run, with these clocks, that reaches its end
abbrev pub EachRunEnds : Type 0
EachRunEnds = (run : Run) (clocks : Clocks) → IsRunOf run → HaveFreshClocks run clocks → IsEnding run clocks []

-- and each reachable state can be extended to an end
abbrev pub EachGoesOn : Type 0
EachGoesOn = InRuns (λ run clocks journal s. IsEnding run clocks journal)

-- ---- every run is finite
-- in each round a component starts and finishes each of its steps and sends once, and each link delivers one message;
-- a stop has a line of its own
abbrev pub most_lines : Run → ℕ
most_lines run =
    run.rounds * (sum_by (λ (c : Component). 2 * c.rate + 1) run.design.components + length run.design.links) + 1

-- the most lines that a journal has, in whatever order the nodes act
abbrev pub JournalsEnd : Type 0
JournalsEnd = InRuns (λ run clocks journal s. length journal ≤ most_lines run)

-- ---- a list that is too short
-- the first node that is not done has reached its list's end
pub record IsFirstEnded (run : Run) (clocks : List ClockState) (s : BusState) (node : ℕ) : Type 0 where
  pub within : node < length run.design.components
  pub ended : HasEnded run clocks s node
  pub before : (other : ℕ) → other < node → (node_at s other).phase ≡ Done

-- if all nodes have reached their ends, all are done, or the first node that is not done has reached its list's end
abbrev pub EndsAreNamed : Type 0
EndsAreNamed = InListRuns (λ run clocks journal s. AllOver run clocks s
    → AllDone run s ⊎ ((node : ℕ) × IsFirstEnded run clocks s node))
