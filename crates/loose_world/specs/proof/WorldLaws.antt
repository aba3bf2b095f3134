-- What a list of events leaves, with its readings or without: laws at every run of a design.
use Rattle.std.specs.Prelude.{◌≡◌, ℕ, ◌<◌, false, List, [], ◌++◌, length}
use Rattle.step_code.specs.declared.instr.CodeParts.{CodeParts}
use Rattle.pals_base.specs.declared.basic_types.NodeNo.{NodeNo}
use Rattle.pals_model.specs.RoundTexts.{text_of, report}
use Rattle.pals_runs.specs.declared.events_and_faults.Event.{Event}
use Rattle.pals_runs.specs.declared.journal.Stop.{Stop}
use Rattle.bus_machine.specs.BusStates.{BusState, node_at, finished_by_all}
use Rattle.bus_machine.specs.RunParameters.{Run}
use Rattle.bus_machine.specs.Nodes.{sent_rounds}
use Rattle.bus_machine.specs.Machine.{BusEvent, IsStep}
use Rattle.bus_machine.specs.Agreement.{Agrees}
use Rattle.bus_machine.specs.proof.AgreementLaws.{IsRunOf}
use Rattle.bus_machine.specs.WorldTexts.{finished_by, sends_of, sent_lines, world_rows, worldtext}
use Rattle.pals_bus.specs.BusValues.{BusValue}
use Rattle.pals_bus.specs.proof.OpeningNodes.{opening_bus}
use Rattle.loose_world.specs.proof.FinishedRows.{finished_lines, common_lines}
use Rattle.loose_world.specs.declared.loose_run.LooseEnd.TheVariants.{All, Stopped}
use Rattle.loose_world.specs.LooseRuns.{Tells}
use Rattle.loose_world.specs.proof.StepAndSendCounts.{IsCounted}
use Rattle.loose_world.specs.proof.BusAfterEvents.{event_of, Undergoes, IsLeftBy, IsReplayed}
use Rattle.loose_world.specs.proof.EventSenders.{senders}
use Rattle.loose_world.specs.proof.SentCopies.{HasSent}
use Rattle.pals_runs.specs.declared.events_and_faults.Event.TheVariants as event

-- ---- counts
-- each step of the machine counts at each node
abbrev pub StepCounts : Type 0
StepCounts =
    (run : Run) (s t : BusState) (e : BusEvent) (node : ℕ) → IsRunOf run → Agrees run s → IsStep run s e t
    → IsCounted run s (event_of e) t node

-- a property of every bus after events
abbrev pub AtEachEnd : (Run → List Event → BusValue → List (List ℕ) → Type 0) → Type 0
AtEachEnd P =
    (run : Run) (events : List Event) (t : BusValue) (lines : List (List ℕ)) → IsRunOf run → IsLeftBy run events t lines
    → P run events t lines

-- it belongs to the same run, its journal replays to it, and it agrees with the composition
abbrev pub EventsReplay : Type 0
EventsReplay = AtEachEnd (λ run events t lines. IsReplayed run t)

-- a node has finished as many rounds as its finishes make up
abbrev pub RoundsAreFinished : Type 0
RoundsAreFinished =
    AtEachEnd
    (λ run events t lines.
    (node : ℕ) → node < length run.design.components
    → length (node_at t.state node).parts ≡ finished_by run.design events node)

-- a node has sent as many rounds as it has sends
abbrev pub RoundsAreSent : Type 0
RoundsAreSent =
    AtEachEnd
    (λ run events t lines.
    (node : ℕ) → node < length run.design.components
    → sent_rounds (node_at t.state node) ≡ sends_of node (senders events))

-- ---- rows
-- the rounds that some node has finished have the rows of the world
abbrev pub FinishedRows : Type 0
FinishedRows = AtEachEnd (λ run events t lines. finished_lines t ≡ world_rows run.design run.env events)

-- the rounds that every node has finished are a report of the composition
abbrev pub CommonRows : Type 0
CommonRows =
    (t : BusValue) → IsRunOf t.run → Agrees t.run t.state
    → text_of (common_lines t) ≡ report t.run.design t.run.env (finished_by_all t.run t.state)

-- without components these are all rounds of the run
abbrev pub RoundsWithoutNodes : Type 0
RoundsWithoutNodes =
    (run : Run) (s : BusState) → Agrees run s → run.design.components ≡ [] → finished_by_all run s ≡ run.rounds

-- ---- messages
-- after a send, each link from its node has the message of the round, which the number of earlier sends determines
abbrev pub SendsAreInFlight : Type 0
SendsAreInFlight =
    AtEachEnd
    (λ run before s lines.
    (t : BusValue) (node : NodeNo) → Undergoes s (event.Send node) t
    → HasSent t node.0 (sends_of node.0 (senders before)))

-- the lines are the lines of the world
abbrev pub LinesAreTold : Type 0
LinesAreTold = AtEachEnd (λ run events t lines. lines ≡ sent_lines run.design run.env events [])

-- ---- the texts
-- the rows and the lines are the text of the world
abbrev pub WorldIsTold : Type 0
WorldIsTold =
    AtEachEnd (λ run events t lines. text_of (finished_lines t) ++ text_of lines ≡ worldtext run.design run.env events)

-- so it is where all events of a loose world happen
abbrev pub TextIsTold : Type 0
TextIsTold =
    (run : Run) (programs : List CodeParts) (events : List Event) (t : BusValue) (sent : List ℕ)
    → IsRunOf run → Tells (opening_bus run programs false) events All t [] sent
    → text_of (finished_lines t) ++ sent ≡ worldtext run.design run.env events

-- where an event gives a stop, the rows of the rounds that every node has finished are a report
abbrev pub StopIsTold : Type 0
StopIsTold =
    (run : Run) (programs : List CodeParts) (events : List Event) (why : Stop) (t : BusValue) (sent : List ℕ)
    → IsRunOf run → Tells (opening_bus run programs false) events (Stopped why) t [] sent
    → text_of (common_lines t) ≡ report run.design run.env (finished_by_all run t.state)
