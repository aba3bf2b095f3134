-- The journal of a list of loose events replays to the state of the bus.
use Rattle.std.proofs.Common.{ℕ, List, take, false}
use Rattle.step_code.specs.declared.instr.CodeParts.{CodeParts}
use Rattle.pals_runs.specs.declared.events_and_faults.Event.{Event}
use Rattle.bus_machine.specs.RunParameters.{Run}
use Rattle.bus_machine.specs.proof.AgreementLaws.{IsRunOf}
use Rattle.pals_bus.specs.BusValues.{BusValue}
use Rattle.pals_bus.specs.proof.OpeningNodes.{opening_bus}
use Rattle.loose_world.specs.declared.loose_run.LooseEnd.{LooseEnd}
use Rattle.loose_world.specs.declared.loose_run.LooseEnd.TheVariants as end
use Rattle.loose_world.specs.LooseRuns.{AllHappen, RunsLoosely}
use Rattle.loose_world.specs.proof.BusAfterEvents.{IsReplayed}
use Rattle.loose_world.proofs.BusAfterEvents.{undergoes_loose, left_by_loose, stays_replayed, events_replay}

all_replay : (run : Run) (programs : List CodeParts) (events : List Event) (t : BusValue) (lines : List (List ℕ))
    → IsRunOf run
    → AllHappen (opening_bus run programs false) events t lines → IsReplayed run t
all_replay run programs events t lines rules happen =
    events_replay run events t lines rules (left_by_loose run programs events t lines happen)

pub journal_replays : (run : Run) (programs : List CodeParts) (events : List Event) (how : LooseEnd) (t : BusValue)
    (lines : List (List ℕ))
    → IsRunOf run → RunsLoosely (opening_bus run programs false) events how t lines → IsReplayed run t
journal_replays run programs events end.All t lines rules x = all_replay run programs events t lines rules x
journal_replays run programs events (end.Stopped why) t lines rules x =
    stays_replayed run x.before t x.event rules
    (all_replay run programs (take x.index events) x.before lines rules x.happen)
    (undergoes_loose x.before x.event t x.last)
journal_replays run programs events (end.Refused index why) t lines rules x =
    all_replay run programs (take index events) t lines rules x.happen
