-- That each run replays: its journal leads to its state.
use Rattle.bus_machine.specs.Agreement.{Agrees}
use Rattle.bus_machine.specs.Replay.{Replays}
use Rattle.run_laws.specs.proof.RunQuantifiers.{InRuns}

-- the journal of a run replays to its state, and the state agrees with the composition
abbrev pub RunsReplay : Type 0
RunsReplay = InRuns (λ run clocks journal s. Replays run journal s × Agrees run s)
