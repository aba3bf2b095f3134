-- That the journal shows the rounds that a node has started and sent.
use Rattle.std.specs.Prelude.{◌≡◌, ℕ, length}
use Rattle.bus_machine.specs.BusStates.{node_at}
use Rattle.bus_machine.specs.Nodes.{sent_rounds}
use Rattle.run_laws.specs.JournalReadings.{starts, sends}
use Rattle.run_laws.specs.proof.RunQuantifiers.{InRuns}

-- the journal shows as many starts and sends of a node as it has started and sent rounds
abbrev pub RoundsAreShown : Type 0
RoundsAreShown = InRuns (λ run clocks journal s. (node : ℕ) →
    (length (starts node journal) ≡ (node_at s node).count)
    × (length (sends node journal) ≡ sent_rounds (node_at s node)))
