-- Laws of list clocks: how a run ends and stops.
use Rattle.std.specs.Prelude.{◌≡◌, ◌↔◌, ℕ, IfSome}
use Rattle.pals_runs.specs.declared.phase.Phase.TheVariants.{Done}
use Rattle.bus_machine.specs.Plans.{plan_of}
use Rattle.bus_machine.specs.BusStates.{node_at}
use Rattle.bus_machine.specs.ActionsAndTargets.{target}
use Rattle.run_laws.specs.Runs.{HasEnded}
use Rattle.run_laws.specs.proof.RunQuantifiers.{InListRuns}
use Rattle.run_laws.specs.NodeLinkQuantifiers.{EachNode, EachLink}
use Rattle.run_laws.specs.TimelyMessages.{IsTimely}
use Rattle.run_laws.specs.ListRunEndsAndStops.{AllOver, IsOver, PicksAll, PicksEndAt, ListStop}

-- if all nodes have, each round of each link is in time
abbrev pub EndsAreTimely : Type 0
EndsAreTimely = InListRuns (λ run clocks journal s. AllOver run clocks s
    → EachLink run (λ number. (round : ℕ) → IsTimely run clocks number round))

-- a node that has reached its end is done if and only if its picks reach its last target
abbrev pub DoneArePicked : Type 0
DoneArePicked = InListRuns (λ run clocks journal s. EachNode run (λ node. IsOver run clocks s node
    → ((node_at s node).phase ≡ Done) ↔ PicksAll run clocks node))

-- the picks of a node whose list has ended end before its next target
abbrev pub EndedPicksEnd : Type 0
EndedPicksEnd = InListRuns (λ run clocks journal s. EachNode run (λ node. (ended : HasEnded run clocks s node)
    → PicksEndAt run clocks node (target (plan_of run.design node) ended.0)))

abbrev pub ListsStop : Type 0
ListsStop = InListRuns (λ run clocks journal s. IfSome s.stop (ListStop run clocks s))
