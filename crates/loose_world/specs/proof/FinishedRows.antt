-- The rows of the rounds that the nodes of a bus have finished.
use Rattle.std.specs.Prelude.{ℕ, List, map, flat_map, fold, max, length, Option, slice_get}
use Rattle.pals_base.specs.UpwardNumbers.{upwards}
use Rattle.pals_model.specs.declared.part.Part.{Part}
use Rattle.pals_model.specs.RoundTexts.{row_lines}
use Rattle.bus_machine.specs.BusStates.{node_at, finished_by_all}
use Rattle.pals_bus.specs.BusValues.{BusValue}

-- what a node left in a round, where it has finished that
abbrev pub part_of_round : BusValue → ℕ → ℕ → Option Part
part_of_round b round node = slice_get (node_at b.state node).parts round

-- how many rounds each node has finished
abbrev pub finished : BusValue → List ℕ
finished b = map (λ node. length (node_at b.state node).parts) (upwards 0 (length b.run.design.components))

abbrev pub lines_before : BusValue → ℕ → List (List ℕ)
lines_before b rounds = flat_map (λ round. row_lines b.run.design (part_of_round b round) round) (upwards 0 rounds)

-- the rounds that some node has finished
abbrev pub finished_lines : BusValue → List (List ℕ)
finished_lines b = lines_before b (fold max 0 (finished b))

-- the rounds that every node has finished: without nodes, all of the run
abbrev pub common_lines : BusValue → List (List ℕ)
common_lines b = lines_before b (finished_by_all b.run b.state)
