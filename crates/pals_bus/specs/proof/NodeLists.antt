-- The nodes of a run, in order, and a node of a bus as contracts see it.
use Rattle.std.specs.Prelude.{ℕ, List, Option, option_map, slice_index_or}
use Rattle.bus_machine.specs.ActionsAndTargets.{target, action_of}
use Rattle.pals_node.specs.proof.NodeAndJobValues.{NodeValue, program_of}
use Rattle.pals_bus.specs.proof.OutOfRangeDefaults.{no_node_value}
use Rattle.bus_machine.specs.BusStates.{node_at}
use Rattle.pals_bus.specs.BusValues.{BusValue}
use Rattle.pals_bus.specs.proof.StepCodesOfNodes.{code_at}

abbrev pub node_of : List NodeValue → ℕ → NodeValue
node_of nodes node = slice_index_or nodes node no_node_value

-- the reading that a node waits for, or works at; `None` if it is done
abbrev pub target_of_node : NodeValue → Option ℕ
target_of_node n = option_map (target n.program.plan) (action_of n.program.plan n.state)

-- one of its nodes
abbrev pub node_value : BusValue → ℕ → NodeValue
node_value b node =
    record {
      program = program_of b.run.design node (code_at b.codes node);
      rounds = b.run.rounds;
      state = node_at b.state node;
    }
