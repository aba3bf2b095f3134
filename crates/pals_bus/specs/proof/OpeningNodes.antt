-- A bus before its first event, and its nodes.
use Rattle.std.specs.Prelude.{◌≡◌, ℕ, ◌<◌, List, length, slice_index_or, Bool, false, []}
use Rattle.pals_model.specs.declared.design.DesignParts.{DesignParts}
use Rattle.step_code.specs.declared.instr.CodeParts.{CodeParts}
use Rattle.pals_node.specs.proof.NodeAndJobValues.{NodeValue, program_of, opening_value}
use Rattle.pals_bus.specs.proof.StepCodesOfNodes.{code_at}
use Rattle.pals_bus.specs.proof.OutOfRangeDefaults.{no_node_value}
use Rattle.bus_machine.specs.BusStates.{opening}
use Rattle.bus_machine.specs.RunParameters.{Run}
use Rattle.pals_bus.specs.BusValues.{BusValue}

-- each has the plan of its component and its code
pub record AreOpening (design : DesignParts) (codes : List CodeParts) (rounds : ℕ)
    (nodes : List NodeValue) : Type 0 where
  pub count : length nodes ≡ length codes
  pub each : (node : ℕ) → node < length nodes
      → slice_index_or nodes node no_node_value ≡ opening_value (program_of design node (code_at codes node)) rounds

-- before the first event
abbrev pub opening_bus : Run → List CodeParts → Bool → BusValue
opening_bus run codes meeting =
    record { run = run; codes = codes; meeting = meeting; closed = false; state = opening run; journal = [] }
