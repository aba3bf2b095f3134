-- The invariants of each scenario that was parsed for a design, which its users need not check again.
use Rattle.std.specs.Prelude.{◌≤◌, All}
use Rattle.pals_base.specs.declared.limits.TheConstants.{ROUNDS, CELLS}
use Rattle.pals_model.specs.declared.design.DesignParts.{DesignParts}
use Rattle.scenario_json.specs.RunCellCount.{cells_of}
use Rattle.scenario_json.specs.proof.InputsDelaysAndClocks.{AreInputsOf, AreDelaysOf, AreClocksFor}
use Rattle.analysis_fields.specs.proof.ReplicaFaultsAndProcessors.{IsFaultOf, IsProcessorOf}
use Rattle.scenario_json.specs.declared.scenario.Scenario.{Scenario}

pub record IsScenarioOf (design : DesignParts) (s : Scenario) : Type 0 where
  pub long : (1 ≤ s.rounds) × (s.rounds ≤ ROUNDS)
  pub small : cells_of design s.rounds ≤ CELLS
  pub inputs : AreInputsOf design s.env.lists
  pub clock : AreClocksFor design s.clocks
  pub delay : AreDelaysOf design s.delays.lists
  pub fault : All (IsFaultOf design s.replicas) s.faults
  pub processor : All (IsProcessorOf design) s.processors
