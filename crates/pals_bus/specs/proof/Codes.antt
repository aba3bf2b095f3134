-- How the logic stores the values of buses.
use Rattle.std.specs.Prelude.{ℕ, Bool, List, Option, refl}
use Rattle.std.specs.Coded.{Coded, code_by, coded×, coded_ℕ, coded_bool, coded_list, coded_option}
use Rattle.step_code.specs.contracts.instr.CodeParts.{the_row as codes}
use Rattle.step_code.specs.declared.instr.CodeParts.{CodeParts}
use Rattle.pals_model.specs.contracts.design.DesignParts.{the_row as designs}
use Rattle.pals_model.specs.contracts.environment.Env.{the_row as envs}
use Rattle.pals_model.specs.contracts.delays.Delays.{the_row as delays}
use Rattle.pals_model.specs.contracts.flight_copy.FlightCopy.{the_row as copies}
use Rattle.pals_runs.specs.contracts.journal.Stop.{the_row as stops}
use Rattle.pals_runs.specs.contracts.journal.JournalEntry.{the_row as entries}
use Rattle.pals_model.specs.declared.design.DesignParts.{DesignParts}
use Rattle.pals_model.specs.declared.environment.Env.{Env}
use Rattle.pals_model.specs.declared.delays.Delays.{Delays}
use Rattle.pals_model.specs.declared.flight_copy.FlightCopy.{FlightCopy}
use Rattle.pals_runs.specs.declared.journal.Stop.{Stop}
use Rattle.pals_runs.specs.declared.journal.JournalEntry.{JournalEntry}
use Rattle.bus_machine.specs.Nodes.{NodeState}
use Rattle.bus_machine.specs.BusStates.{BusState}
use Rattle.bus_machine.specs.RunParameters.{Run}
use Rattle.pals_node.specs.proof.Codes.{state_code, node_code}
use Rattle.pals_node.specs.proof.NodeAndJobValues.{NodeValue}
use Rattle.pals_bus.specs.BusValues.{BusValue}

abbrev pub run_code : Coded Run
run_code =
    code_by (DesignParts × (Env × (ℕ × Delays)))
    (coded× designs.coded (coded× envs.coded (coded× coded_ℕ delays.coded)))
    (λ r. (r.design, (r.env, (r.rounds, r.delays))))
    (λ p. record { design = p.0; env = p.1.0; rounds = p.1.1.0; delays = p.1.1.1 }) (λ _. refl)

abbrev pub bus_state_code : Coded BusState
bus_state_code =
    code_by (List NodeState × (List (List FlightCopy) × Option Stop))
    (coded× (coded_list state_code) (coded× (coded_list (coded_list copies.coded)) (coded_option stops.coded)))
    (λ s. (s.nodes, (s.flights, s.stop))) (λ p. record { nodes = p.0; flights = p.1.0; stop = p.1.1 }) (λ _. refl)

abbrev pub bus_code : Coded BusValue
bus_code =
    code_by (Run × (List CodeParts × (Bool × (Bool × (BusState × List JournalEntry)))))
    (coded× run_code (coded× (coded_list codes.coded)
    (coded× coded_bool (coded× coded_bool (coded× bus_state_code (coded_list entries.coded))))))
    (λ b. (b.run, (b.codes, (b.meeting, (b.closed, (b.state, b.journal))))))
    (λ p. record {
      run = p.0;
      codes = p.1.0;
      meeting = p.1.1.0;
      closed = p.1.1.1.0;
      state = p.1.1.1.1.0;
      journal = p.1.1.1.1.1;
    }) (λ _. refl)

abbrev pub nodes_code : Coded (List NodeValue)
nodes_code = coded_list node_code
