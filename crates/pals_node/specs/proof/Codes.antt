-- How the logic stores plans with their code, by which it tells them apart.
use Rattle.std.specs.Prelude.{ℕ, Bool, List, Option, refl}
use Rattle.std.specs.Coded.{Coded, code_by, coded×, coded_ℕ, coded_bool, coded_list, coded_option}
use Rattle.step_code.specs.contracts.instr.CodeParts.{the_row as codes}
use Rattle.step_code.specs.declared.instr.CodeParts.{CodeParts}
use Rattle.bus_machine.specs.contracts.plan.Plan.{the_row as plans}
use Rattle.bus_machine.specs.declared.plan.Plan.{Plan}
use Rattle.pals_base.specs.contracts.frames.Frame.{the_row as frames}
use Rattle.pals_base.specs.contracts.basic_types.PortValue.{the_row as ports}
use Rattle.pals_model.specs.contracts.part.Part.{the_row as parts}
use Rattle.pals_runs.specs.contracts.phase.Phase.{the_row as phases}
use Rattle.pals_base.specs.declared.frames.Frame.{Frame}
use Rattle.pals_base.specs.declared.basic_types.PortValue.{PortValue}
use Rattle.pals_model.specs.declared.part.Part.{Part}
use Rattle.pals_runs.specs.declared.phase.Phase.{Phase}
use Rattle.bus_machine.specs.Nodes.{NodeState}
use Rattle.pals_node.specs.proof.NodeAndJobValues.{Program, NodeValue}

abbrev pub program_code : Coded Program
program_code =
    code_by (Plan × CodeParts) (coded× plans.coded codes.coded) (λ p. (p.plan, p.code))
    (λ p. record { plan = p.0; code = p.1 }) (λ _. refl)

-- a node is stored as its parts
abbrev pub state_code : Coded NodeState
state_code =
    code_by (ℕ × (Phase × (Frame
    × (List (Option (List PortValue)) × (List (List PortValue) × (List (List PortValue) × (Bool × List Part)))))))
    (coded× coded_ℕ (coded× phases.coded
    (coded× frames.coded (coded× (coded_list (coded_option (coded_list ports.coded)))
    (coded× (coded_list (coded_list ports.coded))
    (coded× (coded_list (coded_list ports.coded)) (coded× coded_bool (coded_list parts.coded))))))))
    (λ n. (n.count, (n.phase, (n.frame, (n.slots, (n.vectors, (n.outs, (n.sent, n.parts))))))))
    (λ p. record {
      count = p.0;
      phase = p.1.0;
      frame = p.1.1.0;
      slots = p.1.1.1.0;
      vectors = p.1.1.1.1.0;
      outs = p.1.1.1.1.1.0;
      sent = p.1.1.1.1.1.1.0;
      parts = p.1.1.1.1.1.1.1;
    })
    (λ _. refl)

abbrev pub node_code : Coded NodeValue
node_code =
    code_by (Program × (ℕ × NodeState)) (coded× program_code (coded× coded_ℕ state_code))
    (λ n. (n.program, (n.rounds, n.state)))
    (λ p. record { program = p.0; rounds = p.1.0; state = p.1.1 }) (λ _. refl)
