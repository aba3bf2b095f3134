use Rattle.code_machine.proofs.CodeMachine.{same_replays, none_is_stuck}
use Rattle.code_machine.proofs.laws.step_code_makes_the_same_steps.Goals as goal

pub returns : goal.returns
returns c = record {
  same = λ run codes rules are. same_replays run codes rules are;
  never_stuck = λ run codes rules are. none_is_stuck run codes rules are;
}
