-- Jobs with the step codes of the nodes that they belong to.
use Rattle.std.specs.Prelude.{◌≡◌, List}
use Rattle.step_code.specs.declared.instr.CodeParts.{CodeParts}
use Rattle.pals_node.specs.proof.NodeAndJobValues.{JobValue}
use Rattle.pals_bus.specs.proof.StepCodesOfNodes.{code_at}
use Rattle.node_threads.specs.declared.moves_under_lock.NextMove.{NextMove}
use Rattle.node_threads.specs.declared.moves_under_lock.NextMove.TheVariants as move

-- the code of a job is the code of the node whose step it is
abbrev pub IsOwn : List CodeParts → JobValue → Type 0
IsOwn codes job = job.code ≡ code_at codes job.work.node.0

-- a move to a job is one to such a job
abbrev pub GivesOwn : List CodeParts → NextMove JobValue → Type 0
GivesOwn codes (move.Work job) = IsOwn codes job
GivesOwn codes move.Wait = Unit {0}
GivesOwn codes move.Again = Unit {0}
GivesOwn codes move.Over = Unit {0}
