use Rattle.std.proofs.Common.{rules}
use Rattle.pals_node.proofs.node.Node.arrive.Goals as goal

pub returns-clause-answer : goal.returns-clause-answer
returns-clause-answer c = search rules

pub returns-clause-node : goal.returns-clause-node
returns-clause-node c = search rules
