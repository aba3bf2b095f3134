use Rattle.std.proofs.Common.{rules}
use Rattle.pals_node.proofs.node.Node.send.Goals as goal

pub returns-then-is_early-clause-cause : goal.returns-then-is_early-clause-cause
returns-then-is_early-clause-cause c = search rules

pub returns-clause-ok : goal.returns-clause-ok
returns-clause-ok c = search rules
