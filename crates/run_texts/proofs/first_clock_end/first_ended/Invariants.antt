use Rattle.run_texts.specs.proof.NodeEnds.{AreFirst}
use Rattle.run_texts.proofs.first_clock_end.first_ended.Given as goal

-- the ends so far, with the first of them that is the end of a list
abbrev pub invariant-loop-node : goal.invariant-loop-node
invariant-loop-node l = AreFirst l.ends l.node l.first
