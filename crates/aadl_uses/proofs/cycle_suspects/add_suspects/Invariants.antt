use Rattle.aadl_uses.specs.proof.RecursionSuspects.{AreSuspected}
use Rattle.aadl_uses.proofs.cycle_suspects.add_suspects.Given as goal

abbrev pub invariant-loop-sub : goal.invariant-loop-sub
invariant-loop-sub l = AreSuspected l.graph l.levels l.any l.number l.sub l.fn.found.items l.found.items
