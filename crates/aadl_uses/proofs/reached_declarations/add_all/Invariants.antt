use Rattle.std.proofs.Common.{take}
use Rattle.aadl_uses.specs.proof.ContainmentGraphs.{AreAdded}
use Rattle.aadl_uses.proofs.reached_declarations.add_all.Given as goal

abbrev pub invariant-loop-target : goal.invariant-loop-target
invariant-loop-target l = AreAdded (take l.target-index l.targets) l.fn.found.keys l.found.keys
