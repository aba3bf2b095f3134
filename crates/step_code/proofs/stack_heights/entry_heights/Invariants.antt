use Rattle.std.proofs.Common.{length, take}
use Rattle.step_code.proofs.EntryHeights.{AreEntered}
use Rattle.step_code.proofs.stack_heights.entry_heights.Given as goal

abbrev pub invariant-loop-entry : goal.invariant-loop-entry
invariant-loop-entry l = AreEntered (length l.parts.instrs) (take l.entry-index l.parts.entries) l.heights.items
