use Rattle.std.proofs.Common.{take}
use Rattle.step_code.specs.proof.VerifierRules.{is_bad_entry}
use Rattle.step_code.specs.proof.VerifierIntermediateResults.{IsLeast}
use Rattle.step_code.proofs.verifier.first_bad_entry.Given as goal

abbrev pub invariant-loop-entry : goal.invariant-loop-entry
invariant-loop-entry l = IsLeast (is_bad_entry l.parts.instrs (take l.entry-index l.parts.entries)) l.first
