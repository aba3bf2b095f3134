use Rattle.step_code.proofs.VerifierInvariant.{Looked}
use Rattle.step_code.proofs.verifier.check.Given as goal

abbrev pub invariant-loop-at : goal.invariant-loop-at
invariant-loop-at l = Looked l.parts l.at l.heights.items l.bad_entry
