use Rattle.step_code.proofs.VerifierInvariant.{found_here, eq_is}
use Rattle.step_code.proofs.verifier.check.Goals as goal

pub returns-then-eq-clause-fault : goal.returns-then-eq-clause-fault
returns-then-eq-clause-fault c =
    found_here c.args.parts.now c.loop-at.at c.loop-at.heights.items c.first_bad_entry-bad_entry.result c.requires.short
    c.loop-at.invariant
    (eq_is c.first_bad_entry-bad_entry.result c.loop-at.at c.eq.result c.eq.ensures c.if-eq.true)
