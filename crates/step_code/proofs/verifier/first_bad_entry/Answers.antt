use Rattle.std.proofs.Common.{◌+◌, Some, sym, subst, take}
use Rattle.step_code.specs.proof.VerifierRules.{is_bad_entry}
use Rattle.step_code.specs.proof.VerifierIntermediateResults.{IsLeast}
use Rattle.step_code.proofs.LeastBadEntryPoint.{least_more, least_none}
use Rattle.step_code.proofs.verifier.first_bad_entry.Goals as goal
use Rattle.step_code.proofs.verifier.first_bad_entry.Goals.{in-Some, in_default}

pub loop-entry-preserved : goal.loop-entry-preserved
loop-entry-preserved c =
    let code = c.args.parts.now.instrs in
    let es = c.args.parts.now.entries in
    let all = c.as_slice-entry-items.result.now in
    let i = c.loop-entry.entry-index in
    elim c.match-entry.branch [
      | in-Some w ↦
          subst (IsLeast (is_bad_entry code (take (i + 1) es))) (sym w.first-is)
          (least_more code es all i (Some w.in-Some.place) w.least_bad-first.result c.as_slice-entry-items.ensures.value
          c.loop-entry-test.true w.in-Some.is
          (w.least_bad-first.ensures (is_bad_entry code (take i es)) c.loop-entry.invariant))
      | in_default w ↦
          subst (IsLeast (is_bad_entry code (take (i + 1) es))) (sym w.first-is)
          (least_none code es all i c.loop-entry.first c.as_slice-entry-items.ensures.value c.loop-entry-test.true
          w.in_default.is c.loop-entry.invariant)
    ]
