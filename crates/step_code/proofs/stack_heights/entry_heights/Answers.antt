use Rattle.std.proofs.Common.{◌<◌, ◌≤◌, ◌++◌, ◌∷◌, [], Some, None, length, sym, subst, take, arith}
use Rattle.step_code.proofs.EntryHeights.{AreEntered, entered_in, entered_out, entered_none, entered_more}
use Rattle.step_code.proofs.stack_heights.entry_heights.Goals as goal
use Rattle.step_code.proofs.stack_heights.entry_heights.Goals.{in-Some+then-place-length, in-Some+else-place-length}
use Rattle.step_code.proofs.stack_heights.entry_heights.Goals.{in_default}

pub loop-entry-preserved : goal.loop-entry-preserved
loop-entry-preserved c =
    let n = length c.args.parts.now.instrs in
    let es = c.args.parts.now.entries in
    let all = c.as_slice-entry-items.result.now in
    let i = c.loop-entry.entry-index in
    let size = c.len-length.ensures in
    let hs = c.loop-entry.heights.items in
    elim c.match-entry.branch [
      | in-Some+then-place-length w ↦
          let p = w.in-Some.place in
          let within : p < n = omega arith in
          entered_more n i es all c.match-entry.heights.items (Some p) c.as_slice-entry-items.ensures.value
          c.loop-entry-test.true w.in-Some.is
          (subst (λ v. AreEntered n (take i es ++ Some p ∷ []) v.items) (sym w.heights-is)
          (entered_in n p (take i es) hs c.loop-entry.invariant within))
      | in-Some+else-place-length w ↦
          let p = w.in-Some.place in
          let beyond : n ≤ p = omega arith in
          entered_more n i es all c.match-entry.heights.items (Some p) c.as_slice-entry-items.ensures.value
          c.loop-entry-test.true w.in-Some.is
          (subst (λ v. AreEntered n (take i es ++ Some p ∷ []) v.items) (sym w.heights-is)
          (entered_out n p (take i es) hs c.loop-entry.invariant beyond))
      | in_default w ↦
          entered_more n i es all c.match-entry.heights.items None c.as_slice-entry-items.ensures.value
          c.loop-entry-test.true w.in_default.is
          (subst (λ v. AreEntered n (take i es ++ None ∷ []) v.items) (sym w.heights-is)
          (entered_none n (take i es) hs c.loop-entry.invariant))
    ]
