use Rattle.std.proofs.Common.{◌∙◌, ◌+◌, ap, subst, sym}
use Rattle.aadl_uses.specs.proof.RecursionSuspects.{is_suspect, AreSuspected}
use Rattle.aadl_uses.proofs.RecursionSuspects.{suspected_more, suspected_skip}
use Rattle.aadl_uses.proofs.cycle_suspects.add_suspects.Goals.{then-is_suspect+in_ok-push, else-is_suspect}
use Rattle.aadl_uses.proofs.cycle_suspects.add_suspects.Goals as goal

pub loop-sub-preserved : goal.loop-sub-preserved
loop-sub-preserved c =
    let g = c.args.graph.now in
    let levels = c.args.levels.now in
    let any = c.args.any in
    let n = c.args.number in
    let at = c.loop-sub.sub in
    let old = c.args.found.now.items in
    let so_far = c.loop-sub.found.items in
    elim c.if-is_suspect.branch [
      | then-is_suspect+in_ok-push w ↦
          subst (λ f. AreSuspected g levels any n (at + 1) old f.items) (sym w.found-is)
          (suspected_more g levels any n at old so_far c.loop-sub.invariant w.push.new.self.items
          w.in_ok-push.ensures.items)
      | else-is_suspect w ↦
          subst (λ f. AreSuspected g levels any n (at + 1) old f.items) (sym w.found-is)
          (suspected_skip g levels any n at old so_far c.loop-sub.invariant
          (ap (is_suspect levels any n) (sym c.below.ensures) ∙ (sym c.is_suspect.ensures ∙ w.if-is_suspect.false)))
    ]
