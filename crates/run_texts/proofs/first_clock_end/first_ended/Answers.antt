use Rattle.std.proofs.Common.{◌+◌, Some, refl, sym, ap, ◌∙◌, subst}
use Rattle.std.proofs.lemmas.Option.{slice_get-get_or}
use Rattle.node_threads.specs.declared.node_end.NodeEnd.TheVariants as end
use Rattle.run_texts.specs.proof.NodeEnds.{AreFirst}
use Rattle.run_texts.proofs.FirstEndedNode.{one_done, ended_next}
use Rattle.run_texts.proofs.first_clock_end.first_ended.Goals as goal
use Rattle.run_texts.proofs.first_clock_end.first_ended.Goals.{in-Finished, in-ClockEnded}

pub loop-node-preserved : goal.loop-node-preserved
loop-node-preserved c =
    let ends = c.args.ends.now in
    let node = c.loop-node.node in
    let here = slice_get-get_or ends node end.Finished c.loop-node-test.true in
    elim c.match-ends-node.branch [
      | in-Finished w ↦ subst (AreFirst ends (node + 1)) (sym w.first-is)
          (one_done ends node c.loop-node.first c.loop-node.invariant (here ∙ ap Some w.in-Finished.is))
      | in-ClockEnded w ↦ subst (AreFirst ends (node + 1)) (sym (w.first-is ∙ w.or-first.ensures))
          (ended_next ends node c.loop-node.first _ w.in-ClockEnded.target refl c.loop-node.invariant
          (here ∙ ap Some w.in-ClockEnded.is))
    ]
