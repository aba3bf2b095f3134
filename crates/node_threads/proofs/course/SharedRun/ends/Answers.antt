use Rattle.std.proofs.Common.{◌≡◌, ◌+◌, length, subst, sym, ◌∙◌, arith}
use Rattle.node_threads.proofs.NodeEnds.{AreEnds, one_end, ends_fit}
use Rattle.node_threads.proofs.course.SharedRun.ends.Goals as goal

pub loop-node-preserved : goal.loop-node-preserved
loop-node-preserved c =
    subst (λ ends. AreEnds c.args.self.now ends (c.loop-node.node + 1)) (sym c.in_ok-push.ensures.ok)
    (one_end c.args.self.now c.loop-node.ends c.in-Some.end c.loop-node.node c.loop-node.invariant
    (sym c.in-Some.is ∙ c.end_of.ensures))

pub returns : goal.returns
returns c =
    let all : length c.loop-node.ends ≡ length c.args.self.now.bus.run.design.components =
    omega (
      arith,
      c.loop-node.invariant.0,
      c.loop-node-test.false,
      c.loop-node.auto.node-end,
      c.count-node-end.ensures.count,
    ) in
    ends_fit c.args.self.now c.loop-node.ends c.agreement.ensures all
    (λ k below. c.loop-node.invariant.1 k (omega (arith, c.loop-node.invariant.0)))
