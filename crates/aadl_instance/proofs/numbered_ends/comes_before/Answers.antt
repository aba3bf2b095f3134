use Rattle.std.proofs.Common.{◌∙◌, sym, arith}
use Rattle.aadl_instance.proofs.DepthFirstOrder.{ended_before, never_before_ended}
use Rattle.aadl_instance.proofs.numbered_ends.comes_before.Goals as goal

pub returns-then-at-path : goal.returns-then-at-path
returns-then-at-path c =
    sym (ended_before c.args.path.now c.args.other.now c.loop-at.at (omega arith) (omega arith)) ∙ c.loop-at.invariant.0

pub returns : goal.returns
returns c = sym (never_before_ended c.args.path.now c.args.other.now c.loop-at.at (omega arith)) ∙ c.loop-at.invariant.0
