use Rattle.std.proofs.Common.{arith}
use Rattle.list_lemmas.proofs.Booleans.{opposed}
use Rattle.aadl_tree.specs.proof.PackageViews.{placed}
use Rattle.aadl_instance.specs.proof.Limits.{IsExceeded}
use Rattle.aadl_instance.proofs.FaultPrecedence.{limit_lines, limit_line, last_line, passed_next, passed_earlier}
use Rattle.aadl_instance.proofs.limits.first_limit.Goals as goal

pub loop-limit-init : goal.loop-limit-init
loop-limit-init c = λ other lt p. let least = limit_lines other in omega (arith, least, lt)

pub loop-limit-preserved : goal.loop-limit-preserved
loop-limit-preserved c =
    passed_next (IsExceeded (placed c.args.wires.now.uses.names.tree.now) c.args.root) _ c.loop-limit.limit-index
    (limit_line c.loop-limit.limit-index _ c.loop-limit-test.true) c.loop-limit.invariant
    (λ p. opposed c.in_ok-is_passed.field-0 (c.in_ok-is_passed.ensures.1 p) c.if-branch.false)

pub returns : goal.returns
returns c = λ limit p. let most = last_line limit in c.loop-limit.invariant limit (omega arith) p

pub returns-then-branch : goal.returns-then-branch
returns-then-branch c =
    passed_earlier (IsExceeded (placed c.args.wires.now.uses.names.tree.now) c.args.root) _ c.loop-limit.limit-index
    (limit_line c.loop-limit.limit-index _ c.loop-limit-test.true) c.loop-limit.invariant
    (c.in_ok-is_passed.ensures.0 c.if-branch.true)
