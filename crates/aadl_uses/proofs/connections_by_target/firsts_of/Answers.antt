use Rattle.std.proofs.Common.{None, arith}
use Rattle.aadl_uses.specs.proof.NumbersByPort.{is_port}
use Rattle.aadl_uses.proofs.FirstConnections.{next_first, last_first}
use Rattle.aadl_uses.proofs.connections_by_target.firsts_of.Goals as goal

pub loop-number-preserved : goal.loop-number-preserved
loop-number-preserved c = λ target.
    next_first c.args.wires.now c.loop-number.number (record { source = None; target = None }) _ _ _
    (λ w. is_port target w.target) (omega arith)
    (c.in_ok-add_first.ensures target) (c.loop-number.invariant target)

pub returns : goal.returns
returns c =
    λ target. last_first c.args.wires.now c.loop-number.number _ _ (λ w. is_port target w.target)
    c.loop-number-test.false
    (c.loop-number.invariant target)
