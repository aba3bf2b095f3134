use Rattle.std.proofs.Common.{◌<◌, length, arith}
use Rattle.triple_vote.proofs.ThreeLayerUpdates.{received_more, received_sizes, heard_stay}
use Rattle.triple_vote.proofs.three_layers.receive_each.Goals as goal

pub receive_all-requires-clause-at : goal.receive_all-requires-clause-at
receive_all-requires-clause-at c =
    omega (arith, c.loop-at.received_messages.ok.0, c.loop-at.invariant.received_messages.three, c.loop-at-test.true)

pub receive_all-requires-clause-received_messages : goal.receive_all-requires-clause-received_messages
receive_all-requires-clause-received_messages c =
    received_sizes c.args.design.now c.loop-at.received_messages.items c.loop-at.at c.index_mut.result.now
    c.loop-at.invariant.received_messages
    (omega (arith, c.loop-at.received_messages.ok.0, c.loop-at-test.true)) c.index_mut.ensures.value

pub loop-at-preserved : goal.loop-at-preserved
loop-at-preserved c =
    let at = c.loop-at.at in
    let received_messages = c.loop-at.received_messages.items in
    let new = c.receive_all.new.received_messages in
    let within : at < length received_messages = omega (arith, c.loop-at.received_messages.ok.0, c.loop-at-test.true) in
    record {
      received =
          received_more c.args.design.now c.args.replicated.now c.args.table.faults.now c.args.layers.now
          received_messages at new within
          c.receive_all.ensures.received
          c.loop-at.invariant.received;
      received_messages = heard_stay c.args.design.now received_messages at new c.loop-at.invariant.received_messages
          c.receive_all.ensures.sizes;
    }

pub returns-clause-received : goal.returns-clause-received
returns-clause-received c = λ target below.
    c.loop-at.invariant.received target
    (omega (
      arith,
      below,
      c.loop-at.received_messages.ok.0,
      c.loop-at.invariant.received_messages.three,
      c.loop-at-test.false,
    ))
