use Rattle.std.proofs.Common.{◌≡◌, None, arith}
use Rattle.std.specs.Prelude.{slice_index_or}
use Rattle.std.proofs.lemmas.List.{get_or_default}
use Rattle.pals_bus.specs.proof.DueMessages.{takes_none}
use Rattle.pals_bus.proofs.DueEntriesAndCopies.{no_entry}
use Rattle.pals_bus.proofs.ArrivalLoop.{none_told, message_link, message_flies, arrives, takes_more, arriving_more}
use Rattle.pals_bus.proofs.bus_fields.BusFields.arrive_all.Goals as goal

pub loop-message-init : goal.loop-message-init
loop-message-init c = let room = c.requires.room in
    record {
      keeps = c.requires.keeps;
      going = c.requires.going;
      takes = takes_none;
      left = c.requires.left;
      room = omega (arith, room);
    }

pub arrive-requires-clause-link : goal.arrive-requires-clause-link
arrive-requires-clause-link c =
    let first = c.args.self.now in
    let now = c.loop-message.self in
    let due = c.args.due.now in
    let at = c.loop-message.message-index in
    let message = slice_index_or due at no_entry in
    let is = get_or_default due at no_entry message c.loop-message-test.true in
    message_link first now c.args.node.0 c.args.reading at due message c.loop-message.invariant
    c.loop-message-test.true is

pub returns-then-is_some-clause-takes : goal.returns-then-is_some-clause-takes
returns-then-is_some-clause-takes c =
    let first = c.args.self.now in
    let now = c.loop-message.self in
    let next = c.arrive.new.self in
    let due = c.args.due.now in
    let at = c.loop-message.message-index in
    let message = slice_index_or due at no_entry in
    let is = get_or_default due at no_entry message c.loop-message-test.true in
    let flies =
    message_flies first now c.args.node.0 c.args.reading at due message c.loop-message.invariant
    c.loop-message-test.true is in
    let happens =
    arrives now next message c.args.reading c.arrive.result flies c.arrive.ensures.some c.arrive.ensures.none in
    takes_more first now next c.args.node.0 c.args.reading at due message c.loop-message.invariant
    c.loop-message-test.true is happens

pub loop-message-preserved : goal.loop-message-preserved
loop-message-preserved c =
    let first = c.args.self.now in
    let now = c.loop-message.self in
    let next = c.arrive.new.self in
    let due = c.args.due.now in
    let at = c.loop-message.message-index in
    let message = slice_index_or due at no_entry in
    let is = get_or_default due at no_entry message c.loop-message-test.true in
    let flies =
    message_flies first now c.args.node.0 c.args.reading at due message c.loop-message.invariant
    c.loop-message-test.true is in
    let happens =
    arrives now next message c.args.reading c.arrive.result flies c.arrive.ensures.some c.arrive.ensures.none in
    let going : next.stop ≡ None = none_told next.stop c.is_some.result c.is_some.ensures c.if-is_some.false in
    arriving_more first now next c.args.node.0 c.args.reading at due message c.loop-message.invariant
    c.loop-message-test.true is happens c.arrive.ensures.keeps going c.arrive.ensures.owed c.arrive.ensures.room
