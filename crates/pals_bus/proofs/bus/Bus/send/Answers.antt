use Rattle.std.proofs.Common.{refl, arith}
use Rattle.std.proofs.lemmas.Grind.{common_steps}
use Rattle.pals_bus.specs.declared.bus_fields.BusFields.{BusFields}
use Rattle.pals_bus.proofs.NodeEventCalls.{Stands, IsSent, sends, send_place, send_room}
use Rattle.pals_bus.proofs.bus.Bus.send.Goals as goal

pub send_messages-requires-clause-queues : goal.send_messages-requires-clause-queues
send_messages-requires-clause-queues c =
    let v = c.args.self.now in
    let f = c.self.inside.fields in
    let stands : Stands v f c.args.node.0 =
    record {
      shows = c.self.view_is;
      keeps = c.self.invariant;
      going = grind (arith, common_steps);
      within = c.requires.node;
    } in
    send_room v f c.send.new.self c.args.node.0 c.args.reading c.in-Ok.messages stands c.in-Ok.ensures.ok
    c.in-Ok.ensures.others

pub push_reserved-requires : goal.push_reserved-requires
push_reserved-requires c =
    let v = c.args.self.now in
    let f = c.self.inside.fields in
    let stands : Stands v f c.args.node.0 =
    record {
      shows = c.self.view_is;
      keeps = c.self.invariant;
      going = grind (arith, common_steps);
      within = c.requires.node;
    } in
    let place =
    send_place v f c.send_messages.new.self c.send.new.self c.args.node.0 c.args.reading c.in-Ok.messages stands
    c.in-Ok.ensures.ok c.send_messages.ensures.others in
    omega (arith, place)

pub invariant_of-self-2 : goal.invariant_of-self-2
invariant_of-self-2 c =
    let v = c.args.self.now in
    let f = c.self.inside.fields in
    let s = c.send_messages.new.self in
    let round = c.round_in_hand-round.result in
    let g : BusFields = record s { journal = c.push_reserved.new.self } in
    let stands : Stands v f c.args.node.0 =
    record {
      shows = c.self.view_is;
      keeps = c.self.invariant;
      going = grind (arith, common_steps);
      within = c.requires.node;
    } in
    let sent : IsSent f s g c.send.new.self c.args.node c.args.reading round c.in-Ok.messages = record {
      nodes_are = c.in-Ok.ensures.others;
      flights = c.send_messages.ensures.sent;
      queues = c.send_messages.ensures.queues;
      sent = c.send_messages.ensures.others;
      same = refl;
      told = c.push_reserved.ensures.items;
      capacity = c.push_reserved.ensures.capacity;
    } in
    (sends v f s g c.send.new.self c.args.node c.args.reading round c.in-Ok.messages stands c.in-Ok.ensures.ok
    c.round_in_hand-round.ensures sent).keeps

pub returns-clause-ok : goal.returns-clause-ok
returns-clause-ok c =
    let v = c.args.self.now in
    let f = c.self.inside.fields in
    let s = c.send_messages.new.self in
    let round = c.round_in_hand-round.result in
    let g : BusFields = record s { journal = c.push_reserved.new.self } in
    let stands : Stands v f c.args.node.0 =
    record {
      shows = c.self.view_is;
      keeps = c.self.invariant;
      going = grind (arith, common_steps);
      within = c.requires.node;
    } in
    let sent : IsSent f s g c.send.new.self c.args.node c.args.reading round c.in-Ok.messages = record {
      nodes_are = c.in-Ok.ensures.others;
      flights = c.send_messages.ensures.sent;
      queues = c.send_messages.ensures.queues;
      sent = c.send_messages.ensures.others;
      same = refl;
      told = c.push_reserved.ensures.items;
      capacity = c.push_reserved.ensures.capacity;
    } in
    (sends v f s g c.send.new.self c.args.node c.args.reading round c.in-Ok.messages stands c.in-Ok.ensures.ok
    c.round_in_hand-round.ensures sent).says
