use Rattle.std.proofs.Common.{arith, reverse}
use Rattle.std.proofs.lemmas.List.{length-map}
use Rattle.aadl_instance.proofs.numbered_ends.thread_end.Goals as goal

pub node_of-requires-clause-among : goal.node_of-requires-clause-among
node_of-requires-clause-among c = c.requires.ready.settled.threads.complete (reverse c.args.path.now) c.requires.thread

pub node_of-requires-clause-in_order : goal.node_of-requires-clause-in_order
node_of-requires-clause-in_order c = c.requires.ready.settled.threads.in_order

pub node_of-requires-clause-few : goal.node_of-requires-clause-few
node_of-requires-clause-few c =
    let size = length-map c.args.network.now.threads.now (λ path. reverse path.items) in
    let few = c.requires.ready.settled.few in
    omega arith
