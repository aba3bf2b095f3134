use Rattle.std.proofs.Common.{◌∙◌, sym, reverse}
use Rattle.aadl_tree.specs.proof.PackageViews.{placed}
use Rattle.aadl_chains.proofs.ConnectionsOnChains.{port, is_in-at}
use Rattle.aadl_instance.specs.proof.ChainsSoFar.{paths_of}
use Rattle.aadl_instance.proofs.ChainsSoFar.{thread_listed}
use Rattle.aadl_instance.proofs.AddedChains.{out_added}
use Rattle.aadl_instance.proofs.chain_search.add_port.Goals as goal

pub returns-else-is_in : goal.returns-else-is_in
returns-else-is_in c = λ into.
    let net = c.args.network.now in
    let tree = placed net.wires.now.uses.names.tree.now in
    let paths = paths_of net.threads.now in
    let path = reverse c.args.node.now.path.now in
    out_added tree net.root c.requires.ready.settled.no_thread paths c.requires.ready.settled.threads.in_order
    c.args.node.now.number.0 c.args.port path c.requires.node.numbered
    c.args.incoming.now
    (thread_listed tree net.root paths c.requires.ready.settled.threads c.args.node.now.number.0 path
    c.requires.node.numbered)
    (is_in-at tree net.root (port path c.args.port) c.args.node.now.declaration c.requires.node.stands
    ∙ (sym c.is_in.ensures ∙ c.if-is_in.false)) into
