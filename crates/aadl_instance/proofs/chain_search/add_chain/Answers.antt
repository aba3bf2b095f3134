use Rattle.std.proofs.Common.{◌∙◌, ap, reverse, subst}
use Rattle.std.proofs.lemmas.Result.{on_ok_weaker}
use Rattle.aadl_tree.specs.proof.PackageViews.{placed}
use Rattle.aadl_names.specs.NameResolution.{ports_at}
use Rattle.aadl_uses.specs.ContainmentAndUse.{component_at}
use Rattle.aadl_chains.proofs.ConnectionsOnChains.{port, is_in-at}
use Rattle.aadl_chains.specs.proof.TracedChains.{Traces}
use Rattle.aadl_instance.specs.proof.ChainsSoFar.{paths_of, chain_by}
use Rattle.aadl_instance.proofs.DeclaredEndPorts.{in_within}
use Rattle.aadl_instance.proofs.ChainsSoFar.{thread_listed}
use Rattle.aadl_instance.proofs.AddedChains.{route_begins, route_added, none_added}
use Rattle.aadl_instance.proofs.chain_search.add_chain.Goals as goal

pub trace_back-requires-clause-thread : goal.trace_back-requires-clause-thread
trace_back-requires-clause-thread c =
    let net = c.args.network.now in
    let tree = placed net.wires.now.uses.names.tree.now in
    let path = reverse c.args.node.now.path.now in (
      thread_listed tree net.root (paths_of net.threads.now) c.requires.ready.settled.threads c.args.node.now.number.0
          path c.requires.node.numbered,
      is_in-at tree net.root (port path c.args.port) c.args.node.now.declaration c.requires.node.stands
          ∙ c.requires.goes_in,
    )

pub node_end-to-requires-clause-port : goal.node_end-to-requires-clause-port
node_end-to-requires-clause-port c =
    let net = c.args.network.now in
    let tree = placed net.wires.now.uses.names.tree.now in
    let path = reverse c.args.node.now.path.now in
    in_within (ports_at tree (component_at tree net.root path)) c.args.port
    (is_in-at tree net.root (port path c.args.port) c.args.node.now.declaration c.requires.node.stands
    ∙ c.requires.goes_in)

pub chain_by-requires-clause-begins : goal.chain_by-requires-clause-begins
chain_by-requires-clause-begins c =
    let net = c.args.network.now in
    let tree = placed net.wires.now.uses.names.tree.now in
    let to = port (reverse c.args.node.now.path.now) c.args.port in
    route_begins tree net.root to c.in-Some.route (subst (Traces tree net.root to) c.in-Some.is c.in_ok-route.ensures)

pub returns-in_ok-chain-in-Some : goal.returns-in_ok-chain-in-Some
returns-in_ok-chain-in-Some c =
    let net = c.args.network.now in
    let tree = placed net.wires.now.uses.names.tree.now in
    let paths = paths_of net.threads.now in
    let path = reverse c.args.node.now.path.now in
    let to = port path c.args.port in
    let route = c.in-Some.route in
    on_ok_weaker c.push.result
    (λ added into.
    route_added tree net.root c.requires.ready.settled.no_thread paths c.requires.ready.settled.threads.in_order
    c.args.node.now.number.0 c.args.port path
    c.requires.node.numbered route
    c.in_ok-chain-in-Some.chain c.args.incoming.now c.push.new.self
    (subst (Traces tree net.root to) c.in-Some.is c.in_ok-route.ensures)
    (c.in_ok-chain-in-Some.ensures ∙ ap (chain_by tree net.root paths route) c.node_end-to.ensures) added into)
    c.push.ensures

pub returns-in-None : goal.returns-in-None
returns-in-None c = λ into.
    let net = c.args.network.now in
    let tree = placed net.wires.now.uses.names.tree.now in
    let path = reverse c.args.node.now.path.now in
    none_added tree net.root c.requires.ready.settled.no_thread (paths_of net.threads.now)
    c.requires.ready.settled.threads.in_order
    c.args.node.now.number.0 c.args.port path c.requires.node.numbered c.args.incoming.now
    (subst (Traces tree net.root (port path c.args.port)) c.in-None.is c.in_ok-route.ensures) into
