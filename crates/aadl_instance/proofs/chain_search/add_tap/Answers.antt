use Rattle.std.proofs.Common.{◌∙◌, [], ap, refl, subst, sym}
use Rattle.std.proofs.lemmas.Result.{on_ok_weaker}
use Rattle.aadl_tree.specs.proof.PackageViews.{placed}
use Rattle.aadl_chains.proofs.ConnectionsOnChains.{port, is_in-at}
use Rattle.aadl_chains.specs.proof.TracedChains.{TracesTap}
use Rattle.aadl_instance.specs.proof.ChainsSoFar.{paths_of, chain_by}
use Rattle.aadl_instance.proofs.AddedChains.{tap_begins, tap_added, no_tap, in_tap}
use Rattle.aadl_instance.proofs.chain_search.add_tap.Goals as goal

pub returns-then-is_in : goal.returns-then-is_in
returns-then-is_in c =
    let net = c.args.network.now in
    let tree = placed net.wires.now.uses.names.tree.now in
    in_tap tree net.root (paths_of net.threads.now) c.args.port c.requires.ready.settled.no_thread c.args.taps.now
    (is_in-at tree net.root (port [] c.args.port) net.root refl ∙ (sym c.is_in.ensures ∙ c.if-is_in.true))

pub chain_by-requires-clause-begins : goal.chain_by-requires-clause-begins
chain_by-requires-clause-begins c =
    let net = c.args.network.now in
    let tree = placed net.wires.now.uses.names.tree.now in
    let to = port [] c.args.port in
    tap_begins tree net.root to c.in-Some.route (subst (TracesTap tree net.root to) c.in-Some.is c.in_ok-route.ensures)

pub returns-in_ok-chain_by-in-Some : goal.returns-in_ok-chain_by-in-Some
returns-in_ok-chain_by-in-Some c =
    let net = c.args.network.now in
    let tree = placed net.wires.now.uses.names.tree.now in
    let paths = paths_of net.threads.now in
    let to = port [] c.args.port in
    let route = c.in-Some.route in
    on_ok_weaker c.push.result
    (λ added taps.
    tap_added tree net.root paths c.args.port route c.in_ok-chain_by-in-Some.field-0 c.args.taps.now c.push.new.self
    (subst (TracesTap tree net.root to) c.in-Some.is c.in_ok-route.ensures)
    (c.in_ok-chain_by-in-Some.ensures ∙ ap (chain_by tree net.root paths route) c.in_ok-to-in-Some.ensures) added taps)
    c.push.ensures.ok

pub returns-in-None : goal.returns-in-None
returns-in-None c =
    let net = c.args.network.now in
    let tree = placed net.wires.now.uses.names.tree.now in
    no_tap tree net.root (paths_of net.threads.now) c.args.port c.args.taps.now
    (subst (TracesTap tree net.root (port [] c.args.port)) c.in-None.is c.in_ok-route.ensures)
