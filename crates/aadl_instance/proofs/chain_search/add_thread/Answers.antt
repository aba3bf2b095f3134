use Rattle.std.proofs.Common.{◌≤◌, ◌∙◌, sym, ap, arith, length, reverse}
use Rattle.std.proofs.lemmas.List.{length-map}
use Rattle.aadl_tree.specs.proof.PlaceMaps.{kept_place}
use Rattle.aadl_tree.specs.proof.PackageViews.{placed}
use Rattle.aadl_tree.specs.proof.DeclarationViews.{feature_view}
use Rattle.aadl_names.specs.NameResolution.{implementation_at, ports_at}
use Rattle.aadl_instance.specs.proof.ChainsSoFar.{paths_of}
use Rattle.aadl_instance.proofs.ChainsSoFar.{thread_listed, into_thread}
use Rattle.aadl_instance.proofs.ChainEndNumbers.{stands}
use Rattle.aadl_instance.proofs.chain_search.add_thread.Goals as goal

pub unreachable-requires : goal.unreachable-requires
unreachable-requires c =
    let net = c.args.network.now in
    let tree = placed net.wires.now.uses.names.tree.now in
    let path = reverse c.args.path.now in
    let there = stands tree net.root path
    (thread_listed tree net.root (paths_of net.threads.now) c.requires.ready.settled.threads c.args.number.0 path
    c.requires.thread) in
    c.in_default.not-Some there.0 (c.standing.ensures ∙ there.1)

pub returns : goal.returns
returns c = λ into.
    let net = c.args.network.now in
    let tree = placed net.wires.now.uses.names.tree.now in
    let size =
    sym (length-map c.ports-port-end.result.now (feature_view kept_place)) ∙ ap length c.ports-port-end.ensures in
    let past = c.loop-port-test.false in
    let all : length (ports_at tree (implementation_at tree c.in-Some.declaration)) ≤ c.loop-port.port = omega arith in
    into_thread tree net.root (paths_of net.threads.now) c.requires.ready.settled.no_thread c.args.number.0
    c.loop-port.port c.in-Some.declaration (reverse c.args.path.now)
    c.loop-port.incoming c.requires.thread (sym c.standing.ensures ∙ c.in-Some.is) all (c.loop-port.invariant into)
