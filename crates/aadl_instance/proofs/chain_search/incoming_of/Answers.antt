use Rattle.std.proofs.Common.{◌≤◌, ◌∙◌, Some, ap, arith, length, reverse, sym}
use Rattle.std.proofs.lemmas.List.{length-map}
use Rattle.aadl_tree.specs.proof.PackageViews.{placed}
use Rattle.aadl_instance.specs.proof.ChainsSoFar.{paths_of}
use Rattle.aadl_instance.proofs.ChainsSoFar.{into_start, links_whole, feeds_whole}
use Rattle.aadl_instance.proofs.ChainEndNumbers.{path_at}
use Rattle.aadl_instance.proofs.chain_search.incoming_of.Goals as goal

pub loop-number-init : goal.loop-number-init
loop-number-init c =
    let net = c.args.network.now in
    into_start (placed net.wires.now.uses.names.tree.now) net.root (paths_of net.threads.now)
    c.requires.settled.no_thread
    (record { links = c.new.result; feeds = c.new-2.result })
    c.new.ensures c.new-2.ensures

pub add_thread-requires-clause-thread : goal.add_thread-requires-clause-thread
add_thread-requires-clause-thread c =
    path_at c.args.network.now.threads.now c.loop-number.number c.thread-item.result c.loop-number-test.true
    c.thread-item.is
    ∙ ap (λ l. Some (reverse l)) (sym c.as_slice.ensures.value)

pub loop-number-preserved : goal.loop-number-preserved
loop-number-preserved c = c.in_ok-add_thread.ensures c.loop-number.invariant

pub returns-clause-links : goal.returns-clause-links
returns-clause-links c =
    let net = c.args.network.now in
    let tree = placed net.wires.now.uses.names.tree.now in
    let size = length-map net.threads.now (λ path. reverse path.items) in
    let past = c.loop-number-test.false in
    let all : length (paths_of net.threads.now) ≤ c.loop-number.number = omega arith in
    links_whole tree net.root (paths_of net.threads.now) c.requires.settled.no_thread c.loop-number.number all
    c.requires.settled.threads c.loop-number.incoming
    c.loop-number.invariant

pub returns-clause-feeds : goal.returns-clause-feeds
returns-clause-feeds c =
    let net = c.args.network.now in
    let tree = placed net.wires.now.uses.names.tree.now in
    let size = length-map net.threads.now (λ path. reverse path.items) in
    let past = c.loop-number-test.false in
    let all : length (paths_of net.threads.now) ≤ c.loop-number.number = omega arith in
    feeds_whole tree net.root (paths_of net.threads.now) c.requires.settled.no_thread c.loop-number.number all
    c.requires.settled.threads c.loop-number.incoming
    c.loop-number.invariant
