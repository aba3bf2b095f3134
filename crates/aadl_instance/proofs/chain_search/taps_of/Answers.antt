use Rattle.std.proofs.Common.{◌≤◌, ◌∙◌, sym, ap, arith, length, subst}
use Rattle.std.proofs.lemmas.List.{length-map}
use Rattle.aadl_tree.specs.proof.PlaceMaps.{kept_place}
use Rattle.aadl_tree.specs.proof.PackageViews.{placed}
use Rattle.aadl_tree.specs.proof.DeclarationViews.{feature_view}
use Rattle.aadl_names.specs.NameResolution.{implementation_at, ports_at}
use Rattle.aadl_instance.specs.proof.ChainsSoFar.{paths_of, AreTapsTo}
use Rattle.aadl_instance.proofs.ChainsSoFar.{taps_none, taps_whole}
use Rattle.aadl_instance.proofs.chain_search.taps_of.Goals as goal

pub loop-port-init : goal.loop-port-init
loop-port-init c =
    let net = c.args.network.now in
    let tree = placed net.wires.now.uses.names.tree.now in
    let paths = paths_of net.threads.now in
    subst (AreTapsTo tree net.root paths 0) (sym c.new-taps.ensures) (taps_none tree net.root paths)

pub returns : goal.returns
returns c =
    let net = c.args.network.now in
    let tree = placed net.wires.now.uses.names.tree.now in
    let size =
    sym (length-map c.ports-port-end.result.now (feature_view kept_place)) ∙ ap length c.ports-port-end.ensures in
    let past = c.loop-port-test.false in
    let all : length (ports_at tree (implementation_at tree net.root)) ≤ c.loop-port.port = omega arith in
    taps_whole tree net.root (paths_of net.threads.now) c.loop-port.port c.loop-port.taps all c.loop-port.invariant
