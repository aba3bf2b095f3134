use Rattle.std.proofs.Common.{sym}
use Rattle.std.proofs.lemmas.Result.{on_ok_weaker}
use Rattle.aadl_tree.specs.proof.PackageViews.{placed}
use Rattle.aadl_tree.specs.proof.DeclarationViews.{connection_view}
use Rattle.aadl_tree.specs.proof.PlaceMaps.{kept_place}
use Rattle.aadl_chains.proofs.FoundChainFaults.{both_found, nothing_at}
use Rattle.aadl_chains.proofs.connection_faults.check.Goals as goal

pub returns-in-Some : goal.returns-in-Some
returns-in-Some c =
    let tree = placed c.args.wires.now.uses.names.tree.now in
    on_ok_weaker c.report.result
    (λ e. both_found tree c.args.ways.now.root c.args.number c.args.at
    (connection_view kept_place c.in-Some.connection.now) c.args.wire (sym c.in-Some.ensures)
    c.requires.wire c.has-is_on_way.result c.is_second-is_second.result c.args.finder.now c.report.new.finder
    c.has-is_on_way.ensures
    c.is_second-is_second.ensures e)
    c.report.ensures

pub returns-in-None : goal.returns-in-None
returns-in-None c =
    nothing_at (placed c.args.wires.now.uses.names.tree.now) c.args.ways.now.root c.args.number c.args.at
    c.args.finder.now (sym c.in-None.ensures)
