use Rattle.std.proofs.Common.{◌≡◌, Some, ◌∙◌, ap}
use Rattle.std.proofs.lemmas.Result.{on_ok_weaker}
use Rattle.aadl_tree.specs.proof.PackageViews.{placed}
use Rattle.aadl_names.specs.declared.numbered_port.NumberedPort.TheVariants.{Own}
use Rattle.aadl_chains.proofs.EnteredPortCountTables.{own_taken}
use Rattle.aadl_chains.proofs.entered_port_counts.PortCounts.add.Goals as goal

pub returns-in-Own : goal.returns-in-Own
returns-in-Own c =
    let source : c.args.wire.source ≡ Some (Own c.in-Own.port) = c.in-Some.is ∙ ap Some c.in-Own.is in
    on_ok_weaker c.increase.result
    (λ grown. own_taken (placed c.args.wires.now.uses.names.tree.now) c.args.limit c.args.number c.args.at c.args.wire
    c.args.self.now c.increase.new.self
    c.in-Own.port c.through-more.result source c.through-more.ensures grown)
    c.increase.ensures
