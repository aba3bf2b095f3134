use Rattle.std.proofs.Common.{◌∙◌, ap, sym}
use Rattle.aadl_tree.specs.proof.PackageViews.{placed}
use Rattle.aadl_chains.specs.proof.PortsJoinedInside.{reaches_in}
use Rattle.aadl_chains.proofs.JoinedInsideByConnection.{reaches_in_to, reaches_in_from}
use Rattle.aadl_chains.proofs.ports_joined_inside.JoinedInside.reaches.Goals as goal

pub returns : goal.returns
returns c =
    let tree = placed c.args.wires.now.uses.names.tree.now in
    let d = c.args.self.now.direction in
    let ports = c.args.self.now.ports in
    let is = c.reaches_in.ensures ∙ ap (λ o. reaches_in ports tree d o c.args.port) c.below.ensures in (
      λ t. reaches_in_to tree d ports _ c.args.port c.requires.sound (sym is ∙ t),
      λ r. is ∙ reaches_in_from tree d ports _ c.args.port c.requires r,
    )
