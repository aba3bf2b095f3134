use Rattle.std.proofs.Common.{◌∙◌, sym}
use Rattle.aadl_tree.specs.proof.PackageViews.{placed}
use Rattle.aadl_chains.proofs.JoinedOutsideByConnection.{leads_to, leads_found}
use Rattle.aadl_chains.proofs.ports_joined_outside.JoinedOutside.leads.Goals as goal

pub returns : goal.returns
returns c =
    let tree = placed c.args.wires.now.uses.names.tree.now in
    let root = c.args.self.now.side.root in
    let d = c.args.self.now.side.direction in
    let inside = c.args.inside.now.ports in
    let outside = c.args.self.now.ports in (
      λ t. leads_to tree root d inside c.requires.inside outside c.args.declaration c.args.site c.requires.outside.sound
          (sym c.leads_from.ensures ∙ t),
      λ l. c.leads_from.ensures
          ∙ leads_found tree root d inside c.requires.inside outside c.args.declaration c.args.site
          (c.requires.outside.complete c.args.declaration) l,
    )
