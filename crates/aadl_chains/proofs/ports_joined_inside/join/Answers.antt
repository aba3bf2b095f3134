use Rattle.std.proofs.Common.{◌∙◌, subst, sym}
use Rattle.std.proofs.lemmas.Result.{on_ok_weaker}
use Rattle.aadl_tree.specs.proof.PackageViews.{placed}
use Rattle.aadl_chains.specs.proof.PortsJoinedInside.{IsJoined}
use Rattle.aadl_chains.proofs.JoinedInsideByConnection.{one_joined, none_joined}
use Rattle.aadl_chains.proofs.ports_joined_inside.join.Goals as goal

pub returns-in-Some : goal.returns-in-Some
returns-in-Some c =
    let tree = placed c.args.wires.now.uses.names.tree.now in
    on_ok_weaker c.add.result
    (λ e. subst (IsJoined tree c.args.direction c.args.number c.args.wire c.args.ports.now) (sym e)
    (one_joined tree c.args.direction c.args.ports.now c.args.number c.in-Some.port c.args.wire
    (sym c.joined.ensures ∙ c.in-Some.is)))
    c.add.ensures

pub returns-in-None : goal.returns-in-None
returns-in-None c =
    none_joined (placed c.args.wires.now.uses.names.tree.now) c.args.direction c.args.ports.now c.args.number
    c.args.wire (sym c.joined.ensures ∙ c.in-None.is)
