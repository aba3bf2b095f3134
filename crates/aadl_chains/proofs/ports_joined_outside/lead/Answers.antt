use Rattle.std.proofs.Common.{◌∙◌, subst, sym}
use Rattle.std.proofs.lemmas.Result.{on_ok_weaker}
use Rattle.aadl_tree.specs.proof.PackageViews.{placed}
use Rattle.aadl_chains.specs.proof.PortsJoinedOutside.{IsLed}
use Rattle.aadl_chains.proofs.JoinedOutsideByConnection.{one_led, none_led}
use Rattle.aadl_chains.proofs.ports_joined_outside.lead.Goals as goal

pub returns-in-Some : goal.returns-in-Some
returns-in-Some c =
    let tree = placed c.args.wires.now.uses.names.tree.now in
    let root = c.args.side.root in
    let d = c.args.side.direction in
    let inside = c.args.inside.now.ports in
    on_ok_weaker c.add.result
    (λ e. subst (IsLed tree root d inside c.args.number c.args.wire c.args.ports.now) (sym e)
    (one_led tree root d inside c.requires.inside c.args.ports.now c.args.number c.args.wire c.in-Some.port
    (sym c.led.ensures ∙ c.in-Some.is)))
    c.add.ensures

pub returns-in-None : goal.returns-in-None
returns-in-None c =
    none_led (placed c.args.wires.now.uses.names.tree.now) c.args.side.root c.args.side.direction
    c.args.inside.now.ports c.requires.inside c.args.ports.now
    c.args.number c.args.wire (sym c.led.ensures ∙ c.in-None.is)
