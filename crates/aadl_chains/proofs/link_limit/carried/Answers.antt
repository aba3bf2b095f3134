use Rattle.std.proofs.Common.{◌≡◌, subst, sym, Some, ◌∙◌, ap}
use Rattle.list_lemmas.proofs.Booleans.{opposed}
use Rattle.aadl_tree.specs.proof.PackageViews.{placed}
use Rattle.aadl_names.specs.declared.numbered_port.NumberedPort.TheVariants.{Inner}
use Rattle.aadl_chains.specs.proof.PortsJoinedInside.{ReachesIn}
use Rattle.aadl_chains.proofs.FirstIncomingConnections.{own_no_inner, none_no_inner}
use Rattle.aadl_chains.proofs.LinkLimits.{carried-number, carried-none, carried-not}
use Rattle.aadl_chains.proofs.link_limit.carried.Goals as goal

pub returns-then-reaches : goal.returns-then-reaches
returns-then-reaches c =
    let tree = placed c.args.wires.now.uses.names.tree.now in
    let source : c.args.wire.source ≡ Some (Inner c.in-Inner.sub c.in-Inner.port) = c.in-Some.is
    ∙ ap Some c.in-Inner.is in
    carried-number tree c.args.limit c.args.number c.args.at c.through.result c.in-Inner.sub c.in-Inner.port c.args.wire
    c.requires.wire source
    (subst (λ d. ReachesIn tree d c.args.number c.in-Inner.sub c.in-Inner.port) c.requires.direction
    (c.reaches.ensures.0 c.if-reaches.true))
    (c.through.ensures c.requires.takes)

pub returns-else-reaches : goal.returns-else-reaches
returns-else-reaches c =
    let tree = placed c.args.wires.now.uses.names.tree.now in
    let source : c.args.wire.source ≡ Some (Inner c.in-Inner.sub c.in-Inner.port) = c.in-Some.is
    ∙ ap Some c.in-Inner.is in
    carried-not tree c.args.limit c.args.number c.args.at c.in-Inner.sub c.in-Inner.port c.args.wire
    c.requires.wire source
    (λ r. opposed c.reaches.result
    (c.reaches.ensures.1 (subst (λ d. ReachesIn tree d c.args.number c.in-Inner.sub c.in-Inner.port)
    (sym c.requires.direction) r)) c.if-reaches.false)

pub returns-in-Own : goal.returns-in-Own
returns-in-Own c =
    carried-none (placed c.args.wires.now.uses.names.tree.now) c.args.limit c.args.number c.args.at c.args.wire
    c.requires.wire
    (λ t q e r. own_no_inner c.args.wire.source _ _ t q c.in-Some.is c.in-Own.is e)

pub returns-in-None : goal.returns-in-None
returns-in-None c =
    carried-none (placed c.args.wires.now.uses.names.tree.now) c.args.limit c.args.number c.args.at c.args.wire
    c.requires.wire
    (λ t q e r. none_no_inner c.args.wire.source t q c.in-None.is e)
