use Rattle.std.proofs.Common.{◌∙◌, [], ap, reverse, subst, sym}
use Rattle.aadl_tree.specs.proof.PackageViews.{placed}
use Rattle.aadl_chains.specs.Chains.{Port}
use Rattle.aadl_chains.specs.proof.TracedChains.{TracesTap}
use Rattle.aadl_chains.proofs.FirstIncomingConnections.{inner_of}
use Rattle.aadl_chains.proofs.TracedChains.{no_tap}
use Rattle.aadl_chains.proofs.WalksUpAndDown.{tap_route}
use Rattle.aadl_chains.proofs.chain_tracing.trace_tap.Goals as goal

pub lower_of-lower-requires : goal.lower_of-lower-requires
lower_of-lower-requires c =
    inner_of (placed c.args.wires.now.uses.names.tree.now) c.requires.declared c.args.root c.args.port c.in-Some.from.0
    c.in-Some.from.1 c.requires.out
    (sym c.connection_into.ensures ∙ c.in-Some.is)

pub returns-in_ok-begin-in-Some : goal.returns-in_ok-begin-in-Some
returns-in_ok-begin-in-Some c =
    let tree = placed c.args.wires.now.uses.names.tree.now in
    let to : Port = record { path = []; port = c.args.port } in
    subst (TracesTap tree c.args.root to) (sym c.route_from.ensures)
    (tap_route tree c.args.root c.requires.declared c.requires.one c.requires.no_thread c.args.port c.in-Some.from.0
    c.in-Some.from.1
    c.in_ok-begin-in-Some.begin c.in_ok-path-in-Some.path.items c.lower_of-lower.result
    (sym c.connection_into.ensures ∙ c.in-Some.is) c.requires.out
    (ap reverse c.in_ok-path-in-Some.ensures) c.lower_of-lower.ensures.is c.lower_of-lower.ensures.names
    (λ stands. c.in_ok-begin-in-Some.ensures c.args.root c.requires.one stands))

pub returns-in-None : goal.returns-in-None
returns-in-None c =
    no_tap (placed c.args.wires.now.uses.names.tree.now) c.args.root c.requires.declared c.requires.one
    c.requires.no_thread c.args.port
    (sym c.connection_into.ensures ∙ c.in-None.is)
