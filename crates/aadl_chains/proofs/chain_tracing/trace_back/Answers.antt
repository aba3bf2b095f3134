use Rattle.std.proofs.Common.{◌∙◌, ◌∷◌, [], ap, refl, reverse, subst, sym, take}
use Rattle.std.proofs.lemmas.List.{reverse-append}
use Rattle.aadl_tree.specs.proof.PackageViews.{placed}
use Rattle.aadl_chains.specs.Chains.{Port}
use Rattle.aadl_chains.specs.proof.WalkResults.{crossing}
use Rattle.aadl_chains.specs.proof.TracedChains.{Traces}
use Rattle.aadl_chains.proofs.WalkResults.{crossing_from}
use Rattle.aadl_chains.proofs.TracedChains.{traces_nothing}
use Rattle.aadl_chains.proofs.WalksUpAndDown.{root_route, over_route}
use Rattle.aadl_chains.proofs.chain_tracing.trace_back.Goals as goal

pub lower_of-lower-requires : goal.lower_of-lower-requires
lower_of-lower-requires c =
    let crossed = c.in-Crossing.crossed in
    let f =
    crossing_from (placed c.args.wires.now.uses.names.tree.now) c.args.root c.requires.declared
    (reverse c.args.path.now) c.args.port
    (crossing c.args.path.now crossed) (sym c.in-Crossing.ensures) in
    (crossed.sub, crossed.port, f.number, refl, f.names, f.goes_out)

pub returns-in-Nowhere : goal.returns-in-Nowhere
returns-in-Nowhere c =
    let to : Port = record { path = reverse c.args.path.now; port = c.args.port } in
    traces_nothing (placed c.args.wires.now.uses.names.tree.now) c.args.root c.requires.declared c.requires.one
    c.requires.no_thread to (sym c.in-Nowhere.ensures)

pub returns-in-Root : goal.returns-in-Root
returns-in-Root c =
    let tree = placed c.args.wires.now.uses.names.tree.now in
    let to : Port = record { path = reverse c.args.path.now; port = c.args.port } in
    subst (Traces tree c.args.root to) (sym c.route_from_root.ensures)
    (root_route tree c.args.root c.requires.declared c.requires.one c.requires.no_thread to c.in-Root.last
    c.in-Root.from c.requires.thread
    (sym c.in-Root.ensures))

pub returns-in_ok-begin-in-Crossing : goal.returns-in_ok-begin-in-Crossing
returns-in_ok-begin-in-Crossing c =
    let tree = placed c.args.wires.now.uses.names.tree.now in
    let to : Port = record { path = reverse c.args.path.now; port = c.args.port } in
    let crossed = c.in-Crossing.crossed in
    let turned =
    ap reverse c.in_ok-way-in-Crossing.ensures
    ∙ reverse-append (take crossed.depth c.args.path.now) (crossed.sub ∷ []) in
    subst (Traces tree c.args.root to) (sym c.route_from.ensures)
    (over_route tree c.args.root c.requires.declared c.requires.one c.requires.no_thread to
    (crossing c.args.path.now crossed) c.in_ok-begin-in-Crossing.begin c.in_ok-way-in-Crossing.way.items
    c.lower_of-lower.result c.requires.thread (sym c.in-Crossing.ensures) turned c.lower_of-lower.ensures.is
    c.lower_of-lower.ensures.names
    (λ stands. c.in_ok-begin-in-Crossing.ensures c.args.root c.requires.one stands))
