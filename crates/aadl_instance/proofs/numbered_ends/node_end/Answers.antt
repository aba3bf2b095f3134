use Rattle.std.proofs.Common.{◌<◌, ◌∙◌, sym, ap, arith, length, reverse, subst}
use Rattle.aadl_tree.specs.proof.PackageViews.{placed}
use Rattle.aadl_names.specs.NameResolution.{implementation_at, ports_at}
use Rattle.aadl_instance.specs.declared.chain.ChainEnd.TheVariants.{Thread}
use Rattle.aadl_uses.specs.proof.ImplementationTypes.{type_number_at}
use Rattle.aadl_instance.specs.InstancesByNumbers.{node_at, number_among}
use Rattle.aadl_instance.specs.proof.PortNumberTables.{number_in}
use Rattle.aadl_instance.specs.proof.ChainsSoFar.{paths_of}
use Rattle.aadl_instance.proofs.PortNumberTables.{few_before}
use Rattle.aadl_instance.proofs.ChainsSoFar.{thread_listed}
use Rattle.aadl_instance.proofs.ChainEndNumbers.{node_is, thread_shown, few_at, open_at}
use Rattle.aadl_instance.proofs.numbered_ends.node_end.Goals as goal

pub overflow_cast-result : goal.overflow_cast-result
overflow_cast-result c =
    let net = c.args.network.now in
    let tree = placed net.wires.now.uses.names.tree.now in
    let node = c.args.node.now in
    let path = reverse node.path.now in
    let within : c.args.port < length (ports_at tree (implementation_at tree node.declaration)) =
    subst (λ o. c.args.port < length (ports_at tree o))
    (open_at tree net.root path node.declaration c.requires.node.stands) c.requires.port in
    let few = few_at tree net.root path node.declaration c.requires.node.stands
    (thread_listed tree net.root (paths_of net.threads.now) c.requires.ready.settled.threads node.number.0 path
    c.requires.node.numbered)
    c.requires.ready.settled.few_ports in
    let before =
    few_before (ports_at tree (implementation_at tree node.declaration)) c.args.port (omega (arith, within)) in
    let number = c.get-among.ensures ∙ (ap (λ o. number_in net.numbers.now o c.args.port) c.type_number-of_type.ensures
    ∙ c.requires.ready.numbers (type_number_at tree node.declaration) c.args.port within) in
    omega (arith, within, few, before, number)

pub returns : goal.returns
returns c =
    let net = c.args.network.now in
    let tree = placed net.wires.now.uses.names.tree.now in
    let paths = paths_of net.threads.now in
    let node = c.args.node.now in
    let path = reverse node.path.now in
    let stands = open_at tree net.root path node.declaration c.requires.node.stands in
    let within : c.args.port < length (ports_at tree (implementation_at tree node.declaration)) =
    subst (λ o. c.args.port < length (ports_at tree o)) stands c.requires.port in
    ap (λ n. Thread n c.get-among.result)
    (sym (node_is paths node.number path c.requires.ready.settled.threads.in_order c.requires.node.numbered))
    ∙ (ap (Thread (node_at paths path))
    (c.get-among.ensures ∙ (ap (λ o. number_in net.numbers.now o c.args.port) c.type_number-of_type.ensures
    ∙ c.requires.ready.numbers (type_number_at tree node.declaration) c.args.port within
    ∙ ap (λ o. number_among (ports_at tree o) c.args.port) (sym stands)))
    ∙ thread_shown tree net.root paths path c.args.port c.requires.ready.settled.no_thread
    (thread_listed tree net.root paths c.requires.ready.settled.threads node.number.0 path c.requires.node.numbered))
