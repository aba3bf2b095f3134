use Rattle.std.proofs.Common.{◌<◌, List, length, sym, subst}
use Rattle.pals_node.specs.proof.NodeAndJobValues.{NodeValue}
use Rattle.pals_bus.proofs.TargetUpdates.{targets_stay}
use Rattle.pals_bus.proofs.node_list.NodeList.arrive.Goals as goal

pub invariant_of-self : goal.invariant_of-self
invariant_of-self c =
    targets_stay c.self.inside.nodes c.self.inside.targets c.args.node c.args.port c.args.round c.args.tuple
    c.index_mut.result.now c.arrive.new.self c.self.invariant
    (subst (λ (ns : List NodeValue). c.args.node < length ns) (sym c.self.view_is) c.requires.node)
    c.index_mut.ensures.value c.arrive.ensures.node
