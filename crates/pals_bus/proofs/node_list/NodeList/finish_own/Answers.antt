use Rattle.std.proofs.Common.{◌<◌, List, length, sym, subst}
use Rattle.pals_node.specs.proof.NodeAndJobValues.{NodeValue}
use Rattle.pals_bus.proofs.TargetUpdates.{targets_kept}
use Rattle.pals_bus.proofs.node_list.NodeList.finish_own.Goals as goal

pub invariant_of-self : goal.invariant_of-self
invariant_of-self c =
    targets_kept c.self.inside.nodes c.self.inside.targets c.keep_target.new.targets c.args.node
    c.finish_own-answer.new.self c.self.invariant
    (subst (λ (ns : List NodeValue). c.args.node < length ns) (sym c.self.view_is) c.requires.node)
    c.keep_target.ensures
