use Rattle.std.proofs.Common.{subst, sym}
use Rattle.aadl_tree.specs.proof.PackageViews.{placed}
use Rattle.aadl_uses.specs.proof.ContainmentGraphs.{Graph, IsWithin, LeadsBack}
use Rattle.aadl_uses.proofs.PackageContainment.{within}
use Rattle.aadl_uses.proofs.FirstRecursion.{no_way_back}
use Rattle.aadl_uses.proofs.ThreadCounts.{ok_order}
use Rattle.aadl_uses.proofs.resolved_package.Uses.order.Goals as goal

pub order-requires : goal.order-requires
order-requires c =
    let tree = placed c.args.self.now.names.tree.now in
    record {
      within = subst (λ (g : Graph). IsWithin g) (sym c.args.self.now.of_subs) (within tree);
      acyclic =
          λ n s back. no_way_back tree c.requires n s
          (subst (λ (g : Graph). LeadsBack g n s) c.args.self.now.of_subs back);
    }

pub returns : goal.returns
returns c =
    ok_order (λ s. s.keys) c.order.result (placed c.args.self.now.names.tree.now) c.args.self.now.graph
    c.args.self.now.of_subs c.order.ensures
