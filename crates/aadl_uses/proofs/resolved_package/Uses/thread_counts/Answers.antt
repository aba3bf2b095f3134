use Rattle.std.proofs.Common.{◌∙◌, subst, sym}
use Rattle.aadl_tree.specs.proof.PackageViews.{placed}
use Rattle.aadl_uses.specs.proof.ContainmentGraphs.{Graph}
use Rattle.aadl_uses.specs.proof.ContainmentOrders.{IsOrder}
use Rattle.aadl_uses.proofs.ThreadCounts.{ok_counts}
use Rattle.aadl_uses.proofs.resolved_package.Uses.thread_counts.Goals as goal

pub counts_below-requires : goal.counts_below-requires
counts_below-requires c =
    subst (λ (g : Graph). IsOrder g c.args.order.now.keys) (sym c.args.self.now.of_subs) c.requires

pub returns : goal.returns
returns c =
    ok_counts (λ v. v.items) c.counts_below.result (placed c.args.self.now.names.tree.now) c.args.limit
    c.args.self.now.graph c.as_slice.result.now c.args.self.now.of_subs
    (c.as_slice.ensures.value ∙ c.in_ok-marks.ensures) c.counts_below.ensures
