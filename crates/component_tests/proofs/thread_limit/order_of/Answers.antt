use Rattle.std.proofs.Common.{subst}
use Rattle.aadl_tree.specs.proof.PackageViews.{placed}
use Rattle.aadl_uses.specs.proof.FirstRecursion.{FirstIn}
use Rattle.aadl_uses.specs.Recursion.{IsRecursive}
use Rattle.component_tests.proofs.thread_limit.order_of.Goals as goal

pub order-requires : goal.order-requires
order-requires c =
    λ fault. subst (FirstIn (IsRecursive (placed c.args.uses.now.names.tree.now))) c.in-None.is
    c.in_ok-first_recursive.ensures fault
