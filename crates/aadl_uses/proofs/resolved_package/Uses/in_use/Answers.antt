use Rattle.std.proofs.Common.{subst, sym}
use Rattle.aadl_tree.specs.proof.PackageViews.{placed}
use Rattle.aadl_uses.specs.proof.ContainmentGraphs.{Graph, IsWithin}
use Rattle.aadl_uses.proofs.PackageContainment.{within, ok_in_use}
use Rattle.aadl_uses.proofs.resolved_package.Uses.in_use.Goals as goal

pub reached-requires-clause-within : goal.reached-requires-clause-within
reached-requires-clause-within c =
    subst (λ (g : Graph). IsWithin g) (sym c.args.self.now.of_subs) (within (placed c.args.self.now.names.tree.now))

pub returns : goal.returns
returns c =
    ok_in_use (λ s. s.keys) c.reached.result (placed c.args.self.now.names.tree.now) c.args.self.now.graph c.args.root
    c.args.self.now.of_subs
    c.reached.ensures
