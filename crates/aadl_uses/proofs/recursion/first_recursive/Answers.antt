use Rattle.std.proofs.Common.{subst, sym, Contains, List, ℕ}
use Rattle.aadl_tree.specs.proof.PackageViews.{placed}
use Rattle.aadl_uses.specs.proof.ContainmentGraphs.{Graph, LeadsBack}
use Rattle.aadl_uses.proofs.FirstRecursion.{ok_first}
use Rattle.aadl_uses.proofs.recursion.first_recursive.Goals as goal

pub returns : goal.returns
returns c =
    ok_first c.first_of.result (placed c.args.uses.now.names.tree.now) c.as_slice.result.now
    (λ n s back. subst (λ (l : List (ℕ × ℕ)). Contains l (n, s)) (sym c.as_slice.ensures.value)
    (c.in_ok-suspects.ensures n s (subst (λ (g : Graph). LeadsBack g n s) (sym c.containment.ensures) back)))
    c.first_of.ensures
