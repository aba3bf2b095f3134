use Rattle.std.proofs.Common.{◌∙◌, subst, sym, List, ℕ, Some}
use Rattle.aadl_tree.specs.proof.PackageViews.{placed}
use Rattle.aadl_tree.specs.proof.PlaceMaps.{kept_place}
use Rattle.aadl_tree.specs.proof.DeclarationViews.{subcomponent_view}
use Rattle.aadl_names.specs.declared.fault.PackageFault.TheVariants.{Recursive}
use Rattle.aadl_uses.specs.proof.ContainmentGraphs.{Graph, IsWithin, LeadsBack}
use Rattle.aadl_uses.specs.proof.FirstRecursion.{IsSooner}
use Rattle.aadl_uses.proofs.PackageContainment.{within}
use Rattle.aadl_uses.proofs.FirstRecursion.{sooner_new}
use Rattle.aadl_uses.proofs.recursion.sooner.Goals as goal

pub leads_back-requires : goal.leads_back-requires
leads_back-requires c =
    subst (λ (g : Graph). IsWithin g) (sym c.containment.ensures) (within (placed c.args.uses.now.names.tree.now))

pub returns : goal.returns
returns c =
    let tree = placed c.args.uses.now.names.tree.now in
    let n = c.args.within in
    let s = c.args.sub in
    let sub = subcomponent_view kept_place c.in-Some.declared.now in
    subst (λ (name : List ℕ). IsSooner tree c.args.first n s (Some (Recursive name sub.name.at)))
    (sym (c.in_ok-from_str.ensures ∙ c.as_str.ensures.value))
    (sooner_new tree c.args.first n s sub (sym c.in-Some.ensures)
    (sym c.comes_first.ensures ∙ c.if-not-comes_first.false)
    (subst (λ (g : Graph). LeadsBack g n s) c.containment.ensures (c.in_ok-leads_back.ensures.0 c.if-not-branch.false)))
