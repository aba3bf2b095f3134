use Rattle.std.proofs.Common.{ap, ◌∙◌}
use Rattle.list_lemmas.proofs.Results.{OnOk-same}
use Rattle.aadl_tree.specs.proof.PackageViews.{placed}
use Rattle.aadl_tree.specs.proof.DeclarationViews.{implementation_view}
use Rattle.aadl_tree.specs.proof.PlaceMaps.{kept_place}
use Rattle.aadl_names.specs.proof.FirstFaultSoFar.{found}
use Rattle.aadl_names.specs.NameResolution.{type_numbered}
use Rattle.aadl_names.specs.PackageNameFaults.{comes_first, behaviour_faults}
use Rattle.name_faults.proofs.EqualNameRoles.{for_all, same_uses, same_order}
use Rattle.name_faults.proofs.behaviours.check_behaviour.Goals as goal

pub returns : goal.returns
unfolding behaviour_faults
returns c =
    let tree = placed c.args.typed.now.tree.now in
    let x = implementation_view kept_place c.args.typed.now.implementation.now in
    OnOk-same c.check_transitions.result c.check_transitions.new.finder _ _
    (ap (found c.args.finder.now) (same_uses _ _ _ _ _ _
    (for_all _ _ c.in_ok-states.ensures)
    (c.scope_of-scope.ensures
    ∙ same_order _ _ _ _ _ _ (c.comes_first.ensures ∙ ap (λ n. comes_first (type_numbered tree n) x) c.requires.of_type)
    (for_all _ _ c.requires.roles)
    (for_all _ _ c.in_ok-variables.ensures))
    c.transitions_in.ensures))
    c.check_transitions.ensures
