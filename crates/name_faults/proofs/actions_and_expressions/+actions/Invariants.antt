use Rattle.std.proofs.Common.{◌≡◌, drop}
use Rattle.aadl_tree.specs.proof.ActionViews.{mores_view, elsifs_view}
use Rattle.aadl_tree.specs.proof.PlaceMaps.{kept_place}
use Rattle.aadl_names.specs.NameUseFaults.{mores_uses, elsifs_uses}
use Rattle.aadl_names.specs.proof.FirstFaultSoFar.{found}
use Rattle.name_faults.specs.proof.BehaviourScopes.{known_by}
use Rattle.name_faults.proofs.actions_and_expressions.+actions.Given as goal

-- the remaining part is still to be checked
abbrev pub invariant-check_actions-loop-action : goal.invariant-check_actions-loop-action
invariant-check_actions-loop-action l =
    found l.initial.finder (mores_uses (known_by l.scope) (mores_view kept_place l.action-items))
    ≡ found l.finder (mores_uses (known_by l.scope) (mores_view kept_place (drop l.action-index l.action-items)))

abbrev pub invariant-check_choice-loop-elsif : goal.invariant-check_choice-loop-elsif
invariant-check_choice-loop-elsif l =
    found l.initial.finder (elsifs_uses (known_by l.scope) (elsifs_view kept_place l.elsif-items))
    ≡ found l.finder (elsifs_uses (known_by l.scope) (elsifs_view kept_place (drop l.elsif-index l.elsif-items)))
