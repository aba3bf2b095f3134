use Rattle.std.proofs.Common.{◌∙◌, ◌-◌, length, slice_get, ap}
use Rattle.std.specs.Option.{option_and_then}
use Rattle.aadl_tree.specs.proof.PackageViews.{placed}
use Rattle.aadl_names.specs.NameResolution.{implementation_at, target_of}
use Rattle.component_checks.specs.PropertyLookup.{sub_of}
use Rattle.model_violations.proofs.ConnectionEndTypes.{target_below}
use Rattle.model_violations.proofs.chain_ends.component_number.Goals as goal

pub returns-in-Some : goal.returns-in-Some
returns-in-Some c =
    let tree = placed c.args.uses.now.names.tree.now in
    ap (option_and_then (implementation_at tree)) c.below.ensures
    ∙ target_below tree c.in-Some.sub.now.declaration c.in-Some.sub.now.sub
    ∙ ap (λ o. option_and_then (target_of tree) (option_and_then (sub_of tree) o))
    (c.in-Some.ensures.value ∙ ap (λ l. slice_get l (length l - 1)) c.as_slice.ensures.value)

pub returns-in-None : goal.returns-in-None
returns-in-None c =
    let tree = placed c.args.uses.now.names.tree.now in
    ap (λ o. option_and_then (target_of tree) (option_and_then (sub_of tree) o))
    (c.in-None.ensures.value ∙ ap (λ l. slice_get l (length l - 1)) c.as_slice.ensures.value)
