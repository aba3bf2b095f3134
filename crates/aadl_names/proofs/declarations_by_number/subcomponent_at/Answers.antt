use Rattle.std.proofs.Common.{◌∙◌, ap}
use Rattle.std.specs.Prelude.{slice_get}
use Rattle.aadl_tree.specs.proof.DeclarationViews.{subcomponent_view}
use Rattle.aadl_tree.specs.proof.PlaceMaps.{kept_place}
use Rattle.aadl_names.specs.NameResolution.{subcomponents_of}
use Rattle.aadl_names.proofs.DeclarationsAndMembers.{view_lent}
use Rattle.aadl_names.proofs.declarations_by_number.subcomponent_at.Goals as goal

pub returns-in-Some : goal.returns-in-Some
returns-in-Some c =
    view_lent (subcomponent_view kept_place) c.in-Some.x.now.subcomponents.items c.deref.result.now c.args.sub
    c.get.result c.deref.ensures.value c.get.ensures.lookup
    ∙ ap (λ x. slice_get (subcomponents_of x) c.args.sub) c.in-Some.ensures

pub returns-in-None : goal.returns-in-None
returns-in-None c = ap (λ x. slice_get (subcomponents_of x) c.args.sub) c.in-None.ensures
