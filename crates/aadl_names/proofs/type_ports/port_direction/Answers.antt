use Rattle.std.proofs.Common.{◌∙◌, Some, None, ap}
use Rattle.std.specs.Prelude.{option_map}
use Rattle.aadl_tree.specs.Declarations.{Feature}
use Rattle.aadl_tree.specs.proof.DeclarationViews.{feature_view}
use Rattle.aadl_tree.specs.proof.PlaceMaps.{kept_place}
use Rattle.aadl_names.specs.NameResolution.{features_of, direction_in}
use Rattle.aadl_names.proofs.DeclarationsAndMembers.{view_lent}
use Rattle.aadl_names.proofs.type_ports.port_direction.Goals as goal

pub returns : goal.returns
returns c =
    ap (option_map (λ (p : Feature _). p.direction))
    (view_lent (feature_view kept_place) c.in_ok-type_numbered.field-0.now.features.items c.deref.result.now c.args.port
    (Some c.in_ok-feature.feature) c.deref.ensures.value
    c.in_ok-feature.ensures.lookup)
    ∙ ap (λ t. direction_in (features_of t) c.args.port) c.in_ok-type_numbered.ensures

pub returns-in_err-feature : goal.returns-in_err-feature
returns-in_err-feature c =
    c.from_residual-in_err-feature.ensures
    ∙ (ap (option_map (λ (p : Feature _). p.direction))
    (view_lent (feature_view kept_place) c.in_ok-type_numbered.field-0.now.features.items c.deref.result.now c.args.port
    None c.deref.ensures.value c.in_err-feature.ensures.lookup)
    ∙ ap (λ t. direction_in (features_of t) c.args.port) c.in_ok-type_numbered.ensures)

pub returns-in_err-type_numbered : goal.returns-in_err-type_numbered
returns-in_err-type_numbered c =
    c.from_residual.ensures ∙ ap (λ t. direction_in (features_of t) c.args.port) c.in_err-type_numbered.ensures
