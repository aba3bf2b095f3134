use Rattle.std.proofs.Common.{◌∙◌, Some, None, ap}
use Rattle.std.specs.Option.{option_and_then}
use Rattle.aadl_tree.specs.Declarations.{Feature}
use Rattle.aadl_tree.specs.proof.PlaceMaps.{kept_place}
use Rattle.aadl_tree.specs.proof.DeclarationViews.{feature_view}
use Rattle.aadl_names.specs.NameResolution.{features_of}
use Rattle.aadl_names.proofs.DeclarationsAndMembers.{view_lent}
use Rattle.annex_resolve.specs.ExpressionTypesAndFindings.{kind_in}
use Rattle.model_violations.specs.ConnectionFindings.{kind_numbered}
use Rattle.model_violations.proofs.connection_findings.kind_numbered.Goals as goal

pub returns : goal.returns
returns c =
    c.kind_in.ensures
    ∙ (ap (option_and_then (λ (f : Feature _). kind_in f.data_type))
    (view_lent (feature_view kept_place) c.in_ok-of_type.of_type.now.features.items c.deref.result.now c.args.port
    (Some c.in_ok-port.port) c.deref.ensures.value c.in_ok-port.ensures.lookup)
    ∙ ap (λ t. kind_numbered (features_of t) c.args.port) c.in_ok-of_type.ensures)

pub returns-in_err-port : goal.returns-in_err-port
returns-in_err-port c =
    c.from_residual-in_err-port.ensures
    ∙ (ap (option_and_then (λ (f : Feature _). kind_in f.data_type))
    (view_lent (feature_view kept_place) c.in_ok-of_type.of_type.now.features.items c.deref.result.now c.args.port None
    c.deref.ensures.value c.in_err-port.ensures.lookup)
    ∙ ap (λ t. kind_numbered (features_of t) c.args.port) c.in_ok-of_type.ensures)

pub returns-in_err-of_type : goal.returns-in_err-of_type
returns-in_err-of_type c =
    c.from_residual.ensures ∙ ap (λ t. kind_numbered (features_of t) c.args.port) c.in_err-of_type.ensures
