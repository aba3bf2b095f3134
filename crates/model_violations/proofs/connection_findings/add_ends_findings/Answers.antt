use Rattle.std.proofs.Common.{◌≡◌, ◌∙◌, ◌++◌, ap}
use Rattle.std.specs.Option.{option_and_then}
use Rattle.aadl_tree.specs.proof.PlaceMaps.{kept_place}
use Rattle.aadl_tree.specs.proof.PackageViews.{placed}
use Rattle.aadl_tree.specs.proof.DeclarationViews.{connection_view}
use Rattle.aadl_uses.specs.declared.connections_by_target.ConnectionPorts.{ConnectionPorts}
use Rattle.annex_resolve.specs.ExpressionTypesAndFindings.{misfit}
use Rattle.model_violations.specs.ConnectionFindings.{site_kind, kind_at}
use Rattle.model_violations.proofs.connection_findings.add_ends_findings.Goals as goal

pub returns : goal.returns
returns c = λ x is.
    let tree = placed c.args.wires.now.uses.names.tree.now in
    let view = connection_view kept_place c.args.connection.now in
    let wire = c.wire_at-wire.ensures x view is in
    let source : c.kind_at-source.result ≡ kind_at tree x view.source =
    c.kind_at-source.ensures x is.declared ∙ ap (λ (w : ConnectionPorts). option_and_then (site_kind tree x) w.source)
    wire in
    let target : c.kind_at-target.result ≡ kind_at tree x view.target =
    c.kind_at-target.ensures x is.declared ∙ ap (λ (w : ConnectionPorts). option_and_then (site_kind tree x) w.target)
    wire in
    c.in_ok-expect.ensures ∙ ap (λ s. c.args.found.now ++ misfit view.name.at s c.kind_at-target.result) source
    ∙ ap (λ t. c.args.found.now ++ misfit view.name.at (kind_at tree x view.source) t) target
