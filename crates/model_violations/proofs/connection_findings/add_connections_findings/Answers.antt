use Rattle.std.proofs.Common.{◌<◌, ◌∙◌, length, get_or, refl, ap, arith}
use Rattle.std.specs.Prelude.{option_map}
use Rattle.std.proofs.lemmas.Option.{slice_get-map, slice_get_read}
use Rattle.aadl_tree.specs.proof.DeclarationViews.{connection_view, implementation_view}
use Rattle.aadl_tree.specs.proof.PlaceMaps.{kept_place}
use Rattle.aadl_tree.specs.proof.PackageViews.{placed}
use Rattle.aadl_names.specs.NameResolution.{implementation_in}
use Rattle.model_violations.specs.ConnectionsAndCarriers.{carries}
use Rattle.model_violations.specs.ConnectionFindings.{connection_findings}
use Rattle.component_checks.proofs.EnumeratedLists.{one_more}
use Rattle.model_violations.proofs.connection_findings.add_connections_findings.Goals as goal

pub loop-at-preserved : goal.loop-at-preserved
loop-at-preserved c =
    let x = implementation_view kept_place c.args.x.now in
    let items = c.args.x.now.connections.items in
    let within : c.loop-at.at < length items = omega (arith, ap length c.deref-connection-items.ensures.value) in
    let is =
    c.connection-item.is ∙ ap (λ l. get_or l c.loop-at.at c.connection-item.result)
    c.deref-connection-items.ensures.value in
    one_more (connection_findings (placed c.args.wires.now.uses.names.tree.now) (carries c.args.carriers.now)
    c.args.number x) (connection_view kept_place) items c.loop-at.at c.connection-item.result
    c.args.found.now _ _ within
    is c.loop-at.invariant
    (c.in_ok-add_connection_findings.ensures x
    (record {
      declared = ap implementation_in c.requires;
      listed = slice_get-map (connection_view kept_place) items c.loop-at.at
          ∙ ap (option_map (connection_view kept_place))
          (slice_get_read items (length items) c.loop-at.at c.connection-item.result refl within is);
    }))
