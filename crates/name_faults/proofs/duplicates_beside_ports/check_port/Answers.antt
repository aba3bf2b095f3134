use Rattle.std.proofs.Common.{◌∷◌, [], Some, None, refl, sym, ap, ◌∙◌}
use Rattle.std.proofs.lemmas.Option.{slice_get_read, slice_get_past}
use Rattle.list_lemmas.proofs.Results.{OnOk-same}
use Rattle.aadl_tree.specs.proof.DeclarationViews.{feature_view}
use Rattle.aadl_tree.specs.proof.PlaceMaps.{kept_place}
use Rattle.aadl_names.specs.declared.fault.PackageFault.TheVariants.{Twice}
use Rattle.aadl_names.specs.proof.FirstFaultSoFar.{found}
use Rattle.aadl_names.specs.proof.DuplicatesBesidePorts.{entry_again}
use Rattle.name_faults.proofs.PortEntries.{entry_there}
use Rattle.name_faults.proofs.duplicates_beside_ports.check_port.Goals as goal

pub returns-in-Some : goal.returns-in-Some
returns-in-Some c =
    let port = c.in-Some.port.now in
    let got = c.in-Some.ensures.lookup in
    OnOk-same c.twice.result c.twice.new.self _ _
    (ap (found c.args.finder.now)
    (ap (λ name. Twice name port.name.at ∷ []) c.as_str.ensures.value
    ∙ sym (ap entry_again (entry_there (feature_view kept_place) c.args.ports.now c.args.number (Some port)
    (slice_get_read c.args.ports.now _ c.args.number port refl got.3.0 got.1)))))
    c.twice.ensures

pub returns-in-None : goal.returns-in-None
returns-in-None c =
    sym (ap (λ o. found c.args.finder.now (entry_again o))
    (entry_there (feature_view kept_place) c.args.ports.now c.args.number None
    (slice_get_past c.args.ports.now c.args.number c.in-None.ensures.lookup.3)))
