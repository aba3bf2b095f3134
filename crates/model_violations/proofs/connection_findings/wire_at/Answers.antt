use Rattle.std.proofs.Common.{◌∙◌, refl, sym, ap, slice_get}
use Rattle.std.proofs.lemmas.Option.{none-some, slice_get_read, slice_get_past}
use Rattle.aadl_tree.specs.proof.PackageViews.{placed}
use Rattle.aadl_uses.specs.PortsOfConnections.{ports_of_connection}
use Rattle.model_violations.proofs.ConnectionEndTypes.{wire_is, joined}
use Rattle.model_violations.proofs.connection_findings.wire_at.Goals as goal

pub returns-in-Some : goal.returns-in-Some
returns-in-Some c = λ x view is.
    let tree = placed c.args.wires.now.uses.names.tree.now in
    let got = c.in-Some.ensures.lookup in
    joined tree c.args.place.declaration c.args.place.connection x view c.in-Some.wire.now is
    (ap (λ l. slice_get l c.args.place.connection) (sym c.wires.ensures)
    ∙ slice_get_read c.wires.result.now _ c.args.place.connection c.in-Some.wire.now refl got.3.0 got.1)

pub returns-in-None : goal.returns-in-None
returns-in-None c = λ x view is.
    let tree = placed c.args.wires.now.uses.names.tree.now in
    let none =
    ap (λ l. slice_get l c.args.place.connection) (sym c.wires.ensures)
    ∙ slice_get_past c.wires.result.now c.args.place.connection c.in-None.ensures.lookup.3 in
    absurd (none-some (ports_of_connection tree x view)
    (sym none ∙ wire_is tree c.args.place.declaration c.args.place.connection x view is))
