use Rattle.std.proofs.Common.{◌∙◌, filter, slice_get, ap}
use Rattle.aadl_tree.specs.proof.PackageViews.{placed}
use Rattle.aadl_names.specs.NameResolution.{ports_at}
use Rattle.component_checks.specs.TypeFindings.{is_in}
use Rattle.model_violations.proofs.chain_ends.thread_in.Goals as goal

pub returns-in-Some : goal.returns-in-Some
returns-in-Some c =
    let tree = placed c.args.uses.now.names.tree.now in
    c.in_port.ensures ∙ ap (λ l. slice_get (filter is_in l) c.args.number)
    (c.ports.ensures ∙ ap (ports_at tree) c.in-Some.ensures)

pub returns-in-None : goal.returns-in-None
returns-in-None c =
    let tree = placed c.args.uses.now.names.tree.now in
    ap (λ o. slice_get (filter is_in (ports_at tree o)) c.args.number) c.in-None.ensures
