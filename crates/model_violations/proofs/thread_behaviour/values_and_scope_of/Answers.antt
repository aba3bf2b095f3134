use Rattle.std.proofs.Common.{◌≡◌, ◌∙◌, map, length, ap, arith}
use Rattle.aadl_tree.specs.proof.PlaceMaps.{kept_place}
use Rattle.aadl_tree.specs.proof.PackageViews.{placed}
use Rattle.aadl_tree.specs.proof.DeclarationViews.{feature_view, implementation_view}
use Rattle.aadl_tree.specs.proof.AnnexViews.{annex_tree_view}
use Rattle.aadl_names.specs.NameResolution.{ports_at}
use Rattle.model_violations.specs.PortsAndVariables.{ins_in, outs_in, variables_of, values_by, scope_by}
use Rattle.model_violations.proofs.PortAndVariableLists.{ports_both, of_lists}
use Rattle.model_violations.proofs.thread_behaviour.values_and_scope_of.Goals as goal

pub values_and_scope_by-requires-clause-ins : goal.values_and_scope_by-requires-clause-ins
values_and_scope_by-requires-clause-ins c =
    let both = ports_both (map (feature_view kept_place) c.ports-ports.result.now) in
    let ports =
    ap length (c.ports-ports.ensures ∙ ap (ports_at (placed c.args.uses.now.names.tree.now)) c.requires.number) in
    omega (arith, both, ap length c.in_ok-ins.ensures, ports)

pub values_and_scope_by-requires-clause-outs : goal.values_and_scope_by-requires-clause-outs
values_and_scope_by-requires-clause-outs c =
    let both = ports_both (map (feature_view kept_place) c.ports-ports.result.now) in
    let ports =
    ap length (c.ports-ports.ensures ∙ ap (ports_at (placed c.args.uses.now.names.tree.now)) c.requires.number) in
    omega (arith, both, ap length c.in_ok-outs.ensures, ports)

pub values_and_scope_by-requires-clause-variables : goal.values_and_scope_by-requires-clause-variables
values_and_scope_by-requires-clause-variables c = omega (arith, ap length c.in_ok-variables.ensures)

pub returns-clause-values : goal.returns-clause-values
returns-clause-values c =
    let tree = placed c.args.uses.now.names.tree.now in
    let ports = map (feature_view kept_place) c.ports-ports.result.now in
    let ins : c.as_slice.result.now ≡ ins_in ports = c.as_slice.ensures.value ∙ c.in_ok-ins.ensures in
    let outs : c.as_slice-2.result.now ≡ outs_in ports = c.as_slice-2.ensures.value ∙ c.in_ok-outs.ensures in
    let variables : c.as_slice-3.result.now ≡ variables_of (annex_tree_view kept_place c.args.annex.now) =
    c.as_slice-3.ensures.value ∙ c.in_ok-variables.ensures in
    c.in_ok-setting.ensures.values
    ∙ of_lists values_by tree (implementation_view kept_place c.args.x.now)
    (annex_tree_view kept_place c.args.annex.now) ports _ _ _
    (c.ports-ports.ensures ∙ ap (ports_at tree) c.requires.number)
    ins outs variables

pub returns-clause-scope : goal.returns-clause-scope
returns-clause-scope c =
    let tree = placed c.args.uses.now.names.tree.now in
    let ports = map (feature_view kept_place) c.ports-ports.result.now in
    let ins : c.as_slice.result.now ≡ ins_in ports = c.as_slice.ensures.value ∙ c.in_ok-ins.ensures in
    let outs : c.as_slice-2.result.now ≡ outs_in ports = c.as_slice-2.ensures.value ∙ c.in_ok-outs.ensures in
    let variables : c.as_slice-3.result.now ≡ variables_of (annex_tree_view kept_place c.args.annex.now) =
    c.as_slice-3.ensures.value ∙ c.in_ok-variables.ensures in
    c.in_ok-setting.ensures.scope
    ∙ of_lists scope_by tree (implementation_view kept_place c.args.x.now) (annex_tree_view kept_place c.args.annex.now)
    ports _ _ _ (c.ports-ports.ensures ∙ ap (ports_at tree) c.requires.number)
    ins outs variables
