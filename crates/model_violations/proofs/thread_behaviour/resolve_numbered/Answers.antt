use Rattle.std.proofs.Common.{◌≡◌, ◌∙◌, ◌++◌, Some, map, sym, ap, append_assoc}
use Rattle.std.specs.Prelude.{slice_get}
use Rattle.aadl_tree.specs.proof.PlaceMaps.{kept_place}
use Rattle.aadl_tree.specs.proof.PackageViews.{placed}
use Rattle.aadl_tree.specs.proof.DeclarationViews.{implementation_view}
use Rattle.aadl_tree.specs.proof.AnnexViews.{annex_tree_view, annex_view}
use Rattle.aadl_names.specs.BehaviourAnnexes.{behaviours}
use Rattle.annex_resolve.specs.BehavioursAndFindings.{behaviour_of, annex_findings}
use Rattle.component_checks.specs.TypeFindings.{variables_findings}
use Rattle.model_violations.specs.ThreadBehaviours.{annex_rules, behaviour_by, first_annex}
use Rattle.model_violations.specs.PortsAndVariables.{values_of}
use Rattle.model_violations.proofs.thread_behaviour.resolve_numbered.Goals as goal

pub values_and_scope_of-requires-clause-variables : goal.values_and_scope_of-requires-clause-variables
values_and_scope_of-requires-clause-variables c =
    let items : c.as_slice.result.now ≡ c.args.x.now.annexes.items = cc in
    c.requires.small.variables (c.in-Some.at, annex_tree_view kept_place c.in-Some.annex.now)
    (sym (c.in-Some.ensures ∙ ap (λ l. slice_get (behaviours (map (annex_view kept_place) l)) 0) items))

pub returns-clause-parts : goal.returns-clause-parts
returns-clause-parts c =
    let tree = placed c.args.uses.now.names.tree.now in
    let x = implementation_view kept_place c.args.x.now in
    let view = annex_tree_view kept_place c.in-Some.annex.now in
    let items : c.as_slice.result.now ≡ c.args.x.now.annexes.items = cc in
    let first : Some (c.in-Some.at, view) ≡ first_annex x =
    c.in-Some.ensures ∙ ap (λ l. slice_get (behaviours (map (annex_view kept_place) l)) 0) items in
    ap Some (c.in_ok-parts.ensures.parts
    ∙ ap (λ v. behaviour_of v c.in_ok-values.scope view) c.in_ok-values.ensures.values
    ∙ ap (λ s. behaviour_of (values_of tree x view) s view) c.in_ok-values.ensures.scope)
    ∙ ap (behaviour_by tree x) first

pub returns-clause-found : goal.returns-clause-found
returns-clause-found c =
    let tree = placed c.args.uses.now.names.tree.now in
    let x = implementation_view kept_place c.args.x.now in
    let at = c.in-Some.at in
    let view = annex_tree_view kept_place c.in-Some.annex.now in
    let old = c.args.found.now in
    let types = variables_findings view in
    let values = c.in_ok-values.values in
    let scope = c.in_ok-values.scope in
    let items : c.as_slice.result.now ≡ c.args.x.now.annexes.items = cc in
    let first : Some (at, view) ≡ first_annex x =
    c.in-Some.ensures ∙ ap (λ l. slice_get (behaviours (map (annex_view kept_place) l)) 0) items in
    c.in_ok-parts.ensures.found
    ∙ ap (λ l. l ++ annex_findings values scope at view) c.in_ok-add_variables_findings.ensures
    ∙ append_assoc old types (annex_findings values scope at view)
    ∙ ap (λ v. old ++ (types ++ annex_findings v scope at view)) c.in_ok-values.ensures.values
    ∙ ap (λ s. old ++ (types ++ annex_findings (values_of tree x view) s at view)) c.in_ok-values.ensures.scope
    ∙ ap (λ b. old ++ annex_rules tree x b) first
